-- The lines of a suite are a run of it.
use Rattle.std.proofs.Common.{◌≡◌, ℕ, suc, ◌+◌, ◌-◌, ◌≤◌, Bool, true, false, List, [], ◌∷◌, ◌++◌, length, take}
use Rattle.std.proofs.Common.{Option, Some, None, Result, Ok, Err, refl, sym, ap, ◌∙◌, subst, arith, is_none, inl, inr}
use Rattle.std.proofs.Common.{if◌then◌else◌, ◌==◌, append_assoc}
use Rattle.std.specs.Prelude.{flat_map, nat_lt}
use Rattle.std.specs.List.{All, onto_first}
use Rattle.std.specs.Io.KnownBytes.{Appends, Consumes}
use Rattle.std.specs.declared.cmp.Ordering.{Ordering}
use Rattle.std.specs.declared.cmp.Ordering.TheVariants.{Less, Equal, Greater}
use Rattle.std.proofs.lemmas.Grind.{flat_map-append}
use Rattle.std.proofs.lemmas.List.Elements.{All-nil, All-cons}
use Rattle.std.proofs.lemmas.List.{length-take, take-append-le}
use Rattle.std.proofs.Math.Seq.{take-length}
use Rattle.tai_status.specs.Counted.{Device, AppendsFront}
use Rattle.tai_status.specs.Lines.{texts_of}
use Rattle.cmd_base.specs.Console.{Console}
use Rattle.cmd_base.specs.Printed.{printed}
use Rattle.sup_core.specs.declared.reading.EventFault.{EventFault}
use Rattle.sup_core.specs.declared.reading.EventFault.TheVariants as fault
use Rattle.sup_core.specs.Reading.{fields, begin_from}
use Rattle.scan_table.specs.declared.fault.ScanFault.{ScanFault}
use Rattle.scan_table.specs.declared.fault.ScanFault.TheVariants as scan
use Rattle.scan_table.specs.Slots.{Row, name_order}
use Rattle.scan_table.specs.Scan.{is_exhausted}
use Rattle.scan_table.specs.Order.{fault_at, order_fault_after, order_fault, numbers_fault}
use Rattle.scan_table.specs.Table.{TableState}
use Rattle.suite_lines.specs.declared.event.SuiteEvent.TheVariants.{Scan, At}
use Rattle.suite_lines.specs.Reading.{suite_event_from}
use Rattle.suite_lines.specs.Text.{step_lines}
use Rattle.suite_lines.proofs.EventTexts.{suite_event_text-suite_event_from}
use Rattle.suite_core.specs.declared.fault.StepFault.{StepFault}
use Rattle.suite_core.specs.declared.fault.StepFault.TheVariants as step
use Rattle.suite_core.specs.Parts.{trace_of}
use Rattle.suite_core.specs.Suite.{SuiteState, new_suite, IsSuiteEvent, fault_of_scan, refusal, outs_of}
use Rattle.suite_core.specs.Suite.{suite_after}
use Rattle.suite_core.specs.Places.{IsSuite}
use Rattle.suite_core.specs.Run.{AreAccepted, BeginAsRowsSay, ReplyByOwnHistory, outs_along}
use Rattle.suite_core.proofs.Runs.{by-own-events, leaves-others, replies-by-history}
use Rattle.suite_core.proofs.Begins.{begins-as-rows-say}
use Rattle.cmd_sim.specs.declared.fault.Why.{Why}
use Rattle.cmd_sim.specs.declared.fault.Why.TheVariants as why
use Rattle.cmd_sim.specs.Sim.{Past, Nothing, OfSuite, Said, Refusal, event_why, refused_step, stepped_unless, stepping}
use Rattle.cmd_sim.specs.Sim.{said, spells_scan, answers, first_refused, begins_suite, beginning, AnswersWhole}
use Rattle.cmd_sim.specs.Sim.{AnswersBefore, AnswersPart, AnswersLines, MissesAt}
use Rattle.cmd_sim.specs.declared.fault.SimFault.{SimFault}
use Rattle.cmd_sim.specs.declared.fault.SimFault.TheVariants as sim
use Rattle.cmd_sim.specs.Ends.{AnswersByStatus, SimCause}
use Rattle.cmd_sim.specs.Headline.{LineEvent, event_of_line, spelt, events_of, suite_answers, RunsSuite, WritesRun}
use Rattle.cmd_sim.specs.Headline.{WritesRunFront, AllRun, LinesBeforeRun, FirstLinesRun, Headline}
use Rattle.cmd_sim.proofs.Answered.{IsSuiteEvent-spellable}
use Rattle.cmd_sim.proofs.Steps.{Consumes-nothing, answers-said, answers-refused, first_refused-said}
use Rattle.cmd_sim.proofs.Steps.{first_refused-refused}

-- Each refusal has a name.

abbrev IsNamed : Option ScanFault → Type 0
IsNamed o = refused_step (fault_of_scan o) ≡ None → o ≡ None

named_at : (place : ℕ) (order : Ordering) (later : Option ScanFault) → IsNamed later
    → IsNamed (fault_at place order later)
named_at place Less later is = is
named_at place Equal later is = λ none. cc none
named_at place Greater later is = λ none. cc none

named_after : (place : ℕ) (name : List ℕ) (rows : List Row) → IsNamed (order_fault_after place name rows)
named_after place name [] = λ none. refl
named_after place name (row ∷ rows) =
    named_at place (name_order name row.name) (order_fault_after (place + 1) row.name rows)
    (named_after (place + 1) row.name rows)

named_order : (rows : List Row) → IsNamed (order_fault rows)
named_order [] = λ none. refl
named_order (row ∷ rows) = named_after 1 row.name rows

named_numbers : (table : TableState) (rows : List Row) (o : Option ScanFault) → IsNamed o
    → IsNamed (numbers_fault table rows o)
named_numbers table rows (Some why) is = is
named_numbers table rows None is =
    elim (is_exhausted table.slots table.next rows) as (λ b. IsNamed (if b then Some scan.Exhausted else None)) [
      | true ↦ λ none. cc none
      | false ↦ λ none. refl
    ]

free : (suite : SuiteState) (event : LineEvent) → refused_step (refusal suite event) ≡ None
    → refusal suite event ≡ None
free suite (At id event) =
    elim (is_none (trace_of suite.parts id)) as (λ b.
    refused_step (if b then Some step.NoSuchPart else None) ≡ None → (if b then Some step.NoSuchPart else None) ≡ None) [
      | true ↦ λ none. cc none
      | false ↦ λ none. refl
    ]
free suite (Scan rows label) = λ none.
    ap fault_of_scan (named_numbers suite.table rows (order_fault rows) (named_order rows) none)

-- The meaning of a suite's line

said_of : (suite : SuiteState) (line : List ℕ) → said (OfSuite suite) line ≡ stepping suite (event_of_line line)
said_of suite line =
    elim (nat_lt 65536 (length line)) as (λ b.
    (if b then Err why.Line else stepping {A = Unit {0}} suite (suite_event_from (fields line)))
    ≡ stepping {A = Unit {0}} suite (if b then Err fault.Line else suite_event_from (fields line)))
    [ true ↦ refl | false ↦ refl ]

spelt_is : (line : List ℕ) (event : LineEvent) → event_of_line line ≡ Ok event → IsSuiteEvent event
spelt_is line event =
    elim (nat_lt 65536 (length line)) as (λ b.
    (if b then Err fault.Line else suite_event_from (fields line)) ≡ Ok event → IsSuiteEvent event) [
      | true ↦ λ is. cc is
      | false ↦ λ is. IsSuiteEvent-spellable event (suite_event_text-suite_event_from line event is).0
    ]

-- The first lines, up to the one that is refused, are a run of the suite.
record Answers (number : ℕ) (suite : SuiteState) (past : Past) (lines : List (List ℕ)) : Type 0 where
  pub count : ℕ
  pub within : count ≤ length lines
  pub spells : length (events_of (take count lines)) ≡ count
  pub conditions : All IsSuiteEvent (events_of (take count lines))
  pub accepted : AreAccepted suite (events_of (take count lines))
  pub answers_are : answers past lines ≡ flat_map step_lines (outs_along suite (events_of (take count lines)))
  pub all : first_refused number past lines ≡ None → count ≡ length lines
  pub before : (r : Refusal) → first_refused number past lines ≡ Some r → r.line ≡ number + count

none_answered : (number : ℕ) (suite : SuiteState) (past : Past) (line : List ℕ) (lines : List (List ℕ)) (reason : Why)
    → said past line ≡ Err reason → Answers number suite past (line ∷ lines)
none_answered number suite past line lines reason is =
    let refused = first_refused-refused number past line lines reason is in
    record {
      count = 0;
      within = omega arith;
      spells = refl;
      conditions = All-nil IsSuiteEvent;
      accepted = tt;
      answers_are = answers-refused past line lines reason is;
      all = λ none. let other = sym refused ∙ none in cc other;
      before = λ r here. let same : record { line = number; why = reason } ≡ r = cc (refused, here) in
          omega (arith, ap (λ (s : Refusal). s.line) same);
    }

one_more : (number : ℕ) (suite : SuiteState) (line : List ℕ) (lines : List (List ℕ)) (event : LineEvent)
    → event_of_line line ≡ Ok event → refusal suite event ≡ None
    → Answers (number + 1) (suite_after suite event) (OfSuite (suite_after suite event)) lines
    → Answers number suite (OfSuite suite) (line ∷ lines)
one_more number suite line lines event is none rest =
    let later = take rest.count lines in
    let next = suite_after suite event in
    let events : events_of (line ∷ later) ≡ event ∷ events_of later =
    ap (λ (r : Result LineEvent EventFault). spelt r ++ events_of later) is in
    let answer : Said = record { texts = flat_map step_lines (outs_of suite event); past = OfSuite next } in
    let says : said (OfSuite suite) line ≡ Ok answer =
    said_of suite line ∙ ap (stepping suite) is
    ∙ ap (λ (r : Option StepFault). stepped_unless (refused_step r) suite event) none in
    let refused = first_refused-said number (OfSuite suite) line lines answer says in
    record {
      count = suc rest.count;
      within = let w = rest.within in omega (arith, w);
      spells = ap length events ∙ ap suc rest.spells;
      conditions = subst (All IsSuiteEvent) (sym events)
          (All-cons IsSuiteEvent event (events_of later) (spelt_is line event is) rest.conditions);
      accepted = subst (AreAccepted suite) (sym events) (none, rest.accepted);
      answers_are = answers-said (OfSuite suite) line lines answer says
          ∙ ap (λ (t : List (List ℕ)). answer.texts ++ t) rest.answers_are
          ∙ sym (flat_map-append step_lines (outs_of suite event) (outs_along next (events_of later)))
          ∙ ap (λ (es : List LineEvent). flat_map step_lines (outs_along suite es)) (sym events);
      all = λ all_none. ap suc (rest.all (sym refused ∙ all_none));
      before = λ r here. let b = rest.before r (sym refused ∙ here) in omega (arith, b);
    }

suite_run : (number : ℕ) (suite : SuiteState) (lines : List (List ℕ)) → Answers number suite (OfSuite suite) lines
suite_run number suite [] = record {
  count = 0;
  within = omega arith;
  spells = refl;
  conditions = All-nil IsSuiteEvent;
  accepted = tt;
  answers_are = refl;
  all = λ none. refl;
  before = λ r here. cc here;
}
suite_run number suite (line ∷ lines) =
    elim (event_of_line line) as (λ read. event_of_line line ≡ read
    → Answers number suite (OfSuite suite) (line ∷ lines)) [
      | (Err why) ↦ λ is.
          none_answered number suite (OfSuite suite) line lines (event_why why)
          (said_of suite line ∙ ap (stepping suite) is)
      | (Ok event) ↦ λ is. elim (refused_step (refusal suite event)) as (λ o. refused_step (refusal suite event) ≡ o
          → Answers number suite (OfSuite suite) (line ∷ lines)) [
            | (Some reason) ↦ λ refused.
                none_answered number suite (OfSuite suite) line lines reason
                (said_of suite line ∙ ap (stepping suite) is
                ∙ ap (λ (o : Option Why). stepped_unless o suite event) refused)
            | None ↦ λ refused.
                one_more number suite line lines event is (free suite event refused)
                (suite_run (number + 1) (suite_after suite event) lines)
          ] refl
    ] refl

-- A suite's first line is the first event of a new suite.
abbrev start : SuiteState
start = new_suite 0 256

first_said : (line : List ℕ) → spells_scan (fields line) ≡ true → said Nothing line ≡ said (OfSuite start) line
first_said line scans =
    ap (λ (b : Bool). if nat_lt 65536 (length line) then Err why.Line
    else (if b then stepping start (suite_event_from {A = Unit {0}} (fields line))
    else beginning (begin_from (fields line)))) scans

first_answers : (lines : List (List ℕ)) → begins_suite lines ≡ true
    → answers Nothing lines ≡ answers (OfSuite start) lines
first_answers [] scans = refl
first_answers (line ∷ lines) scans = rw (first_said line scans, answers) refl

first_refusal : (number : ℕ) (lines : List (List ℕ)) → begins_suite lines ≡ true
    → first_refused number Nothing lines ≡ first_refused number (OfSuite start) lines
first_refusal number [] scans = refl
first_refusal number (line ∷ lines) scans = rw (first_said line scans, first_refused) refl

first_run : (lines : List (List ℕ)) → begins_suite lines ≡ true → Answers 1 start Nothing lines
first_run lines scans =
    let run = suite_run 1 start lines in
    let refusal_is = first_refusal 1 lines scans in
    record {
      count = run.count;
      within = run.within;
      spells = run.spells;
      conditions = run.conditions;
      accepted = run.accepted;
      answers_are = first_answers lines scans ∙ run.answers_are;
      all = λ none. run.all (sym refusal_is ∙ none);
      before = λ r here. run.before r (sym refusal_is ∙ here);
    }

is_start : IsSuite start
is_start = record {
  room = omega arith;
  limit = omega arith;
  rising = λ i j d b w. absurd (omega (arith, b, w));
  numbered = λ k d w. absurd (omega (arith, w));
  tied = refl;
  traces = λ k d w. absurd (omega (arith, w));
}

accepted_runs : (lines : List (List ℕ)) → length (events_of lines) ≡ length lines → All IsSuiteEvent (events_of lines)
    → AreAccepted start (events_of lines) → RunsSuite lines
accepted_runs lines count conditions accepted =
    let events = events_of lines in
    let all = subst (AreAccepted start) (sym (take-length events)) accepted in
    record {
      each_spells = count;
      accepted = accepted;
      replies = subst (λ (n : ℕ). ReplyByOwnHistory start events n) count
          (replies-by-history start events (length events) is_start conditions all);
      own = by-own-events start events (length lines) is_start conditions;
      others = leaves-others start events (length lines) is_start conditions;
      begins = subst (λ (n : ℕ). BeginAsRowsSay start events n) count
          (begins-as-rows-say start events (length events) is_start conditions all);
    }

runs_suite : (lines : List (List ℕ)) (run : Answers 1 start Nothing lines) → RunsSuite (take run.count lines)
runs_suite lines run =
    let count : length (events_of (take run.count lines)) ≡ length (take run.count lines) =
    run.spells ∙ (let t = length-take run.count lines in let w = run.within in omega (arith, t, w)) in
    accepted_runs (take run.count lines) count run.conditions run.accepted

-- How it ends

pub all_run : (before held holds : Option (List ℕ)) → AnswersWhole before held holds → AllRun before held holds
all_run before held holds whole input is scans =
    let lines = texts_of input in
    let run = first_run lines scans in
    let ends = whole input is in
    let all : take run.count lines ≡ lines =
    ap (λ (n : ℕ). take n lines) (run.all ends.0) ∙ take-length lines in
    subst (λ (ls : List (List ℕ)). WritesRun ls held holds) all (record {
      runs = runs_suite lines run;
      written = subst (λ (t : List (List ℕ)). Appends held holds (printed t)) run.answers_are ends.1;
    })

lines_before_run : (before held holds : Option (List ℕ)) (refusal : Refusal)
    → AnswersBefore before held holds refusal → LinesBeforeRun refusal.line before held holds
lines_before_run before held holds refusal front input is scans =
    let lines = texts_of input in
    let run = first_run lines scans in
    let ends = front input is in
    let line_is = run.before refusal ends.0 in
    let count : run.count ≡ refusal.line - 1 = omega (arith, line_is) in
    subst (λ (n : ℕ). WritesRun (take n lines) held holds) count (record {
      runs = runs_suite lines run;
      written = subst (λ (t : List (List ℕ)). Appends held holds (printed t)) run.answers_are ends.1;
    })

front_of_all : (held holds : Option (List ℕ)) (text : List ℕ) → Appends held holds text
    → AppendsFront held holds text
front_of_all held holds text all = record {
  count = length text;
  front = subst (λ (t : List ℕ). Appends held holds t) (sym (take-length text)) all;
}

-- the run of the first lines
record FrontRun (lines later : List (List ℕ)) : Type 0 where
  pub count : ℕ
  pub runs : RunsSuite (take count (lines ++ later))
  pub answers_are : answers Nothing lines ≡ suite_answers (take count (lines ++ later))

front_run : (lines later : List (List ℕ)) → begins_suite (lines ++ later) ≡ true → FrontRun lines later
front_run [] later scans = record {
  count = 0;
  runs = accepted_runs [] refl (All-nil IsSuiteEvent) tt;
  answers_are = refl;
}
front_run (line ∷ lines) later scans =
    let run = first_run (line ∷ lines) scans in
    let same : take run.count ((line ∷ lines) ++ later) ≡ take run.count (line ∷ lines) =
    take-append-le run.count (line ∷ lines) later run.within in
    record {
      count = run.count;
      runs = subst RunsSuite (sym same) (runs_suite (line ∷ lines) run);
      answers_are = run.answers_are ∙ ap suite_answers (sym same);
    }

-- The lines of a text that ends in a newline come first.

record HasLine (text later : List ℕ) : Type 0 where
  pub line : List ℕ
  pub lines : List (List ℕ)
  pub here : texts_of (text ++ 10 ∷ []) ≡ line ∷ lines
  pub more : texts_of (text ++ 10 ∷ later) ≡ (line ∷ lines) ++ texts_of later

has_line : (text later : List ℕ) → HasLine text later
has_line [] later = record { line = []; lines = []; here = refl; more = refl }
has_line (byte ∷ text) later =
    let rest = has_line text later in
    let found = elim (byte == 10) as (λ b.
    (line : List ℕ) × (lines : List (List ℕ))
    × ((if b then [] ∷ texts_of (text ++ 10 ∷ []) else onto_first byte (texts_of (text ++ 10 ∷ []))) ≡ line ∷ lines)
    × ((if b then [] ∷ texts_of (text ++ 10 ∷ later) else onto_first byte (texts_of (text ++ 10 ∷ later)))
    ≡ (line ∷ lines) ++ texts_of later)) [
      | true ↦ (
        [],
        rest.line ∷ rest.lines,
        ap (λ (t : List (List ℕ)). [] ∷ t) rest.here,
        ap (λ (t : List (List ℕ)). [] ∷ t) rest.more,
      )
      | false ↦ (byte ∷ rest.line, rest.lines, ap (onto_first byte) rest.here, ap (onto_first byte) rest.more)
    ] in
    record { line = found.0; lines = found.1; here = found.2; more = found.3 }

line_more : (text later : List ℕ)
    → texts_of (text ++ 10 ∷ later) ≡ texts_of (text ++ 10 ∷ []) ++ texts_of later
line_more text later =
    let found = has_line text later in
    found.more ∙ ap (λ (t : List (List ℕ)). t ++ texts_of later) (sym found.here)

printed_more : (lines : List (List ℕ)) (rest : List ℕ)
    → texts_of (printed lines ++ rest) ≡ texts_of (printed lines) ++ texts_of rest
printed_more [] rest = refl
printed_more (line ∷ lines) rest =
    let first = texts_of (line ++ 10 ∷ []) in
    let whole : texts_of (printed (line ∷ lines)) ≡ first ++ texts_of (printed lines) =
    ap texts_of (append_assoc line (10 ∷ []) (printed lines)) ∙ line_more line (printed lines) in
    ap texts_of (append_assoc (line ++ 10 ∷ []) (printed lines) rest
    ∙ append_assoc line (10 ∷ []) (printed lines ++ rest))
    ∙ line_more line (printed lines ++ rest)
    ∙ ap (λ (t : List (List ℕ)). first ++ t) (printed_more lines rest)
    ∙ sym (append_assoc first (texts_of (printed lines)) (texts_of rest))
    ∙ ap (λ (t : List (List ℕ)). t ++ texts_of rest) (sym whole)

-- How it ends if the writer or the reader failed, or memory ran out

part_run : (before after held holds : Option (List ℕ)) → AnswersPart before after held holds
    → FirstLinesRun before after held holds
part_run before after held holds part = record {
  bytes = part.bytes;
  read = part.read;
  run = λ scans.
      let run = first_run (texts_of part.bytes) scans in (
        run.count,
        record {
          runs = runs_suite (texts_of part.bytes) run;
          written = subst (λ (t : List (List ℕ)). AppendsFront held holds (printed t)) run.answers_are part.text;
        },
      );
}

lines_run : (before after held holds : Option (List ℕ)) → AnswersLines before after held holds
    → FirstLinesRun before after held holds
lines_run before after held holds read = record {
  bytes = printed read.lines ++ read.rest;
  read = read.read;
  run = λ scans.
      let cut = printed_more read.lines read.rest in
      let front = front_run (texts_of (printed read.lines)) (texts_of read.rest)
      (subst (λ (ls : List (List ℕ)). begins_suite ls ≡ true) cut scans) in (
        front.count,
        subst (λ (ls : List (List ℕ)). WritesRunFront (take front.count ls) held holds) (sym cut) (record {
          runs = front.runs;
          written = front_of_all held holds (printed (suite_answers (take front.count
              (texts_of (printed read.lines) ++ texts_of read.rest))))
              (subst (λ (t : List (List ℕ)). Appends held holds (printed t)) front.answers_are read.text);
        }),
      );
}

missed_run : (before after held holds : Option (List ℕ)) → MissesAt before after held holds
    → FirstLinesRun before after held holds
missed_run before after held holds missed = record {
  bytes = missed.bytes;
  read = missed.read;
  run = λ scans.
      let front = front_run missed.lines (missed.line ∷ missed.later)
      (subst (λ (ls : List (List ℕ)). begins_suite ls ≡ true) missed.cut scans) in (
        front.count,
        subst (λ (ls : List (List ℕ)). WritesRunFront (take front.count ls) held holds) (sym missed.cut) (record {
          runs = front.runs;
          written = front_of_all held holds (printed (suite_answers (take front.count
              (missed.lines ++ missed.line ∷ missed.later))))
              (subst (λ (t : List (List ℕ)). Appends held holds (printed t)) front.answers_are missed.text);
        }),
      );
}

nothing_run : (old new : Console) → new.reader ≡ old.reader
    → FirstLinesRun old.reader.bytes new.reader.bytes old.writer.bytes new.writer.bytes
nothing_run old new same = record {
  bytes = [];
  read = subst (λ (d : Device). Consumes old.reader.bytes d.bytes []) (sym same) (Consumes-nothing old.reader.bytes);
  run = λ scans. cc scans;
}

trouble_run : (old new : Console) (fault : SimFault) → SimCause fault old new
    → FirstLinesRun old.reader.bytes new.reader.bytes old.writer.bytes new.writer.bytes
trouble_run old new (sim.Refused line why) cause = absurd cause
trouble_run old new sim.OutOfMemory (inl nothing) = nothing_run old new nothing.0
trouble_run old new sim.OutOfMemory (inr missed) =
    missed_run old.reader.bytes new.reader.bytes old.writer.bytes new.writer.bytes missed.1
trouble_run old new sim.Read cause =
    lines_run old.reader.bytes new.reader.bytes old.writer.bytes new.writer.bytes cause.1
trouble_run old new sim.Write cause =
    part_run old.reader.bytes new.reader.bytes old.writer.bytes new.writer.bytes cause.1

pub headline_by : (status : ℕ) (old new : Console) → AnswersByStatus status old new → Headline status old new
headline_by status old new (inl well) =
    inl (well.0, all_run old.reader.bytes old.writer.bytes new.writer.bytes well.1.answers)
headline_by status old new (inr (inl refused)) =
    let ends = refused.1 in
    inr (inl (
      refused.0,
      record {
        line = ends.refusal.line;
        why = ends.refusal.why;
        reported = ends.reported;
        run = lines_before_run old.reader.bytes old.writer.bytes new.writer.bytes ends.refusal ends.answers.0;
      },
    ))
headline_by status old new (inr (inr trouble)) =
    inr (inr (trouble.0, trouble_run old new trouble.1.fault trouble.1.cause))
