-- The answer to one line.
use Rattle.std.proofs.Common.{◌≡◌, ℕ, ◌+◌, ◌<◌, ◌≤◌, Bool, true, false, List, [], ◌∷◌, ◌++◌, length, map, take, get_or}
use Rattle.std.proofs.Common.{Option, Some, None, Result, Ok, Err, refl, sym, ap, ◌∙◌, subst, arith, codes}
use Rattle.std.specs.Prelude.{flat_map, bytes_eq, nat_lt, if◌then◌else◌, IsOk}
use Rattle.std.proofs.lemmas.List.{flat_map_more, take_more, map-append}
use Rattle.scan_table.specs.declared.part.PartId.{PartId}
use Rattle.scan_table.specs.Slots.{Row}
use Rattle.tai_status.specs.Label.{Tai64n}
use Rattle.sup_core.specs.declared.event.Event.{Event}
use Rattle.sup_core.specs.declared.reading.EventFault.{EventFault}
use Rattle.sup_core.specs.declared.reading.EventFault.TheVariants as event
use Rattle.sup_core.specs.State.{State}
use Rattle.sup_core.specs.History.{History, Begin, state_of, phase_of}
use Rattle.sup_core.specs.Rules.{asks_of_begin}
use Rattle.sup_core.specs.Text.{answer_text}
use Rattle.sup_core.specs.declared.asks.Reply.TheVariants.{Took}
use Rattle.sup_core.specs.Reading.{fields, label_of_text, event_from, begin_from}
use Rattle.sup_core.proofs.Lines.{IsEvent-in_range}
use Rattle.suite_lines.specs.declared.event.SuiteEvent.{SuiteEvent}
use Rattle.suite_lines.specs.declared.event.SuiteEvent.TheVariants.{Scan, At}
use Rattle.suite_lines.specs.declared.fault.SuiteLineFault.{SuiteLineFault}
use Rattle.suite_lines.specs.Text.{IsSpellable, step_lines}
use Rattle.suite_lines.specs.Reading.{dotted, part_from, rows_of_texts, scan_of, scan_from, at_of, at_from}
use Rattle.suite_lines.specs.Reading.{suite_event_from}
use Rattle.suite_lines.specs.Answers.{line_fault, IsRead}
use Rattle.suite_core.specs.declared.fault.StepFault.{StepFault}
use Rattle.suite_core.specs.declared.fault.StepFault.TheVariants as step
use Rattle.suite_core.specs.Parts.{trace_of}
use Rattle.suite_core.specs.Suite.{SuiteState, new_suite, IsSuiteEvent, refusal, outs_at, outs_of, suite_after, IsCause}
use Rattle.cmd_sim.specs.declared.answering.Subject.{Subject}
use Rattle.cmd_sim.specs.declared.answering.Subject.TheVariants as code
use Rattle.cmd_sim.specs.declared.fault.Why.{Why}
use Rattle.cmd_sim.specs.declared.fault.Why.TheVariants as why
use Rattle.cmd_sim.specs.declared.fault.NoAnswer.TheVariants as none
use Rattle.cmd_sim.specs.Sim.{Past, Nothing, Service, OfSuite, Said, event_why, beginning, going_on, step_why}
use Rattle.cmd_sim.specs.Sim.{refused_step, stepped_unless, stepping, spells_scan, said_by, said}
use Rattle.cmd_sim.specs.Progress.{unread, refused_or_missed, unstepped, SaysService, Stands, Says, is_suite_line}
use Rattle.cmd_sim.specs.Sim.{IsRight, MayWantMemory}

-- The allocator of an event does not matter.

abbrev Plain : Type 0
Plain = Unit {0}

abbrev plain : {A : Type 0} → SuiteEvent A → SuiteEvent Plain
plain (Scan rows label) = Scan rows label
plain (At part event) = At part event

abbrev plainly : {A : Type 0} → Result (SuiteEvent A) EventFault → Result (SuiteEvent Plain) EventFault
plainly (Ok event) = Ok (plain event)
plainly (Err why) = Err why

scan_plainly : (A : Type 0) (label : Option Tai64n) (rows : Option (List Row)) → scan_of {A = Plain} label rows
    ≡ plainly (scan_of {A = A} label rows)
scan_plainly A None rows = refl
scan_plainly A (Some label) None = refl
scan_plainly A (Some label) (Some rows) = refl

at_plainly : (A : Type 0) (part : Result PartId EventFault) (event : Result Event EventFault)
    → at_of {A = Plain} part event ≡ plainly (at_of {A = A} part event)
at_plainly A (Err why) event = refl
at_plainly A (Ok part) (Err why) = refl
at_plainly A (Ok part) (Ok event) = refl

scan_fields_plainly : (A : Type 0) (parts : List (List ℕ)) → scan_from {A = Plain} parts
    ≡ plainly (scan_from {A = A} parts)
scan_fields_plainly A [] = refl
scan_fields_plainly A (label ∷ rows) = scan_plainly A (label_of_text label) (rows_of_texts rows)

at_fields_plainly : (A : Type 0) (parts : List (List ℕ)) → at_from {A = Plain} parts ≡ plainly (at_from {A = A} parts)
at_fields_plainly A [] = refl
at_fields_plainly A (part ∷ []) = refl
at_fields_plainly A (part ∷ word ∷ rest) = at_plainly A (part_from (dotted part)) (event_from (word ∷ rest))

either_plainly : {A : Type 0} (b : Bool) (x y : Result (SuiteEvent Plain) EventFault)
    (v w : Result (SuiteEvent A) EventFault)
    → x ≡ plainly v → y ≡ plainly w → (if b then x else y) ≡ plainly (if b then v else w)
either_plainly true x y v w p q = p
either_plainly false x y v w p q = q

read_plainly : (A : Type 0) (parts : List (List ℕ)) → suite_event_from {A = Plain} parts
    ≡ plainly (suite_event_from {A = A} parts)
read_plainly A [] = refl
read_plainly A (word ∷ rest) =
    either_plainly (bytes_eq word (codes "scan")) _ _ (scan_from {A = A} rest) _ (scan_fields_plainly A rest)
    (either_plainly (bytes_eq word (codes "at")) _ _ (at_from {A = A} rest) _ (at_fields_plainly A rest) refl)

outs_plain : (A : Type 0) (suite : SuiteState) (id : PartId) (event : Event)
    → flat_map step_lines (outs_of {A = Plain} suite (At id event))
    ≡ flat_map step_lines (outs_of {A = A} suite (At id event))
outs_plain A suite id event =
    elim (trace_of suite.parts id) as (λ kept. flat_map step_lines (outs_at {A = Plain} id event kept)
    ≡ flat_map step_lines (outs_at {A = A} id event kept)) [
      | None ↦ refl
      | Some kept ↦ refl
    ]

unless_plain : {A : Type 0} (refused : Option Why) (suite : SuiteState) (event : SuiteEvent A)
    → stepped_unless refused suite (plain event) ≡ stepped_unless refused suite event
unless_plain (Some why) suite event = refl
unless_plain None suite (Scan rows label) = refl
unless_plain {A} None suite (At part event) =
    ap {B = Result Said Why}
    (λ (texts : List (List ℕ)).
    Ok (record { texts = texts; past = OfSuite (suite_after {A = A} suite (At part event)) }))
    (outs_plain A suite part event)

refusal_plain : {A : Type 0} (suite : SuiteState) (event : SuiteEvent A) → refusal suite (plain event)
    ≡ refusal suite event
refusal_plain suite (Scan rows label) = refl
refusal_plain suite (At part event) = refl

stepping_plainly : {A : Type 0} (suite : SuiteState) (subject : Result (SuiteEvent A) EventFault)
    → stepping suite (plainly subject) ≡ stepping suite subject
stepping_plainly suite (Err why) = refl
stepping_plainly suite (Ok event) =
    ap (λ (r : Option StepFault). stepped_unless (refused_step r) suite (plain event)) (refusal_plain suite event)
    ∙ unless_plain (refused_step (refusal suite event)) suite event

pub stepping_any : (A : Type 0) (suite : SuiteState) (parts : List (List ℕ))
    → stepping suite (suite_event_from {A = Plain} parts) ≡ stepping suite (suite_event_from {A = A} parts)
stepping_any A suite parts = ap (stepping suite) (read_plainly A parts)
    ∙ stepping_plainly suite (suite_event_from {A = A} parts)

-- A suite's line

pub IsSuiteEvent-spellable : {A : Type 0} (event : SuiteEvent A) → IsSpellable event → IsSuiteEvent event
IsSuiteEvent-spellable (Scan rows label) h = tt
IsSuiteEvent-spellable (At part event) h = IsEvent-in_range event h.1

pub unread_so : {A : Type 0} (suite : SuiteState) (subject : Result (SuiteEvent A) EventFault) (fault : SuiteLineFault)
    (why : Why)
    → IsRead subject (Err fault) → unread fault ≡ none.Refused why → stepping suite subject ≡ Err why
unread_so suite (Ok (Scan rows label)) fault why h is = let missed : none.OutOfMemory ≡ none.Refused why =
    ap unread (sym h) ∙ is in cc missed
unread_so suite (Ok (At part event)) fault why h is = cc h
unread_so suite (Err e) fault why h is =
    let same : fault ≡ line_fault e = cc h in
    ap Err (why_reported e why (ap unread (sym same) ∙ is))
  where
    why_reported : (e : EventFault) (why : Why) → unread (line_fault e) ≡ none.Refused why → event_why e ≡ why
    why_reported event.UnknownEvent why is = cc is
    why_reported event.Line why is = cc is
    why_reported event.Number why is = cc is
    why_reported event.Label why is = cc is

pub unstepped_so : {A : Type 0} (suite : SuiteState) (event : SuiteEvent A) (fault : StepFault) (why : Why)
    → IsCause (refusal suite event) fault → unstepped fault ≡ none.Refused why → stepping suite (Ok event) ≡ Err why
unstepped_so suite event fault why cause is = refused (refusal suite event) fault why cause is
  where
    unless : (r : Option Why) (why : Why) → r ≡ Some why → stepped_unless r suite event ≡ Err why
    unless (Some other) why is = let same : other ≡ why = cc is in ap Err same
    unless None why is = cc is

    named : (o : Option Why) (why : Why) → refused_or_missed o ≡ none.Refused why → o ≡ Some why
    named (Some other) why is = cc is
    named None why is = cc is

    refused : (r : Option StepFault) (fault : StepFault) (why : Why) → IsCause r fault
        → unstepped fault ≡ none.Refused why
        → stepped_unless (refused_step r) suite event ≡ Err why
    refused r step.NoSuchPart why cause is =
        unless (refused_step r) why (ap refused_step cause ∙ named (step_why step.NoSuchPart) why is)
    refused r (step.Scan fault) why cause is =
        unless (refused_step r) why (ap refused_step cause ∙ named (step_why (step.Scan fault)) why is)
    refused r step.OutOfMemory why cause is = cc is

pub stepped_so : {A : Type 0} (suite after : SuiteState) (subject : Result (SuiteEvent A) EventFault)
    (event : SuiteEvent A) (lines : List (List ℕ))
    → subject ≡ Ok event → refusal suite event ≡ None → after ≡ suite_after suite event
    → lines ≡ flat_map step_lines (outs_of suite event)
    → stepping suite subject ≡ Ok (record { texts = lines; past = OfSuite after })
stepped_so suite after subject event lines is taken goes said_so =
    ap (stepping suite) is ∙ ap (λ (r : Option StepFault). stepped_unless (refused_step r) suite event) taken
    ∙ ap {B = Result Said Why}
    (λ (texts : List (List ℕ)). Ok (record { texts = texts; past = OfSuite (suite_after suite event) }))
    (sym said_so)
    ∙ ap {B = Result Said Why} (λ (suite : SuiteState). Ok (record { texts = lines; past = OfSuite suite })) (sym goes)

-- A lack of memory at a suite's line

pub read_missed : {A : Type 0} (suite : SuiteState) (subject : Result (SuiteEvent A) EventFault)
    (fault : SuiteLineFault)
    → IsRead subject (Err fault) → unread fault ≡ none.OutOfMemory → IsRight suite subject
read_missed suite (Ok (Scan rows label)) fault h is = tt
read_missed suite (Ok (At part event)) fault h is = cc h
read_missed suite (Err e) fault h is =
    let same : fault ≡ line_fault e = cc h in absurd (never e (ap unread (sym same) ∙ is))
  where
    never : (e : EventFault) → unread (line_fault e) ≡ none.OutOfMemory → ⊥
    never event.UnknownEvent is = cc is
    never event.Line is = cc is
    never event.Number is = cc is
    never event.Label is = cc is

pub step_missed : (refused : Option StepFault) (fault : StepFault) → IsCause refused fault
    → unstepped fault ≡ none.OutOfMemory → refused_step refused ≡ None
step_missed refused step.NoSuchPart cause is = cc is
step_missed refused (step.Scan fault) cause is = ap refused_step cause ∙ unnamed (step_why (step.Scan fault)) is
  where
    unnamed : (o : Option Why) → refused_or_missed o ≡ none.OutOfMemory → o ≡ None
    unnamed (Some why) is = cc is
    unnamed None is = refl
step_missed refused step.OutOfMemory cause is = ap refused_step cause

right_plainly : {A : Type 0} (suite : SuiteState) (subject : Result (SuiteEvent A) EventFault) → IsRight suite subject
    → IsRight suite (plainly subject)
right_plainly suite (Err fault) right = absurd right
right_plainly suite (Ok (Scan rows label)) right = tt
right_plainly suite (Ok (At part event)) right = right

right_any : (A : Type 0) (suite : SuiteState) (parts : List (List ℕ)) → IsRight suite (suite_event_from {A = A} parts)
    → IsRight suite (suite_event_from {A = Plain} parts)
right_any A suite parts right =
    subst (λ (r : Result (SuiteEvent Plain) EventFault). IsRight suite r) (sym (read_plainly A parts))
    (right_plainly suite (suite_event_from {A = A} parts) right)

pub right_ok : {A : Type 0} (suite : SuiteState) (subject : Result (SuiteEvent A) EventFault) → IsRight suite subject
    → IsOk subject
right_ok suite (Err fault) right = absurd right
right_ok suite (Ok event) right = refl

-- The line of a scan is no event at a part.
either_right : {A : Type 0} (suite : SuiteState) (rest : List (List ℕ)) (other : Result (SuiteEvent A) EventFault)
    (b : Bool) → b ≡ true
    → IsOk (if b then scan_from {A = A} rest else other) → IsRight suite (if b then scan_from {A = A} rest else other)
either_right {A} suite rest other true is ok = of_fields rest ok
  where
    of_right : (label : Option Tai64n) (rows : Option (List Row)) → IsOk (scan_of {A = A} label rows)
        → IsRight suite (scan_of {A = A} label rows)
    of_right None rows ok = cc ok
    of_right (Some label) None ok = cc ok
    of_right (Some label) (Some rows) ok = tt

    of_fields : (rest : List (List ℕ)) → IsOk (scan_from {A = A} rest) → IsRight suite (scan_from {A = A} rest)
    of_fields [] ok = cc ok
    of_fields (label ∷ rows) ok = of_right (label_of_text label) (rows_of_texts rows) ok
either_right suite rest other false is ok = cc is

scan_right : (A : Type 0) (suite : SuiteState) (parts : List (List ℕ)) → spells_scan parts ≡ true
    → IsOk (suite_event_from {A = A} parts) → IsRight suite (suite_event_from {A = A} parts)
scan_right A suite [] scan ok = cc scan
scan_right A suite (word ∷ rest) scan ok =
    either_right {A = A} suite rest _ (bytes_eq word (codes "scan")) scan ok

pub first_missed : (A : Type 0) (line : List ℕ) → spells_scan (fields line) ≡ true
    → IsOk (suite_event_from {A = A} (fields line)) → MayWantMemory Nothing line
first_missed A line scan ok =
    (scan, right_any A (new_suite 0 256) (fields line) (scan_right A (new_suite 0 256) (fields line) scan ok))

pub suite_missed : {A : Type 0} (past : Past) (line : List ℕ) (suite : SuiteState) (now : Subject A)
    → Stands past now → now ≡ code.Suite suite → IsRight suite (suite_event_from {A = A} (fields line))
    → MayWantMemory past line
suite_missed {A} past line suite now stands is right = held past (subst (λ (t : Subject A). Stands past t) is stands)
  where
    held : (past : Past) → Stands {A = A} past (code.Suite suite) → MayWantMemory past line
    held Nothing stands = absurd stands
    held (Service h) stands = absurd stands
    held (OfSuite subject) stands =
        right_any A subject (fields line)
        (subst (λ (s : SuiteState). IsRight s (suite_event_from {A = A} (fields line))) stands right)

-- Memory can be lacking only at lines of suites.
pub lacks_suite : (past : Past) (line : List ℕ) → MayWantMemory past line → is_suite_line past line ≡ true
lacks_suite Nothing line lacks = lacks.0
lacks_suite (Service h) line lacks = absurd lacks
lacks_suite (OfSuite suite) line lacks = refl

-- A line

pub Says-service : {A : Type 0} (past : Past) (line text : List ℕ) (machine : State) (subject : Result Said Why)
    → said past line ≡ subject
    → SaysService subject machine text → Says {A = A} past line (text ∷ []) (code.Service machine)
Says-service past line text machine subject is reports = record {
  answer = record { texts = text ∷ []; past = Service reports.past };
  is = is ∙ reports.is;
  texts_are = refl;
  stands = reports.stands;
}

pub Says-suite : {A : Type 0} (past : Past) (line : List ℕ) (texts : List (List ℕ)) (suite : SuiteState)
    (subject : Result Said Why)
    → said past line ≡ subject → subject ≡ Ok (record { texts = texts; past = OfSuite suite })
    → Says {A = A} past line texts (code.Suite suite)
Says-suite past line texts suite subject is reports = record {
  answer = record { texts = texts; past = OfSuite suite };
  is = is ∙ reports;
  texts_are = refl;
  stands = refl;
}

pub said-short : (past : Past) (line : List ℕ) → length line ≤ 65536 → said past line ≡ said_by past line
said-short past line short = grind (arith, short)

pub said-first : (line : List ℕ) → length line ≤ 65536 → spells_scan (fields line) ≡ false
    → said Nothing line ≡ beginning (begin_from (fields line))
said-first line short other =
    said-short Nothing line short
    ∙ ap (λ (b : Bool). if b then stepping (new_suite 0 256) (suite_event_from {A = Plain} (fields line)) else beginning
    (begin_from (fields line))) other

pub said-first_scan : (A : Type 0) (line : List ℕ) → length line ≤ 65536 → spells_scan (fields line) ≡ true
    → said Nothing line ≡ stepping (new_suite 0 256) (suite_event_from {A = A} (fields line))
said-first_scan A line short scan =
    said-short Nothing line short
    ∙ ap (λ (b : Bool). if b then stepping (new_suite 0 256) (suite_event_from {A = Plain} (fields line)) else beginning
    (begin_from (fields line))) scan
    ∙ stepping_any A (new_suite 0 256) (fields line)

pub said-suite : (A : Type 0) (suite : SuiteState) (line : List ℕ) → length line ≤ 65536
    → said (OfSuite suite) line ≡ stepping suite (suite_event_from {A = A} (fields line))
said-suite A suite line short = said-short (OfSuite suite) line short ∙ stepping_any A suite (fields line)

-- The lines after a suite's line are lines of the suite.

abbrev past_in : Result Said Why → Past
past_in (Ok answer) = answer.past
past_in (Err why) = Nothing

stepping-past : {A : Type 0} (suite : SuiteState) (subject : Result (SuiteEvent A) EventFault) (next : List ℕ)
    (answer : Said)
    → stepping suite subject ≡ Ok answer → is_suite_line answer.past next ≡ true
stepping-past suite (Err why) next answer h = cc h
stepping-past suite (Ok event) next answer h = unless (refused_step (refusal suite event)) h
  where
    unless : (r : Option Why) → stepped_unless r suite event ≡ Ok answer → is_suite_line answer.past next ≡ true
    unless (Some why) h = cc h
    unless None h = ap (λ (r : Result Said Why). is_suite_line (past_in r) next) (sym h)

beginning-past : (subject : Result (Bool × Tai64n) EventFault) (next : List ℕ) (answer : Said)
    → beginning subject ≡ Ok answer
    → is_suite_line answer.past next ≡ false
beginning-past (Err why) next answer h = cc h
beginning-past (Ok opening) next answer h = ap (λ (r : Result Said Why). is_suite_line (past_in r) next) (sym h)

going_on-past : (past : History) (subject : Result Event EventFault) (next : List ℕ) (answer : Said)
    → going_on past subject ≡ Ok answer
    → is_suite_line answer.past next ≡ false
going_on-past past (Err why) next answer h = cc h
going_on-past past (Ok event) next answer h = ap (λ (r : Result Said Why). is_suite_line (past_in r) next) (sym h)

by-past : (past : Past) (line next : List ℕ) (answer : Said) → said_by past line ≡ Ok answer
    → is_suite_line answer.past next ≡ is_suite_line past line
by-past Nothing line next answer h =
    elim (spells_scan (fields line)) as (λ b. spells_scan (fields line) ≡ b
    → (if b then stepping (new_suite 0 256) (suite_event_from {A = Plain} (fields line)) else beginning
    (begin_from (fields line))) ≡ Ok answer
    → is_suite_line answer.past next ≡ b) [
      | true ↦ λ is h. stepping-past (new_suite 0 256) (suite_event_from {A = Plain} (fields line)) next answer h
      | false ↦ λ is h. beginning-past (begin_from (fields line)) next answer h
    ] refl h
by-past (Service past) line next answer h = going_on-past past (event_from (fields line)) next answer h
by-past (OfSuite suite) line next answer h =
    stepping-past suite (suite_event_from {A = Plain} (fields line)) next answer h

pub is_suite_line-said : (past : Past) (line next : List ℕ) (answer : Said) → said past line ≡ Ok answer
    → is_suite_line answer.past next ≡ is_suite_line past line
is_suite_line-said past line next answer h =
    elim (nat_lt 65536 (length line)) as (λ b. (if b then Err why.Line else said_by past line) ≡ Ok answer
    → is_suite_line answer.past next ≡ is_suite_line past line) [
      | true ↦ λ h. cc h
      | false ↦ λ h. by-past past line next answer h
    ] h

-- A service's line

pub begun_so : (subject : Result (Bool × Tai64n) EventFault) (opening : Bool × Tai64n) (machine : State) (text : List ℕ)
    → subject ≡ Ok opening
    → machine ≡ state_of (Begin opening.0 opening.1)
    → text ≡ answer_text (Took (asks_of_begin (Begin opening.0 opening.1))) (phase_of (Begin opening.0 opening.1))
    → SaysService (beginning subject) machine text
begun_so subject opening machine text is stands said_so = record {
  past = Begin opening.0 opening.1;
  is = ap beginning is
      ∙ ap {B = Result Said Why}
      (λ (t : List ℕ). Ok (record { texts = t ∷ []; past = Service (Begin opening.0 opening.1) })) (sym said_so);
  stands = sym stands;
}

-- The lines of the steps so far, and of one more.
pub lines_more : {S O : Type 0} (bytes : S → List ℕ) (texts : O → List (List ℕ)) (outs : List O) (i : ℕ) (out : O)
    (old more new : List S)
    → i < length outs → out ≡ get_or outs i out → map bytes old ≡ flat_map texts (take i outs)
    → map bytes more ≡ texts out
    → new ≡ old ++ more → map bytes new ≡ flat_map texts (take (i + 1) outs)
lines_more bytes texts outs i out old more new within at so_far here put =
    ap (map bytes) put ∙ map-append bytes old more
    ∙ ap (λ (t : List (List ℕ)). t ++ map bytes more) so_far
    ∙ ap (λ (t : List (List ℕ)). flat_map texts (take i outs) ++ t) here
    ∙ ap (λ o. flat_map texts (take i outs) ++ texts o) at
    ∙ flat_map_more texts [] (take i outs) (get_or outs i out)
    ∙ ap (flat_map texts) (sym (take_more outs i out within))

-- When the value in the code changes

pub service_refused : {A : Type 0} (past : Past) (line : List ℕ) (machine : State) (now : Subject A) (why : Why)
    → Stands past now
    → now ≡ code.Service machine → length line ≤ 65536
    → ((h : History) → going_on h (event_from (fields line)) ≡ Err why)
    → said past line ≡ Err why
service_refused {A} past line machine now why stands is short refused =
    held past (subst (λ (t : Subject A). Stands past t) is stands)
  where
    held : (past : Past) → Stands {A = A} past (code.Service machine) → said past line ≡ Err why
    held Nothing stands = absurd stands
    held (Service h) stands = said-short (Service h) line short ∙ refused h
    held (OfSuite suite) stands = absurd stands

pub service_says : {A : Type 0} (past : Past) (line text : List ℕ) (machine after : State) (now : Subject A)
    → Stands past now
    → now ≡ code.Service machine → length line ≤ 65536
    → ((h : History) → state_of h ≡ machine → SaysService (going_on h (event_from (fields line))) after text)
    → Says {A = A} past line (text ∷ []) (code.Service after)
service_says {A} past line text machine after now stands is short reports =
    held past (subst (λ (t : Subject A). Stands past t) is stands)
  where
    held : (past : Past) → Stands {A = A} past (code.Service machine)
        → Says {A = A} past line (text ∷ []) (code.Service after)
    held Nothing stands = absurd stands
    held (Service h) stands =
        Says-service (Service h) line text after (going_on h (event_from (fields line)))
        (said-short (Service h) line short) (reports h stands)
    held (OfSuite suite) stands = absurd stands

pub suite_refused : {A : Type 0} (past : Past) (line : List ℕ) (suite : SuiteState) (now : Subject A) (why : Why)
    → Stands past now
    → now ≡ code.Suite suite → length line ≤ 65536 → stepping suite (suite_event_from {A = A} (fields line)) ≡ Err why
    → said past line ≡ Err why
suite_refused {A} past line suite now why stands is short refused =
    held past (subst (λ (t : Subject A). Stands past t) is stands)
  where
    held : (past : Past) → Stands {A = A} past (code.Suite suite) → said past line ≡ Err why
    held Nothing stands = absurd stands
    held (Service h) stands = absurd stands
    held (OfSuite subject) stands =
        said-suite A subject line short
        ∙ ap (λ (s : SuiteState). stepping s (suite_event_from {A = A} (fields line))) (sym stands) ∙ refused

pub suite_says : {A : Type 0} (past : Past) (line : List ℕ) (texts : List (List ℕ)) (suite after : SuiteState)
    (now : Subject A) → Stands past now
    → now ≡ code.Suite suite → length line ≤ 65536
    → stepping suite (suite_event_from {A = A} (fields line)) ≡ Ok (record { texts = texts; past = OfSuite after })
    → Says {A = A} past line texts (code.Suite after)
suite_says {A} past line texts suite after now stands is short reports =
    held past (subst (λ (t : Subject A). Stands past t) is stands)
  where
    held : (past : Past) → Stands {A = A} past (code.Suite suite) → Says {A = A} past line texts (code.Suite after)
    held Nothing stands = absurd stands
    held (Service h) stands = absurd stands
    held (OfSuite subject) stands =
        Says-suite (OfSuite subject) line texts after (stepping suite (suite_event_from {A = A} (fields line)))
        (said-suite A subject line short
        ∙ ap (λ (s : SuiteState). stepping s (suite_event_from {A = A} (fields line))) (sym stands)) reports

pub first_refused_scan : (A : Type 0) (line : List ℕ) (suite : SuiteState) (why : Why) → suite ≡ new_suite 0 256
    → length line ≤ 65536
    → spells_scan (fields line) ≡ true → stepping suite (suite_event_from {A = A} (fields line)) ≡ Err why
    → said Nothing line ≡ Err why
first_refused_scan A line suite why new short scan refused =
    said-first_scan A line short scan
    ∙ ap (λ (s : SuiteState). stepping s (suite_event_from {A = A} (fields line))) (sym new) ∙ refused

pub first_says_scan : {A : Type 0} (line : List ℕ) (texts : List (List ℕ)) (suite after : SuiteState)
    → suite ≡ new_suite 0 256 → length line ≤ 65536
    → spells_scan (fields line) ≡ true
    → stepping suite (suite_event_from {A = A} (fields line)) ≡ Ok (record { texts = texts; past = OfSuite after })
    → Says {A = A} Nothing line texts (code.Suite after)
first_says_scan {A} line texts suite after new short scan reports =
    Says-suite Nothing line texts after (stepping suite (suite_event_from {A = A} (fields line)))
    (said-first_scan A line short scan
    ∙ ap (λ (s : SuiteState). stepping s (suite_event_from {A = A} (fields line))) (sym new)) reports
