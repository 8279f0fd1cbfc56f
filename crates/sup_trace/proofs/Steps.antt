-- Reading from line to line.
use Rattle.std.proofs.Common.{◌≡◌, ℕ, ◌+◌, ◌<◌, ◌≤◌, ◌==◌, nat_lt, Bool, true, false, not, List, [], ◌∷◌, ◌++◌, length}
use Rattle.std.proofs.Common.{length-append, Result, Ok, Err, refl, sym, ap, ◌∙◌, arith, subst}
use Rattle.std.specs.List.{join_with_byte}
use Rattle.std.proofs.lemmas.List.Splits.{join_with_byte-slice_split}
use Rattle.sup_core.proofs.Fields.{split_some_part}
use Rattle.sup_trace.specs.declared.fault.TraceFault.{TraceFault}
use Rattle.sup_trace.specs.declared.fault.TraceFaultKind.{TraceFaultKind}
use Rattle.sup_trace.specs.declared.fault.TraceFaultKind.TheVariants as kind
use Rattle.sup_core.specs.declared.event.Event.{Event}
use Rattle.sup_core.specs.declared.reading.EventFault.{EventFault}
use Rattle.sup_core.specs.declared.reading.EventFault.TheVariants as why
use Rattle.sup_core.specs.State.{State}
use Rattle.sup_core.specs.History.{History, Opened, state_of}
use Rattle.sup_core.specs.Rules.{takes, next}
use Rattle.sup_core.specs.Reading.{fields}
use Rattle.sup_core.proofs.Laws.{followed_by-append, next-taken}
use Rattle.sup_trace.specs.Content.{Content, content_of, content_history, replay_of}
use Rattle.sup_trace.specs.Reading.{Heard, Nothing, Header, Entries, Whole, line_result, at_end, content_by_parts}
use Rattle.sup_trace.specs.Reading.{parts_of, content_from, with_entry, entry_result, end_result, kind_of, refusal}
use Rattle.sup_trace.specs.Reading.{AddsEntry, ReadsLine, ReadsEntry, heard_along}

-- a line that is not refused
pub goes_on : (number : ℕ) (heard more : Heard) (line : List ℕ) (parts : List (List ℕ)) → (parts ≡ [] → ⊥)
    → line_result heard line ≡ Ok more
    → content_by_parts number heard (line ∷ parts) ≡ content_by_parts (number + 1) more parts
goes_on number heard more line [] some is = absurd (some refl)
goes_on number heard more line (part ∷ parts) some is =
    ap (λ (r : Result Heard TraceFaultKind). elim r [
      | Ok more ↦ content_by_parts (number + 1) more (part ∷ parts)
      | Err why ↦ refusal number why
    ]) is

stops : (number : ℕ) (heard : Heard) (why : TraceFaultKind) (line : List ℕ) (parts : List (List ℕ)) → (parts ≡ [] → ⊥)
    → line_result heard line ≡ Err why
    → content_by_parts number heard (line ∷ parts) ≡ refusal number why
stops number heard why line [] some is = absurd (some refl)
stops number heard why line (part ∷ parts) some is =
    ap (λ (r : Result Heard TraceFaultKind). elim r [
      | Ok more ↦ content_by_parts (number + 1) more (part ∷ parts)
      | Err why ↦ refusal number why
    ]) is

-- a line that is read
pub line_read : (number later : ℕ) (text rest : List ℕ) (heard more : Heard)
    → ReadsLine number later text rest heard more
    → content_by_parts number heard (parts_of text) ≡ content_by_parts later more (parts_of rest)
line_read number later text rest heard more reads =
    ap (content_by_parts number heard) reads.cut
    ∙ goes_on number heard more reads.line (parts_of rest) (split_some_part (λ byte. byte == 10) rest) reads.is
    ∙ ap (λ (n : ℕ). content_by_parts n more (parts_of rest)) (sym reads.next)

-- a line that is refused
pub line_refused : (number : ℕ) (heard : Heard) (why : TraceFaultKind) (line text rest : List ℕ)
    → parts_of text ≡ line ∷ parts_of rest → line_result heard line ≡ Err why
    → content_by_parts number heard (parts_of text) ≡ refusal number why
line_refused number heard why line text rest cut is =
    ap (content_by_parts number heard) cut
    ∙ stops number heard why line (parts_of rest) (split_some_part (λ byte. byte == 10) rest) is

over_parts : (number : ℕ) (content : Content) (part : List ℕ) (parts : List (List ℕ)) → (parts ≡ [] → 0 < length part)
    → content_by_parts number (Whole content) (part ∷ parts) ≡ refusal number kind.Line
over_parts number content [] [] some = absurd (let h = some refl in omega (arith, h))
over_parts number content (byte ∷ bytes) [] some = refl
over_parts number content part (next ∷ parts) some = refl

-- The end line

end_fields : (content : Content) (count : List ℕ) (parts : List (List ℕ)) → (parts ≡ [] → ⊥)
    → end_result content (count ∷ parts)
    ≡ Err kind.Line
end_fields content count [] h = absurd (h refl)
end_fields content count (part ∷ parts) h = refl

pub end_result_many : (content : Content) (count rest : List ℕ)
    → end_result content (count ∷ fields rest) ≡ Err kind.Line
end_result_many content count rest = end_fields content count (fields rest) (split_some_part (λ byte. byte == 32) rest)

-- whether the machine takes an event, and the machine after it
pub machine_takes : (content : Content) (machine : State) (event : Event) (taken : Bool) → machine ≡ replay_of content
    → ((past : History) → state_of past ≡ machine → taken ≡ takes past event)
    → takes (content_history content) event ≡ taken
machine_takes content machine event taken stands said = sym (said (content_history content) (sym stands))

replay-more : (content : Content) (event : Event) → takes (content_history content) event ≡ true
    → state_of (next (content_history content) event) ≡ replay_of (with_entry content event)
replay-more content event taken =
    ap state_of (next-taken (content_history content) event taken
    ∙ sym (followed_by-append (Opened content.base) content.entries (event ∷ [])))

pub replay-stepped : (content : Content) (machine after : State) (event : Event) (entries : List Event)
    → machine ≡ replay_of content
    → takes (content_history content) event ≡ true
    → ((past : History) → state_of past ≡ machine → after ≡ state_of (next past event))
    → entries ≡ content.entries ++ event ∷ [] → after ≡ replay_of (content_of content.base content.folded entries)
replay-stepped content machine after event entries stands taken stepped grown =
    stepped (content_history content) (sym stands) ∙ replay-more content event taken
    ∙ ap (λ (es : List Event). replay_of (content_of content.base content.folded es)) (sym grown)

-- An event's line. What was read before it is `seen`.

pub room-test : (m n : ℕ) → m < n → not (nat_lt m n) ≡ false
room-test m n h = grind (arith)

full-test : (m n : ℕ) → n ≤ m → not (nat_lt m n) ≡ true
full-test m n h = grind (arith)

abbrev refused : TraceFaultKind → Result Heard TraceFaultKind
refused why = Err why

abbrev read_so : Heard → Result Heard TraceFaultKind
read_so heard = Ok heard

entry_seen : (content seen : Content) (event : Event) (r : Result Event EventFault) → content ≡ seen → Ok event ≡ r
    → entry_result seen r ≡ entry_result content (Ok event)
entry_seen content seen event r same is =
    ap (entry_result seen) (sym is) ∙ ap (λ (t : Content). entry_result t (Ok event)) (sym same)

pub entry_refused : (seen : Content) (content_why : EventFault) (fault : TraceFaultKind) (r : Result Event EventFault)
    → Err content_why ≡ r
    → fault ≡ kind_of content_why → entry_result seen r ≡ Err fault
entry_refused seen content_why fault r is so = ap (entry_result seen) (sym is)
    ∙ ap (λ (k : TraceFaultKind). refused k) (sym so)

pub entry_full : (content seen : Content) (event : Event) (r : Result Event EventFault) → content ≡ seen → Ok event ≡ r
    → 65536 ≤ length content.entries → entry_result seen r ≡ Err kind.Line
entry_full content seen event r same is full =
    entry_seen content seen event r same is ∙ rw (full-test (length content.entries) 65536 full) refl

pub entry_held : (content seen : Content) (event : Event) (r : Result Event EventFault) → content ≡ seen → Ok event ≡ r
    → length content.entries < 65536 → takes (content_history content) event ≡ false
    → entry_result seen r ≡ Err kind.NotTaken
entry_held content seen event r same is room held =
    entry_seen content seen event r same is ∙ rw (room-test (length content.entries) 65536 room, held) refl

pub entry_taken : (content seen : Content) (event : Event) (r : Result Event EventFault) (entries : List Event)
    → content ≡ seen
    → Ok event ≡ r
    → length content.entries < 65536 → takes (content_history content) event ≡ true
    → entries ≡ content.entries ++ event ∷ []
    → entry_result seen r ≡ Ok (Entries (content_of content.base content.folded entries))
entry_taken content seen event r entries same is room taken grown =
    entry_seen content seen event r same is ∙ rw (room-test (length content.entries) 65536 room, taken) refl
    ∙ ap (λ (es : List Event). read_so (Entries (content_of content.base content.folded es))) (sym grown)

pub adds_entry : (content seen : Content) (event : Event) (r : Result Event EventFault) → content ≡ seen → Ok event ≡ r
    → length content.entries < 65536 → takes (content_history content) event ≡ true
    → AddsEntry seen (entry_result seen r)
adds_entry content seen event r same is room taken = record {
  event = event;
  is = entry_taken content seen event r (content.entries ++ event ∷ []) same is room taken refl
      ∙ ap (λ (t : Content). read_so (Entries (with_entry t event))) same;
}

-- No fault of an event's line is a lack of memory.
pub kind_of-memory : (fault : EventFault) → kind_of fault ≡ kind.OutOfMemory → ⊥
kind_of-memory why.UnknownEvent h = cc h
kind_of-memory why.Line h = cc h
kind_of-memory why.Number h = cc h
kind_of-memory why.Label h = cc h

-- A fault is at the line with this number, or later.

at_refusal : (number : ℕ) (why : TraceFaultKind) (first : TraceFault) → refusal number why ≡ Err first
    → number ≤ first.line
at_refusal number why first h =
    let same : record { line = number; kind = why } ≡ first = cc h in
    let line : number ≡ first.line = ap (λ (f : TraceFault). f.line) same in
    omega (arith, line)

at_line : (number : ℕ) (first : TraceFault) → refusal number kind.Line ≡ Err first → number ≤ first.line
at_line number first h = at_refusal number kind.Line first h

later_at_end : (number : ℕ) (heard : Heard) (rest : List ℕ) (first : TraceFault) → at_end number heard rest ≡ Err first
    → number ≤ first.line
later_at_end number Nothing rest first h = at_line number first h
later_at_end number Header rest first h = at_line number first h
later_at_end number (Entries content) rest first h = at_line number first h
later_at_end number (Whole content) [] first h = cc h
later_at_end number (Whole content) (byte ∷ rest) first h = at_line number first h

-- the result after a line
abbrev pub followed : ℕ → List (List ℕ) → Result Heard TraceFaultKind → Result Content TraceFault
followed number parts (Ok more) = content_by_parts (number + 1) more parts
followed number parts (Err why) = refusal number why

later : (number : ℕ) (first : TraceFault) (parts : List (List ℕ)) (r : Result Heard TraceFaultKind)
    → ((more : Heard) → content_by_parts (number + 1) more parts ≡ Err first → number + 1 ≤ first.line)
    → followed number parts r ≡ Err first
    → number ≤ first.line
later number first parts (Ok more) rest h = let after = rest more h in omega (arith, after)
later number first parts (Err why) rest h = at_refusal number why first h

pub fault_later : (number : ℕ) (heard : Heard) (parts : List (List ℕ)) (first : TraceFault)
    → content_by_parts number heard parts ≡ Err first → number ≤ first.line
fault_later number heard [] first h = later_at_end number heard [] first h
fault_later number heard (rest ∷ []) first h = later_at_end number heard rest first h
fault_later number heard (line ∷ part ∷ parts) first h =
    later number first (part ∷ parts) (line_result heard line)
    (λ (more : Heard). fault_later (number + 1) more (part ∷ parts) first) h

-- bytes after the end line
over : (number : ℕ) (content : Content) (rest : List ℕ) (parts : List (List ℕ)) → (parts ≡ [] → ⊥)
    → join_with_byte 10 parts ≡ rest → 0 < length rest
    → content_by_parts number (Whole content) parts ≡ refusal number kind.Line
over number content rest [] some joined long = absurd (some refl)
over number content rest (part ∷ []) some joined long =
    over_parts number content part [] (λ e. subst (λ (xs : List ℕ). 0 < length xs) (sym joined) long)
over number content rest (part ∷ next ∷ parts) some joined long =
    over_parts number content part (next ∷ parts) (λ e. absurd (cc e))

pub over_end : (number : ℕ) (content : Content) (rest : List ℕ) → 0 < length rest
    → content_by_parts number (Whole content) (parts_of rest) ≡ refusal number kind.Line
over_end number content rest long =
    over number content rest (parts_of rest) (split_some_part (λ byte. byte == 10) rest)
    (join_with_byte-slice_split 10 rest) long

-- nothing after the end line
pub over_none : (number : ℕ) (content : Content) (rest : List ℕ) → length rest ≡ 0
    → content_by_parts number (Whole content) (parts_of rest) ≡ Ok content
over_none number content [] none = refl
over_none number content (byte ∷ rest) none = absurd (omega (arith, none))

-- Entries that are read

-- the result of several lines after a line
abbrev pub along_after : List (List ℕ) → Result Heard TraceFaultKind → Result Heard TraceFaultKind
along_after lines (Ok more) = heard_along more lines
along_after lines (Err why) = Err why

heard_first : (heard more : Heard) (line : List ℕ) (lines : List (List ℕ)) → line_result heard line ≡ Ok more
    → heard_along heard (line ∷ lines) ≡ heard_along more lines
heard_first heard more line lines is = ap (along_after lines) is

-- an entry that is read on the first line
pub entry_here : (number : ℕ) (content : Content) (line text rest : List ℕ) → parts_of text ≡ line ∷ parts_of rest
    → AddsEntry content (line_result (Entries content) line)
    → ReadsEntry number number (Entries content) (parts_of text)
entry_here number content line text rest cut adds = record {
  lines = line ∷ [];
  rest = parts_of rest;
  cut = cut;
  ended = split_some_part (λ byte. byte == 10) rest;
  content = with_entry content adds.event;
  some = omega (arith, length-append content.entries (adds.event ∷ []));
  is = heard_first (Entries content) (Entries (with_entry content adds.event)) line [] adds.is;
  place = refl;
}

-- an entry that is read on a later line
pub entry_later : (at number later : ℕ) (text rest : List ℕ) (heard more : Heard)
    → ReadsLine number later text rest heard more
    → ReadsEntry at later more (parts_of rest) → ReadsEntry at number heard (parts_of text)
entry_later at number later text rest heard more reads entry = record {
  lines = reads.line ∷ entry.lines;
  rest = entry.rest;
  cut = reads.cut ∙ ap (λ (parts : List (List ℕ)). reads.line ∷ parts) entry.cut;
  ended = entry.ended;
  content = entry.content;
  some = entry.some;
  is = heard_first heard more reads.line entry.lines reads.is ∙ entry.is;
  place = let place = entry.place in let next = reads.next in omega (arith, place, next);
}

pub some_rest : (lines rest : List (List ℕ)) → (rest ≡ [] → ⊥) → lines ++ rest ≡ [] → ⊥
some_rest [] rest some h = some h
some_rest (line ∷ lines) rest some h = cc h

fault_further : (number : ℕ) (lines : List (List ℕ)) (more : Heard) (first : TraceFault)
    (r : Result Heard TraceFaultKind)
    → ((next : Heard) → r ≡ Ok next → heard_along next lines ≡ Ok more → number + 1 + length lines ≤ first.line)
    → along_after lines r ≡ Ok more → number + 1 + length lines ≤ first.line
fault_further number lines more first (Ok next) later is = later next refl is
fault_further number lines more first (Err why) later is = cc is

-- A fault comes after the lines that are read.
fault_after : (number : ℕ) (heard more : Heard) (lines rest : List (List ℕ)) (first : TraceFault) → (rest ≡ [] → ⊥)
    → heard_along heard lines ≡ Ok more → content_by_parts number heard (lines ++ rest) ≡ Err first
    → number + length lines ≤ first.line
fault_after number heard more [] rest first some is h = let later = fault_later number heard rest first h in
    omega (arith, later)
fault_after number heard more (line ∷ lines) rest first some is h =
    let later = fault_further number lines more first (line_result heard line) (λ (next : Heard) here along.
    fault_after (number + 1) next more lines rest first some along
    (sym (goes_on number heard next line (lines ++ rest) (some_rest lines rest some) here) ∙ h)) is in
    omega (arith, later)

pub fault_after_entry : (at number : ℕ) (heard : Heard) (parts : List (List ℕ)) (first : TraceFault)
    → ReadsEntry at number heard parts
    → content_by_parts number heard parts ≡ Err first → at < first.line
fault_after_entry at number heard parts first entry h =
    let content : content_by_parts number heard (entry.lines ++ entry.rest) ≡ Err first =
    ap (content_by_parts number heard) (sym entry.cut) ∙ h in
    let later = fault_after number heard (Entries entry.content) entry.lines entry.rest first entry.ended entry.is
    content in
    let place = entry.place in
    omega (arith, later, place)

-- From the start of a text

pub from_start : (text rest : List ℕ) (number : ℕ) → rest ≡ text → number ≡ 1
    → content_from text ≡ content_by_parts number Nothing (parts_of rest)
from_start text rest number same first =
    ap (λ (t : List ℕ). content_by_parts 1 Nothing (parts_of t)) (sym same)
    ∙ ap (λ (n : ℕ). content_by_parts n Nothing (parts_of rest)) (sym first)

-- after the two lines before the entries, which give the base
pub from_base : (text start rest : List ℕ) (number next : ℕ) (base made : Content) → start ≡ text → number ≡ 1
    → content_by_parts number Nothing (parts_of start) ≡ content_by_parts next (Entries base) (parts_of rest)
    → made ≡ base
    → content_from text ≡ content_by_parts next (Entries made) (parts_of rest)
from_base text start rest number next base made same first opened is =
    from_start text start number same first ∙ opened
    ∙ ap (λ (content : Content). content_by_parts next (Entries content) (parts_of rest)) (sym is)
