-- Suite events and their lines: what is written is read, and what is read is written so.
use Rattle.std.proofs.Common.{◌≡◌, ℕ, ◌==◌, true, false, List, [], ◌∷◌, ◌++◌, map, Option, Some, None, Result, Ok, Err}
use Rattle.std.proofs.Common.{refl, sym, ap, ◌∙◌, arith, decimal, codes, subst}
use Rattle.std.specs.Prelude.{IfSome, IfOk, MatchResult, is_some, if◌then◌else◌, bytes_eq}
use Rattle.std.specs.List.{join_with_byte}
use Rattle.std.specs.Cmp.Derive.{both_true}
use Rattle.std.proofs.lemmas.Slice.Eq.{bytes_eq-Decides}
use Rattle.std.proofs.lemmas.List.Folds.{list_all-append}
use Rattle.std.proofs.lemmas.List.Splits.{join_with_byte-slice_split}
use Rattle.tai_status.specs.Label.{Tai64n, label_text}
use Rattle.scan_table.specs.declared.part.Role.{Role}
use Rattle.scan_table.specs.declared.part.Role.TheVariants.{Main, Log}
use Rattle.scan_table.specs.declared.part.PartId.{PartId}
use Rattle.scan_table.specs.Slots.{Row}
use Rattle.sup_core.specs.declared.event.Event.{Event}
use Rattle.sup_core.specs.declared.event.Event.TheVariants.{Byte, Started, StartFailed, Death, Clock}
use Rattle.sup_core.specs.declared.reading.EventFault.{EventFault}
use Rattle.sup_core.specs.declared.reading.EventFault.TheVariants as why
use Rattle.sup_core.specs.Text.{event_fields, event_text}
use Rattle.sup_core.specs.Reading.{fields, IsInRange, label_of_text, event_from}
use Rattle.sup_core.proofs.Fields.{split_some_part}
use Rattle.sup_core.proofs.Spelling.{SpellsLabel, label_of_text-found, label_of_text-only}
use Rattle.sup_core.proofs.Lines.{is_solid, avoids-solid, split-first, fields-join, decimal-solid, label_text-solid}
use Rattle.sup_core.proofs.Lines.{event_fields-event_text, event_read, Reported, report_of}
use Rattle.suite_lines.specs.declared.event.SuiteEvent.{SuiteEvent}
use Rattle.suite_lines.specs.declared.event.SuiteEvent.TheVariants.{Scan, At}
use Rattle.suite_lines.specs.declared.fault.SuiteLineFault.{SuiteLineFault}
use Rattle.suite_lines.specs.declared.fault.SuiteLineFault.TheVariants as fault
use Rattle.suite_lines.specs.Text.{role_name, part_text, row_text, IsPart, IsSpellable, suite_event_fields}
use Rattle.suite_lines.specs.Text.{suite_event_text}
use Rattle.suite_lines.specs.Reading.{dotted, part_from, rows_of_texts, scan_of, scan_from, at_of, at_from}
use Rattle.suite_lines.specs.Reading.{suite_event_from}
use Rattle.suite_lines.specs.Answers.{line_fault, IsRead}
use Rattle.suite_lines.specs.Fields.{are_rows}
use Rattle.suite_lines.proofs.PartTexts.{part_from-part_text, part_text-part_from}
use Rattle.suite_lines.proofs.RowTexts.{rows-solid, rows-read, SpellsRows, rows-reported}

-- What is written is read.

role-solid : (role : Role) → is_solid (role_name role) ≡ true
role-solid Main = refl
role-solid Log = refl

joined-solid : (a b : List ℕ) → is_solid a ≡ true → is_solid b ≡ true → is_solid (a ++ 46 ∷ b) ≡ true
joined-solid a b first second = list_all-append _ a (46 ∷ b) ∙ both_true first second

part_text-solid : (part : PartId) → is_solid (part_text part) ≡ true
part_text-solid part =
    joined-solid (decimal part.slot) _ (decimal-solid part.slot)
    (joined-solid (role_name part.role) (decimal part.life) (role-solid part.role) (decimal-solid part.life))

-- the line of an event at a part: its word, the part and the event's line
at_line : (A : Type 0) (part : PartId) (event : Event)
    → suite_event_text {A = A} (At part event) ≡ codes "at" ++ 32 ∷ (part_text part ++ 32 ∷ event_text event)
at_line A part (Byte byte) = refl
at_line A part (Started pid label) = refl
at_line A part (StartFailed label) = refl
at_line A part (Death label) = refl
at_line A part (Clock label) = refl

at_fields : (A : Type 0) (part : PartId) (event : Event) → IsInRange event
    → fields (suite_event_text {A = A} (At part event)) ≡ suite_event_fields {A = A} (At part event)
at_fields A part event range =
    ap fields (at_line A part event)
    ∙ split-first 32 (codes "at") (part_text part ++ 32 ∷ event_text event) refl
    ∙ ap (λ (more : List (List ℕ)). codes "at" ∷ more)
    (split-first 32 (part_text part) (event_text event)
    (avoids-solid 32 (part_text part) (omega arith) (part_text-solid part))
    ∙ ap (λ (more : List (List ℕ)). part_text part ∷ more) (event_fields-event_text event range))

-- the fields of a suite event's line
line_fields : {A : Type 0} (event : SuiteEvent A) → IsSpellable event → fields (suite_event_text event)
    ≡ suite_event_fields event
line_fields (Scan rows label) h = fields-join _ _ (refl, (label_text-solid label h.0, rows-solid rows h.1))
line_fields {A} (At part event) h = at_fields A part event h.1

at_read : {A : Type 0} (part : PartId) (event : Event) → IsPart part → IsInRange event
    → at_from {A = A} (part_text part ∷ event_fields event) ≡ Ok (At part event)
at_read part (Byte byte) p h = rw (part_from-part_text part p, event_read (Byte byte) h) refl
at_read part (Started pid label) p h = rw (part_from-part_text part p, event_read (Started pid label) h) refl
at_read part (StartFailed label) p h = rw (part_from-part_text part p, event_read (StartFailed label) h) refl
at_read part (Death label) p h = rw (part_from-part_text part p, event_read (Death label) h) refl
at_read part (Clock label) p h = rw (part_from-part_text part p, event_read (Clock label) h) refl

fields_read : {A : Type 0} (event : SuiteEvent A) → IsSpellable event → suite_event_from (suite_event_fields event)
    ≡ Ok event
fields_read (Scan rows label) h =
    rw (label_of_text-only (label_text label) label (record { range = h.0; is = refl }), rows-read rows h.1) refl
fields_read (At part event) h = at_read part event h.0 h.1

-- The line of an event is read as that event.
pub suite_event_from-suite_event_text : {A : Type 0} (event : SuiteEvent A) → IsSpellable event
    → suite_event_from (fields (suite_event_text event)) ≡ Ok event
suite_event_from-suite_event_text event h = ap suite_event_from (line_fields event h) ∙ fields_read event h

-- What is read is written so.

record SpellsEvent {A : Type 0} (parts : List (List ℕ)) (event : SuiteEvent A) : Type 0 where
  so : IsSpellable event
  is : parts ≡ suite_event_fields event

scan_spelt : {A : Type 0} (word text : List ℕ) (texts : List (List ℕ)) (label : Option Tai64n)
    (rows : Option (List Row))
    (event : SuiteEvent A) → IfSome label (SpellsLabel text) → ((r : List Row) → rows ≡ Some r → SpellsRows texts r)
    → word ≡ codes "scan" → scan_of label rows ≡ Ok event → SpellsEvent (word ∷ text ∷ texts) event
scan_spelt word text texts None rows event l r is h = cc h
scan_spelt word text texts (Some label) None event l r is h = cc h
scan_spelt word text texts (Some label) (Some rows) event l r is h =
    let same : Scan rows label ≡ event = cc h in
    let reported = r rows refl in
    let parts : word ∷ text ∷ texts ≡ codes "scan" ∷ label_text label ∷ map row_text rows = cc (
      is,
      l.is,
      reported.is,
    ) in
    subst (SpellsEvent (word ∷ text ∷ texts)) same (record { so = (l.range, reported.names); is = parts })

scan_line : {A : Type 0} (word : List ℕ) (rest : List (List ℕ)) (event : SuiteEvent A) → word ≡ codes "scan"
    → scan_from rest ≡ Ok event → SpellsEvent (word ∷ rest) event
scan_line word [] event is h = cc h
scan_line word (text ∷ texts) event is h =
    scan_spelt word text texts (label_of_text text) (rows_of_texts texts) event (label_of_text-found text)
    (rows-reported texts) is h

at_spelt : {A : Type 0} (word text first : List ℕ) (rest : List (List ℕ)) (part : Result PartId EventFault)
    (reported : Result Event EventFault) (event : SuiteEvent A)
    → ((p : PartId) → part ≡ Ok p → IsPart p × (text ≡ part_text p))
    → ((e : Event) → reported ≡ Ok e → Reported (first ∷ rest) e)
    → word ≡ codes "at" → at_of part reported ≡ Ok event → SpellsEvent (word ∷ text ∷ first ∷ rest) event
at_spelt word text first rest (Err why) reported event p e is h = cc h
at_spelt word text first rest (Ok part) (Err why) event p e is h = cc h
at_spelt word text first rest (Ok part) (Ok reported) event p e is h =
    let same : At part reported ≡ event = cc h in
    let here = p part refl in
    let line = e reported refl in
    let here_is = here.1 in
    let line_is = line.is in
    let parts : word ∷ text ∷ first ∷ rest ≡ codes "at" ∷ part_text part ∷ event_fields reported =
    cc (is, here_is, line_is) in
    subst (SpellsEvent (word ∷ text ∷ first ∷ rest)) same (record { so = (here.0, line.range); is = parts })

at_parts : {A : Type 0} (word : List ℕ) (rest : List (List ℕ)) (event : SuiteEvent A) → word ≡ codes "at"
    → at_from rest ≡ Ok event → SpellsEvent (word ∷ rest) event
at_parts word [] event is h = cc h
at_parts word (text ∷ []) event is h = cc h
at_parts word (text ∷ first ∷ rest) event is h =
    at_spelt word text first rest (part_from (dotted text)) (event_from (first ∷ rest)) event (part_text-part_from text)
    (report_of (first ∷ rest)) is h

-- a choice by a word
choose : {R E T : Type 0} (word name : List ℕ) (a b : Result R E) (x : R) → (word ≡ name → a ≡ Ok x → T)
    → (b ≡ Ok x → T)
    → (if bytes_eq word name then a else b) ≡ Ok x → T
choose {R} {E} {T} word name a b x here otherwise h =
    elim (bytes_eq word name) as (λ t. bytes_eq word name ≡ t → (if t then a else b) ≡ Ok x → T) [
      | true ↦ λ is. here ((bytes_eq-Decides word name).0 is)
      | false ↦ λ is. otherwise
    ] refl h

fields_spelt : {A : Type 0} (parts : List (List ℕ)) (event : SuiteEvent A) → suite_event_from parts ≡ Ok event
    → SpellsEvent parts event
fields_spelt [] event h = cc h
fields_spelt (word ∷ rest) event h =
    choose word (codes "scan") _ _ event (scan_line word rest event)
    (choose word (codes "at") _ _ event (at_parts word rest event)
    (λ (none : Err why.UnknownEvent ≡ Ok event). cc none)) h

-- The event that a line is read as has that line.
pub suite_event_text-suite_event_from : {A : Type 0} (line : List ℕ) (event : SuiteEvent A)
    → suite_event_from (fields line) ≡ Ok event
    → IsSpellable event × (line ≡ suite_event_text event)
suite_event_text-suite_event_from line event h =
    let reported = fields_spelt (fields line) event h in
    (reported.so, sym (join_with_byte-slice_split 32 line) ∙ ap (join_with_byte 32) reported.is)

-- the fields of an event at a part, if its line is left
pub at_from_line : {A : Type 0} (text line : List ℕ)
    → at_from {A = A} (text ∷ fields line) ≡ at_of (part_from (dotted text)) (event_from (fields line))
at_from_line {A} text line = more (fields line) (split_some_part (λ byte. byte == 32) line)
  where
    more : (parts : List (List ℕ)) → (parts ≡ [] → ⊥)
        → at_from {A = A} (text ∷ parts) ≡ at_of (part_from (dotted text)) (event_from parts)
    more [] some = absurd (some refl)
    more (word ∷ rest) some = refl

-- Results

-- faults, and a lack of memory at a scan, as results
pub IsRead-refused : {A : Type 0} (reported : Result (SuiteEvent A) EventFault)
    (answer : Result (SuiteEvent A) SuiteLineFault) (why : EventFault)
    → reported ≡ Err why → answer ≡ Err (line_fault why) → IsRead reported answer
IsRead-refused {A} reported answer why is answered =
    subst (λ (r : Result (SuiteEvent A) EventFault). IsRead r answer) (sym is) answered

-- the first fault of an event at a part: first that of the part, then that of the event
pub part_refused : {A : Type 0} (parts : List (List ℕ)) (text line : List ℕ) (why : EventFault)
    → parts ≡ text ∷ fields line
    → Err why ≡ part_from (dotted text) → at_from {A = A} parts ≡ Err why
part_refused {A} parts text line why is refused =
    ap (λ (ps : List (List ℕ)). at_from {A = A} ps) is ∙ at_from_line text line
    ∙ ap (λ (r : Result PartId EventFault). at_of {A = A} r (event_from (fields line))) (sym refused)

pub event_refused : {A : Type 0} (parts : List (List ℕ)) (text line : List ℕ) (part : PartId) (why : EventFault)
    → parts ≡ text ∷ fields line
    → Ok part ≡ part_from (dotted text) → Err why ≡ event_from (fields line) → at_from {A = A} parts ≡ Err why
event_refused {A} parts text line part why is here refused =
    ap (λ (ps : List (List ℕ)). at_from {A = A} ps) is ∙ at_from_line text line
    ∙ ap (λ (r : Result PartId EventFault). at_of {A = A} r (event_from (fields line))) (sym here)
    ∙ ap (λ (r : Result Event EventFault). at_of {A = A} (Ok part) r) (sym refused)

scan_unread : {A : Type 0} (label : Tai64n) (rows : Option (List Row)) (answer : Result (SuiteEvent A) SuiteLineFault)
    → is_some rows ≡ true → answer ≡ Err fault.OutOfMemory → IsRead (scan_of (Some label) rows) answer
scan_unread label None answer right is = cc right
scan_unread {A} label (Some rows) answer right is =
    subst (λ (r : Result (SuiteEvent A) SuiteLineFault). IsRead (Ok (Scan rows label)) r) (sym is) refl

pub IsRead-unread : {A : Type 0} (parts texts : List (List ℕ)) (text : List ℕ) (label : Tai64n)
    (answer : Result (SuiteEvent A) SuiteLineFault)
    → parts ≡ text ∷ texts → label_of_text text ≡ Some label → are_rows texts ≡ true → answer ≡ Err fault.OutOfMemory
    → IsRead (scan_from parts) answer
IsRead-unread {A} parts texts text label answer is read right missed =
    rw (is, read) (scan_unread label (rows_of_texts texts) answer right missed)

pub read_spelt : {A : Type 0} (reported : Result (SuiteEvent A) EventFault)
    (answer : Result (SuiteEvent A) SuiteLineFault)
    (event : SuiteEvent A)
    → IsRead reported answer → answer ≡ Ok event → reported ≡ Ok event
read_spelt (Ok (Scan rows label)) (Ok read) event h is = let same : read ≡ event = cc is in cc (h, same)
read_spelt (Ok (Scan rows label)) (Err why) event h is = cc is
read_spelt (Ok (At part at)) answer event h is = let same : Ok (At part at) ≡ Ok event = sym h ∙ is in cc same
read_spelt (Err why) answer event h is = let none : Err (line_fault why) ≡ Ok event = sym h ∙ is in cc none

pub read-found : {A : Type 0} (line : List ℕ) (answer : Result (SuiteEvent A) SuiteLineFault)
    → IsRead (suite_event_from (fields line)) answer
    → IfOk answer (λ event. IsSpellable event × (line ≡ suite_event_text event))
read-found line (Ok event) h =
    suite_event_text-suite_event_from line event (read_spelt (suite_event_from (fields line)) (Ok event) event h refl)
read-found line (Err why) h = tt

read_only : {A : Type 0} (event : SuiteEvent A) (answer : Result (SuiteEvent A) SuiteLineFault)
    → IsRead (Ok event) answer
    → MatchResult answer (λ read. read ≡ event) (λ why. why ≡ fault.OutOfMemory)
read_only (Scan rows label) answer h = h
read_only {A} (At part event) answer h =
    subst (λ (r : Result (SuiteEvent A) SuiteLineFault).
    MatchResult r (λ read. read ≡ At part event) (λ why. why ≡ fault.OutOfMemory)) (sym h) refl

pub read-only : {A : Type 0} (line : List ℕ) (answer : Result (SuiteEvent A) SuiteLineFault) (event : SuiteEvent A)
    → IsSpellable event
    → line ≡ suite_event_text event → IsRead (suite_event_from (fields line)) answer
    → MatchResult answer (λ read. read ≡ event) (λ why. why ≡ fault.OutOfMemory)
read-only {A} line answer event so is h =
    let reported = ap (λ (text : List ℕ). suite_event_from {A = A} (fields text)) is
    ∙ suite_event_from-suite_event_text event so in
    read_only event answer (subst (λ (r : Result (SuiteEvent A) EventFault). IsRead r answer) reported h)
