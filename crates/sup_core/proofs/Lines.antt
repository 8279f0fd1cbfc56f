-- Event lines and begin lines: what is written is read, and what is read is written so.
use Rattle.std.proofs.Common.{◌≡◌, ℕ, ◌^◌, ◌<◌, ◌≤◌, ◌==◌, nat_lt, Bool, true, false, not, List, [], ◌∷◌, ◌++◌, drop}
use Rattle.std.proofs.Common.{Option, Some, None, Result, Ok, Err, zero, suc, ◌/◌, ◌%◌, refl, sym, ap, ◌∙◌, arith}
use Rattle.std.proofs.Common.{decimal, subst, codes}
use Rattle.std.specs.Prelude.{IfOk, IfSome, if◌then◌else◌, bytes_eq, option_map, ok_or}
use Rattle.std.specs.List.{AllByRecursion, list_all, onto_first, slice_split, join_with_byte}
use Rattle.std.specs.Cmp.Derive.{both_true}
use Rattle.std.specs.Fmt.{digits, digits_onto, digit_glyph}
use Rattle.std.proofs.lemmas.Bool.Decides.{nat_tests}
use Rattle.std.proofs.lemmas.Bool.{and_parts}
use Rattle.std.proofs.lemmas.Slice.Eq.{bytes_eq-Decides}
use Rattle.std.proofs.lemmas.List.Splits.{slice_split-cons_no, slice_split-cons_yes, join_with_byte-slice_split}
use Rattle.hex.specs.Hex.{encode_with, encode_lower}
use Rattle.tai_status.specs.Label.{Tai64n, IsLabel, packed, label_text}
use Rattle.tai_status.specs.Phase.{phase_name}
use Rattle.tai_status.specs.Reading.{from_text, is_lower_digit}
use Rattle.tai_status.proofs.Spelled.{from_text-label_text}
use Rattle.sup_core.specs.declared.event.Event.{Event}
use Rattle.sup_core.specs.declared.event.Event.TheVariants.{Byte, Started, StartFailed, Death, Clock}
use Rattle.sup_core.specs.declared.reading.EventFault.{EventFault}
use Rattle.sup_core.specs.declared.reading.EventFault.TheVariants as fault
use Rattle.tai_status.specs.declared.phase.Phase.{Phase}
use Rattle.tai_status.specs.declared.phase.Phase.TheVariants as phase
use Rattle.sup_core.specs.declared.reading.Word.{Word}
use Rattle.sup_core.specs.declared.reading.Word.TheVariants as kind
use Rattle.sup_core.specs.Rules.{IsEvent}
use Rattle.sup_core.specs.Text.{byte_text, event_fields, event_text, begin_fields, begin_text}
use Rattle.sup_core.specs.Fields.{word_name}
use Rattle.sup_core.specs.Reading.{fields, IsInRange, byte_of_text, pid_of_text, label_of_text, byte_event, started}
use Rattle.sup_core.specs.Reading.{start_event, label_event, event_of, event_from, side_of, begun, side_event}
use Rattle.sup_core.specs.Reading.{begin_from}
use Rattle.sup_core.proofs.Spelling.{all_below, all_below-at, SpellsByte, SpellsPid, SpellsLabel, byte_of_text-found}
use Rattle.sup_core.proofs.Spelling.{byte_of_text-only, pid_of_text-found, pid_of_text-only, label_of_text-found}
use Rattle.sup_core.proofs.Spelling.{label_of_text-only}

-- Parts between separators

abbrev pub avoids : ℕ → List ℕ → Bool
avoids separator text = list_all (λ byte. not (byte == separator)) text

not_false : (b : Bool) → not b ≡ true → b ≡ false
not_false true h = cc h
not_false false h = refl

-- the part before a separator
pub split-first : (separator : ℕ) (word rest : List ℕ) → avoids separator word ≡ true
    → slice_split (λ byte. byte == separator) (word ++ separator ∷ rest)
    ≡ word ∷ slice_split (λ byte. byte == separator) rest
split-first separator [] rest h = slice_split-cons_yes (λ byte. byte == separator) separator rest (grind (arith))
split-first separator (x ∷ xs) rest h =
    let parts = and_parts (not (x == separator)) (avoids separator xs) h in
    slice_split-cons_no (λ byte. byte == separator) x (xs ++ separator ∷ rest) (not_false (x == separator) parts.0)
    ∙ ap (onto_first x) (split-first separator xs rest parts.1)

-- the last part
pub split-last : (separator : ℕ) (word : List ℕ) → avoids separator word ≡ true
    → slice_split (λ byte. byte == separator) word ≡ word ∷ []
split-last separator [] h = refl
split-last separator (x ∷ xs) h =
    let parts = and_parts (not (x == separator)) (avoids separator xs) h in
    slice_split-cons_no (λ byte. byte == separator) x xs (not_false (x == separator) parts.0)
    ∙ ap (onto_first x) (split-last separator xs parts.1)

-- Texts of bytes above the space have neither a space nor a newline.

abbrev pub is_solid : List ℕ → Bool
is_solid text = list_all (λ byte. nat_lt 32 byte) text

avoids_solid_byte : (separator byte : ℕ) → separator ≤ 32 → nat_lt 32 byte ≡ true → not (byte == separator) ≡ true
avoids_solid_byte separator byte low h = grind (arith)

pub avoids-solid : (separator : ℕ) (text : List ℕ) → separator ≤ 32 → is_solid text ≡ true
    → avoids separator text ≡ true
avoids-solid separator [] low h = refl
avoids-solid separator (x ∷ xs) low h =
    let parts = and_parts (nat_lt 32 x) (is_solid xs) h in
    both_true (avoids_solid_byte separator x low parts.0) (avoids-solid separator xs low parts.1)

-- the field before a space
fields-first : (word rest : List ℕ) → is_solid word ≡ true → fields (word ++ 32 ∷ rest) ≡ word ∷ fields rest
fields-first word rest h = split-first 32 word rest (avoids-solid 32 word (omega arith) h)

-- the last field
fields-last : (word : List ℕ) → is_solid word ≡ true → fields word ≡ word ∷ []
fields-last word h = split-last 32 word (avoids-solid 32 word (omega arith) h)

abbrev is_solid_text : ℕ → Bool
is_solid_text byte = is_solid (byte_text byte)

solid_table : all_below is_solid_text 256 ≡ true
unfolding encode_with
solid_table = refl

byte_text-solid : (byte : ℕ) → byte < 2 ^ 8 → is_solid (byte_text byte) ≡ true
byte_text-solid byte below = all_below-at is_solid_text 256 byte solid_table below

solid_glyph : (n : ℕ) → nat_lt 32 (digit_glyph false (n % 10)) ≡ true
solid_glyph n = grind (arith, nat_tests)

solid_digits : (k n : ℕ) (acc : List ℕ) → is_solid acc ≡ true → is_solid (digits_onto k 10 false n acc) ≡ true
solid_digits zero n acc h = h
solid_digits (suc k) n acc h =
    let more = both_true (solid_glyph n) h in
    let grown = digit_glyph false (n % 10) ∷ acc in
    elim (n / 10 == 0) as (λ b. is_solid (if b then grown else digits_onto k 10 false (n / 10) grown) ≡ true) [
      | true ↦ more
      | false ↦ solid_digits k (n / 10) grown more
    ]

pub decimal-solid : (n : ℕ) → is_solid (decimal n) ≡ true
unfolding digits
decimal-solid n = solid_digits 64 n [] refl

solid_lower : (c : ℕ) → is_lower_digit c ≡ true → nat_lt 32 c ≡ true
solid_lower c h = grind (arith)

pub lower-solid : (ds : List ℕ) → list_all is_lower_digit ds ≡ true → is_solid ds ≡ true
lower-solid [] h = refl
lower-solid (c ∷ cs) h =
    let parts = and_parts (is_lower_digit c) (list_all is_lower_digit cs) h in
    both_true (solid_lower c parts.0) (lower-solid cs parts.1)

label_lower : (text : List ℕ) (label : Tai64n) → from_text text ≡ Ok label → list_all is_lower_digit (drop 1 text)
    ≡ true
label_lower text label h = grind (arith)

pub label_text-solid : (label : Tai64n) → IsLabel label → is_solid (label_text label) ≡ true
label_text-solid label range =
    lower-solid (encode_lower (packed label)) (label_lower (label_text label) label (from_text-label_text label range))

pub phase_name-solid : (phase : Phase) → is_solid (phase_name phase) ≡ true
phase_name-solid phase.Starting = refl
phase_name-solid phase.Settling = refl
phase_name-solid phase.Resting = refl
phase_name-solid phase.Up = refl
phase_name-solid phase.Down = refl
phase_name-solid phase.Gone = refl

-- What is written is read.

-- solid fields are the fields of their line
pub fields-join : (field : List ℕ) (rest : List (List ℕ))
    → AllByRecursion (λ field. is_solid field ≡ true) (field ∷ rest)
    → fields (join_with_byte 32 (field ∷ rest)) ≡ field ∷ rest
fields-join field [] h = fields-last field h.0
fields-join field (next ∷ rest) h =
    fields-first field (join_with_byte 32 (next ∷ rest)) h.0
    ∙ ap (λ (parts : List (List ℕ)). field ∷ parts) (fields-join next rest h.1)

-- the fields of an event's line
pub event_fields-event_text : (event : Event) → IsInRange event → fields (event_text event) ≡ event_fields event
event_fields-event_text (Byte byte) range = fields-join _ _ (refl, (byte_text-solid byte range, tt))
event_fields-event_text (Started pid label) range =
    fields-join _ _ (refl, (decimal-solid pid, (label_text-solid label range.2, tt)))
event_fields-event_text (StartFailed label) range = fields-join _ _ (refl, (label_text-solid label range, tt))
event_fields-event_text (Death label) range = fields-join _ _ (refl, (label_text-solid label range, tt))
event_fields-event_text (Clock label) range = fields-join _ _ (refl, (label_text-solid label range, tt))

label_read : (label : Tai64n) → IsLabel label → label_of_text (label_text label) ≡ Some label
label_read label range = label_of_text-only (label_text label) label (record { range = range; is = refl })

-- the fields of an event are read as that event
pub event_read : (event : Event) → IsInRange event → event_from (event_fields event) ≡ Ok event
event_read (Byte byte) range = rw (byte_of_text-only (byte_text byte) byte (record { below = range; is = refl })) refl
event_read (Started pid label) range =
    rw (
      pid_of_text-only (decimal pid) pid (record { some = range.0; below = range.1; is = refl }),
      label_read label range.2,
    ) refl
event_read (StartFailed label) range = rw (label_read label range) refl
event_read (Death label) range = rw (label_read label range) refl
event_read (Clock label) range = rw (label_read label range) refl

-- The line of an event is read as that event.
pub event_from-event_text : (event : Event) → IsInRange event → event_from (fields (event_text event)) ≡ Ok event
event_from-event_text event range = ap event_from (event_fields-event_text event range) ∙ event_read event range

side_fields : (down : Bool) (label : Tai64n) → IsLabel label → fields (begin_text down label) ≡ begin_fields down label
side_fields true label range = fields-join _ _ (refl, (refl, (label_text-solid label range, tt)))
side_fields false label range = fields-join _ _ (refl, (refl, (label_text-solid label range, tt)))

begin_read : (down : Bool) (label : Tai64n) → IsLabel label → begin_from (begin_fields down label) ≡ Ok (down, label)
begin_read true label range = rw (label_read label range) refl
begin_read false label range = rw (label_read label range) refl

-- A begin line is read as what it says.
pub begin_from-begin_text : (down : Bool) (label : Tai64n) → IsLabel label → begin_from (fields (begin_text down label))
    ≡ Ok (down, label)
begin_from-begin_text down label range = ap begin_from (side_fields down label range) ∙ begin_read down label range

-- What is read is written so.

pub record Reported (parts : List (List ℕ)) (event : Event) : Type 0 where
  pub range : IsInRange event
  pub is : parts ≡ event_fields event

ok_parts : {A E : Type 0} (o : Option A) (e : E) (x : A) → ok_or o e ≡ Ok x → o ≡ Some x
ok_parts (Some y) e x h = cc h
ok_parts None e x h = cc h

-- a choice by a word
choose : {A T : Type 0} (word name : List ℕ) (a b : Option A) (x : A) → (word ≡ name → a ≡ Some x → T)
    → (b ≡ Some x → T)
    → (if bytes_eq word name then a else b) ≡ Some x → T
choose {A} {T} word name a b x here otherwise h =
    elim (bytes_eq word name) as (λ t. bytes_eq word name ≡ t → (if t then a else b) ≡ Some x → T) [
      | true ↦ λ is. here ((bytes_eq-Decides word name).0 is)
      | false ↦ λ is. otherwise
    ] refl h

byte_spelt : (word text : List ℕ) (o : Option ℕ) (event : Event) → IfSome o (SpellsByte text) → word ≡ codes "byte"
    → option_map (λ byte. Byte byte) o ≡ Some event → Reported (word ∷ text ∷ []) event
byte_spelt word text (Some byte) event reports is h =
    let same : Byte byte ≡ event = cc h in
    let fields : word ∷ text ∷ [] ≡ codes "byte" ∷ byte_text byte ∷ [] = cc (is, reports.is) in
    subst (Reported (word ∷ text ∷ [])) same (record { range = reports.below; is = fields })
byte_spelt word text None event reports is h = cc h

byte_line : (word : List ℕ) (rest : List (List ℕ)) (event : Event) → word ≡ codes "byte" → byte_event rest ≡ Some event
    → Reported (word ∷ rest) event
byte_line word (text ∷ []) event is h = byte_spelt word text (byte_of_text text) event (byte_of_text-found text) is h
byte_line word [] event is h = cc h
byte_line word (a ∷ b ∷ rest) event is h = cc h

start_spelt : (word first second : List ℕ) (pid : Option ℕ) (label : Option Tai64n) (event : Event)
    → IfSome pid (SpellsPid first)
    → IfSome label (SpellsLabel second) → word ≡ codes "started" → started pid label ≡ Some event
    → Reported (word ∷ first ∷ second ∷ []) event
start_spelt word first second (Some pid) (Some label) event p l is h =
    let same : Started pid label ≡ event = cc h in
    let fields : word ∷ first ∷ second ∷ [] ≡ codes "started" ∷ decimal pid ∷ label_text label ∷ [] =
    cc (is, p.is, l.is) in
    subst (Reported (word ∷ first ∷ second ∷ [])) same (record { range = (p.some, p.below, l.range); is = fields })
start_spelt word first second (Some pid) None event p l is h = cc h
start_spelt word first second None label event p l is h = cc h

start_line : (word : List ℕ) (rest : List (List ℕ)) (event : Event) → word ≡ codes "started"
    → start_event rest ≡ Some event → Reported (word ∷ rest) event
start_line word [] event is h = cc h
start_line word (a ∷ []) event is h = cc h
start_line word (a ∷ b ∷ []) event is h =
    start_spelt word a b (pid_of_text a) (label_of_text b) event (pid_of_text-found a) (label_of_text-found b) is h
start_line word (a ∷ b ∷ c ∷ rest) event is h = cc h

-- an event with nothing but a label
record SpellsAlone (name : List ℕ) (make : Tai64n → Event) : Type 0 where
  range : (label : Tai64n) → IsLabel label → IsInRange (make label)
  is : (label : Tai64n) → name ∷ label_text label ∷ [] ≡ event_fields (make label)

label_spelt : (name word text : List ℕ) (make : Tai64n → Event) (o : Option Tai64n) (event : Event)
    → SpellsAlone name make
    → IfSome o (SpellsLabel text) → word ≡ name → option_map make o ≡ Some event → Reported (word ∷ text ∷ []) event
label_spelt name word text make (Some label) event alone reports is h =
    let same : make label ≡ event = cc h in
    let fields : word ∷ text ∷ [] ≡ name ∷ label_text label ∷ [] = cc (is, reports.is) in
    subst (Reported (word ∷ text ∷ [])) same
    (record { range = alone.range label reports.range; is = fields ∙ alone.is label })
label_spelt name word text make None event alone reports is h = cc h

label_line : (name word : List ℕ) (make : Tai64n → Event) (rest : List (List ℕ)) (event : Event) → SpellsAlone name make
    → word ≡ name → label_event make rest ≡ Some event → Reported (word ∷ rest) event
label_line name word make [] event alone is h = cc h
label_line name word make (text ∷ []) event alone is h =
    label_spelt name word text make (label_of_text text) event alone (label_of_text-found text) is h
label_line name word make (a ∷ b ∷ rest) event alone is h = cc h

failed_alone : SpellsAlone (codes "failed") (λ label. StartFailed label)
failed_alone = record { range = λ label h. h; is = λ label. refl }

death_alone : SpellsAlone (codes "death") (λ label. Death label)
death_alone = record { range = λ label h. h; is = λ label. refl }

clock_alone : SpellsAlone (codes "clock") (λ label. Clock label)
clock_alone = record { range = λ label h. h; is = λ label. refl }

event_spelt : (word : List ℕ) (rest : List (List ℕ)) (event : Event) → event_of word rest ≡ Some event
    → Reported (word ∷ rest) event
event_spelt word rest event h =
    choose word (codes "byte") _ _ event (byte_line word rest event)
    (choose word (codes "started") _ _ event (start_line word rest event)
    (choose word (codes "failed") _ _ event
    (label_line (codes "failed") word (λ label. StartFailed label) rest event failed_alone)
    (choose word (codes "death") _ _ event
    (label_line (codes "death") word (λ label. Death label) rest event death_alone)
    (choose word (codes "clock") _ _ event
    (label_line (codes "clock") word (λ label. Clock label) rest event clock_alone)
    (λ (none : None ≡ Some event). cc none))))) h

pub report_of : (parts : List (List ℕ)) (event : Event) → event_from parts ≡ Ok event → Reported parts event
report_of [] event h = cc h
report_of (word ∷ rest) event h = event_spelt word rest event (ok_parts _ _ event h)

-- The event that a line is read as has that line.
pub event_text-event_from : (line : List ℕ) (r : Result Event EventFault) → r ≡ event_from (fields line)
    → IfOk r (λ event. IsInRange event × (line ≡ event_text event))
event_text-event_from line (Ok event) h =
    let reported = report_of (fields line) event (sym h) in
    (reported.range, sym (join_with_byte-slice_split 32 line) ∙ ap (join_with_byte 32) reported.is)
event_text-event_from line (Err e) h = tt

pub record BeginSpelt (parts : List (List ℕ)) (begin : Bool × Tai64n) : Type 0 where
  pub range : IsLabel begin.1
  pub is : parts ≡ begin_fields begin.0 begin.1

side_spelt : (word side text : List ℕ) (down : Bool) (label : Option Tai64n) (begin : Bool × Tai64n)
    → side ≡ (if down then codes "down" else codes "up") → IfSome label (SpellsLabel text) → word ≡ codes "begin"
    → begun (Some down) label ≡ Some begin → BeginSpelt (word ∷ side ∷ text ∷ []) begin
side_spelt word side text down (Some label) begin s l is h =
    let same : (down, label) ≡ begin = cc h in
    let fields : word ∷ side ∷ text ∷ [] ≡ begin_fields down label = cc (is, s, l.is) in
    subst (BeginSpelt (word ∷ side ∷ text ∷ [])) same (record { range = l.range; is = fields })
side_spelt word side text down None begin s l is h = cc h

sided : (word side text : List ℕ) (label : Option Tai64n) (begin : Bool × Tai64n)
    → IfSome label (SpellsLabel text) → word ≡ codes "begin"
    → begun (side_of side) label ≡ Some begin → BeginSpelt (word ∷ side ∷ text ∷ []) begin
sided word side text label begin l is h =
    elim (bytes_eq side (codes "up")) as (λ t. bytes_eq side (codes "up") ≡ t
    → begun (if t then Some false else if bytes_eq side (codes "down") then Some true else None) label ≡ Some begin
    → BeginSpelt (word ∷ side ∷ text ∷ []) begin) [
      | true ↦ λ at h. side_spelt word side text false label begin ((bytes_eq-Decides side (codes "up")).0 at) l is h
      | false ↦ λ not_up h.
          elim (bytes_eq side (codes "down")) as (λ t. bytes_eq side (codes "down") ≡ t
          → begun (if t then Some true else None) label ≡ Some begin
          → BeginSpelt (word ∷ side ∷ text ∷ []) begin) [
            | true ↦ λ at h. side_spelt word side text true label begin ((bytes_eq-Decides side (codes "down")).0 at) l
                is h
            | false ↦ λ not_down h. cc h
          ] refl h
    ] refl h

side_line : (word : List ℕ) (rest : List (List ℕ)) (begin : Bool × Tai64n) → word ≡ codes "begin"
    → side_event rest ≡ Some begin
    → BeginSpelt (word ∷ rest) begin
side_line word [] begin is h = cc h
side_line word (a ∷ []) begin is h = cc h
side_line word (a ∷ b ∷ []) begin is h = sided word a b (label_of_text b) begin (label_of_text-found b) is h
side_line word (a ∷ b ∷ c ∷ rest) begin is h = cc h

begin_spelt : (parts : List (List ℕ)) (begin : Bool × Tai64n) → begin_from parts ≡ Ok begin → BeginSpelt parts begin
begin_spelt [] begin h = cc h
begin_spelt (word ∷ rest) begin h =
    choose word (codes "begin") _ _ begin (side_line word rest begin) (λ (none : None ≡ Some begin). cc none)
    (ok_parts _ _ begin h)

-- The beginning that a line is read as has that begin line.
pub begin_text-begin_from : (line : List ℕ) (r : Result (Bool × Tai64n) EventFault) → r ≡ begin_from (fields line)
    → IfOk r (λ begin. IsLabel begin.1 × (line ≡ begin_text begin.0 begin.1))
begin_text-begin_from line (Ok begin) h =
    let reported = begin_spelt (fields line) begin (sym h) in
    (reported.range, sym (join_with_byte-slice_split 32 line) ∙ ap (join_with_byte 32) reported.is)
begin_text-begin_from line (Err e) h = tt

other_word : (word name : List ℕ) → (word ≡ name → ⊥) → bytes_eq word name ≡ false
other_word word name other =
    elim (bytes_eq word name) as (λ t. bytes_eq word name ≡ t → t ≡ false) [
      | true ↦ λ is. absurd (other ((bytes_eq-Decides word name).0 is))
      | false ↦ λ is. refl
    ] refl

-- A line with an unknown word is refused as one.
pub unknown_word : (word : List ℕ) (rest : List (List ℕ)) → ((known : Word) → word ≡ word_name known → ⊥)
    → event_from (word ∷ rest) ≡ Err fault.UnknownEvent
unknown_word word rest other =
    rw (
      other_word word _ (other kind.Byte),
      other_word word _ (other kind.Started),
      other_word word _ (other kind.Failed),
      other_word word _ (other kind.Death),
      other_word word _ (other kind.Clock),
    ) refl

pub IsEvent-in_range : (event : Event) → IsInRange event → IsEvent event
IsEvent-in_range (Byte byte) h = tt
IsEvent-in_range (Started pid label) h = h.0
IsEvent-in_range (StartFailed label) h = tt
IsEvent-in_range (Death label) h = tt
IsEvent-in_range (Clock label) h = tt

-- A process number that is read is at least 1.
pub IsEvent-event_from : (line : List ℕ) (r : Result Event EventFault) → r ≡ event_from (fields line) → IfOk r IsEvent
IsEvent-event_from line (Ok event) h = IsEvent-in_range event (report_of (fields line) event (sym h)).range
IsEvent-event_from line (Err e) h = tt
