-- The fields of the base's line: what is written is read, and what is read is written so.
use Rattle.std.proofs.Common.{◌≡◌, ℕ, ◌^◌, ◌≤◌, ◌&&◌, ◌==◌, nat_le, Bool, true, false, List, [], ◌∷◌, Option, Some}
use Rattle.std.proofs.Common.{None, Result, Ok, Err, refl, sym, ap, ◌∙◌, arith, decimal, codes, subst}
use Rattle.std.specs.Prelude.{IfSome, IfOk, if◌then◌else◌, bytes_eq, option_map}
use Rattle.std.specs.Result.{result_ok}
use Rattle.std.specs.Str.Parse.{digits_value}
use Rattle.std.proofs.lemmas.Bool.{and_parts}
use Rattle.std.proofs.lemmas.Slice.Eq.{bytes_eq-Decides}
use Rattle.std.proofs.lemmas.Fmt.{decimal_is_IsNumeral}
use Rattle.hex.specs.Hex.{decode_sized, encode_lower, IsBytes}
use Rattle.hex.specs.declared.error.FromHexError.{FromHexError}
use Rattle.hex.proofs.HexLemmas.{decode_sized-encode_lower, decode_sized-ok, decode_pairs-ok}
use Rattle.hex.proofs.Pairs.{decode_sized-pairs}
use Rattle.tai_status.specs.Label.{Tai64n, IsLabel, label_text}
use Rattle.tai_status.specs.Phase.{phase_name}
use Rattle.tai_status.specs.Record.{Status, IsStatus, IsRecord, status_record}
use Rattle.tai_status.specs.declared.record.RecordFault.{RecordFault}
use Rattle.tai_status.proofs.Recorded.{found_recorded, status_from-record, IsRecord-status_record}
use Rattle.tai_status.proofs.Spelled.{IsBytes-status_record}
use Rattle.tai_status.specs.Decoding.{status_from}
use Rattle.tai_status.specs.declared.phase.Phase.{Phase}
use Rattle.tai_status.specs.declared.phase.Phase.TheVariants as phase
use Rattle.sup_core.specs.Reading.{fields, label_of_text}
use Rattle.sup_core.proofs.Fields.{split_some_part}
use Rattle.sup_core.proofs.Spelling.{SpellsLabel, label_of_text-found, label_of_text-only}
use Rattle.sup_trace.specs.Text.{stay_text, until_text}
use Rattle.sup_trace.specs.Reading.{folded_of_text, phase_of_text, if_spelled, status_of_bytes, status_of_text}
use Rattle.sup_trace.specs.Reading.{exiting_of_text, until_of_text, base_result}
use Rattle.sup_trace.specs.declared.fault.TraceFaultKind.TheVariants as kind

-- Results that are tested

tested : {A : Type 0} (R : A → Type 0) (test : Bool) (x : A) → (test ≡ true → R x)
    → IfSome (if test then Some x else None) R
tested R test x h =
    elim test as (λ t. test ≡ t → IfSome (if t then Some x else None) R) [ true ↦ λ is. h is | false ↦ λ is. tt ] refl

-- The count

le-from_test : (m n : ℕ) → nat_le m n ≡ true → m ≤ n
le-from_test m n h = grind (arith)

le-test : (m n : ℕ) → m ≤ n → nat_le m n ≡ true
le-test m n h = grind (arith)

pub record SpellsFolded (text : List ℕ) (folded : ℕ) : Type 0 where
  pub limit : folded ≤ 2 ^ 63
  pub is : text ≡ decimal folded

folded_tested : (text : List ℕ) (folded : ℕ) → (nat_le folded (2 ^ 63) && bytes_eq (decimal folded) text) ≡ true
    → SpellsFolded text folded
folded_tested text folded h =
    let parts = and_parts (nat_le folded (2 ^ 63)) (bytes_eq (decimal folded) text) h in
    record { limit = le-from_test _ _ parts.0; is = sym ((bytes_eq-Decides (decimal folded) text).0 parts.1) }

pub folded_of_text-found : (text : List ℕ) → IfSome (folded_of_text text) (SpellsFolded text)
unfolding folded_of_text
folded_of_text-found text =
    tested (SpellsFolded text) _ (digits_value 10 text) (folded_tested text (digits_value 10 text))

pub folded_of_text-only : (text : List ℕ) (folded : ℕ) → SpellsFolded text folded → folded_of_text text ≡ Some folded
unfolding folded_of_text
folded_of_text-only text folded h =
    let limit = h.limit in
    let value : digits_value 10 text ≡ folded = ap (digits_value 10) h.is
    ∙ (decimal_is_IsNumeral folded (omega (arith, limit))).1 in
    let same = (bytes_eq-Decides (decimal folded) text).1 (sym h.is) in
    rw (value, le-test folded (2 ^ 63) limit, same) refl

-- The phase

choose : {A T : Type 0} (word name : List ℕ) (a b : Option A) (x : A) → (word ≡ name → a ≡ Some x → T)
    → (b ≡ Some x → T)
    → (if bytes_eq word name then a else b) ≡ Some x → T
choose {A} {T} word name a b x here otherwise h =
    elim (bytes_eq word name) as (λ t. bytes_eq word name ≡ t → (if t then a else b) ≡ Some x → T) [
      | true ↦ λ is. here ((bytes_eq-Decides word name).0 is)
      | false ↦ λ is. otherwise
    ] refl h

named : (text : List ℕ) (a b : Phase) → text ≡ phase_name a → Some a ≡ Some b → text ≡ phase_name b
named text a b is same = let e : a ≡ b = cc same in is ∙ ap phase_name e

pub phase_of_text-found : (text : List ℕ) (found : Phase) → phase_of_text text ≡ Some found → text ≡ phase_name found
phase_of_text-found text found h =
    choose text (codes "starting") _ _ found (named text phase.Starting found)
    (choose text (codes "settling") _ _ found (named text phase.Settling found)
    (choose text (codes "resting") _ _ found (named text phase.Resting found)
    (choose text (codes "up") _ _ found (named text phase.Up found)
    (choose text (codes "down") _ _ found (named text phase.Down found)
    (choose text (codes "gone") _ _ found (named text phase.Gone found)
    (λ (none : None ≡ Some found). cc none)))))) h

pub phase_of_text-only : (named : Phase) → phase_of_text (phase_name named) ≡ Some named
phase_of_text-only phase.Starting = refl
phase_of_text-only phase.Settling = refl
phase_of_text-only phase.Resting = refl
phase_of_text-only phase.Up = refl
phase_of_text-only phase.Down = refl
phase_of_text-only phase.Gone = refl

pub phase_of_text-exact : (text : List ℕ) (r : Option Phase) → IfSome r (λ named. text ≡ phase_name named)
    → ((named : Phase) → text ≡ phase_name named → r ≡ Some named) → r ≡ phase_of_text text
phase_of_text-exact text (Some named) found only = sym (ap phase_of_text found ∙ phase_of_text-only named)
phase_of_text-exact text None found only =
    elim (phase_of_text text) as (λ o. phase_of_text text ≡ o → None ≡ o) [
      | Some named ↦ λ is. only named (phase_of_text-found text named is)
      | None ↦ λ is. refl
    ] refl

-- The record

pub record SpellsStatus (text : List ℕ) (status : Status) : Type 0 where
  pub range : IsStatus status
  pub is : text ≡ encode_lower (status_record status)

only_status : (r : Result Status RecordFault) (bytes : List ℕ)
    → IfOk r (λ status. IsStatus status × IsRecord bytes status) → IfOk r IsStatus
only_status (Ok status) bytes h = h.0
only_status (Err fault) bytes h = tt

bytes_decoded : (text bytes : List ℕ) → decode_sized text 18 ≡ Ok bytes → IsBytes bytes
bytes_decoded text bytes h =
    let len = decode_sized-ok text 18 bytes h in
    let pairs = sym (decode_sized-pairs text 18 (omega (arith, len)) (omega (arith, len))) ∙ h in
    (decode_pairs-ok 0 text bytes pairs).2

spelled_status : (text : List ℕ) (r : Result Status RecordFault) → IfOk r IsStatus
    → IfSome (if_spelled text (result_ok r)) (SpellsStatus text)
spelled_status text (Err fault) range = tt
spelled_status text (Ok status) range = tested (SpellsStatus text) _ status λ same.
    record { range = range; is = sym ((bytes_eq-Decides (encode_lower (status_record status)) text).0 same) }

spelled_so : (text : List ℕ) (r : Result (List ℕ) FromHexError) → decode_sized text 18 ≡ r
    → IfSome (if_spelled text (status_of_bytes r)) (SpellsStatus text)
spelled_so text (Err e) h = tt
spelled_so text (Ok bytes) h =
    let range = only_status _ bytes (found_recorded bytes (status_from bytes) (bytes_decoded text bytes h) refl) in
    spelled_status text (status_from bytes) range

pub status_of_text-found : (text : List ℕ) → IfSome (status_of_text text) (SpellsStatus text)
unfolding status_of_text
status_of_text-found text = spelled_so text (decode_sized text 18) refl

pub status_of_text-only : (text : List ℕ) (status : Status) → SpellsStatus text status
    → status_of_text text ≡ Some status
unfolding status_of_text
status_of_text-only text status h =
    let bytes = status_record status in
    let recorded = IsRecord-status_record status in
    let decoded : decode_sized text 18 ≡ Ok bytes =
    ap (λ (digits : List ℕ). decode_sized digits 18) h.is
    ∙ decode_sized-encode_lower bytes 18 recorded.size (IsBytes-status_record status) in
    let read = status_from-record bytes status h.range recorded in
    let same = (bytes_eq-Decides (encode_lower bytes) text).1 (sym h.is) in
    ap (λ (r : Result (List ℕ) FromHexError). if_spelled text (status_of_bytes r)) decoded
    ∙ ap (λ (r : Result Status RecordFault). if_spelled text (result_ok r)) read
    ∙ ap (λ (b : Bool). if b then Some status else None) same

-- Whether supervise exits after the process

stayed : (text : List ℕ) (a b : Bool) → text ≡ stay_text a → Some a ≡ Some b → text ≡ stay_text b
stayed text a b is same = let e : a ≡ b = cc same in is ∙ ap stay_text e

pub exiting_of_text-found : (text : List ℕ) (exiting : Bool) → exiting_of_text text ≡ Some exiting
    → text ≡ stay_text exiting
exiting_of_text-found text exiting h =
    choose text (codes "exit") _ _ exiting (stayed text true exiting)
    (choose text (codes "stay") _ _ exiting (stayed text false exiting)
    (λ (none : None ≡ Some exiting). cc none)) h

pub exiting_of_text-only : (exiting : Bool) → exiting_of_text (stay_text exiting) ≡ Some exiting
exiting_of_text-only true = refl
exiting_of_text-only false = refl

-- Until when it settles or rests

pub record SpellsUntil (text : List ℕ) (until : Option Tai64n) : Type 0 where
  pub range : IfSome until IsLabel
  pub is : text ≡ until_text until

until_label : (text : List ℕ) (label : Option Tai64n) (until : Option Tai64n) → IfSome label (SpellsLabel text)
    → option_map (λ label. Some label) label ≡ Some until → SpellsUntil text until
until_label text (Some label) until reports h =
    let e : Some label ≡ until = cc h in
    subst (SpellsUntil text) e (record { range = reports.range; is = reports.is })
until_label text None until reports h = cc h

until_none : (text : List ℕ) (until : Option Tai64n) → text ≡ codes "-" → Some None ≡ Some until
    → SpellsUntil text until
until_none text until is h =
    let e : None ≡ until = cc h in
    subst (SpellsUntil text) e (record { range = tt; is = is })

pub until_of_text-found : (text : List ℕ) (until : Option Tai64n) → until_of_text text ≡ Some until
    → SpellsUntil text until
until_of_text-found text until h =
    choose text (codes "-") _ _ until (until_none text until)
    (until_label text (label_of_text text) until (label_of_text-found text)) h

pub until_of_text-only : (until : Option Tai64n) → IfSome until IsLabel → until_of_text (until_text until) ≡ Some until
until_of_text-only None range = refl
until_of_text-only (Some label) range =
    let read = label_of_text-only (label_text label) label (record { range = range; is = refl }) in
    ap (λ (o : Option Tai64n). option_map (λ label. Some label) o) read

-- More than six fields

many : (a b c d e f : List ℕ) (parts : List (List ℕ)) → (parts ≡ [] → ⊥) → base_result (a ∷ b ∷ c ∷ d ∷ e ∷ f ∷ parts)
    ≡ Err kind.Line
many a b c d e f [] h = absurd (h refl)
many a b c d e f (part ∷ parts) h = refl

pub base_result_many : (a b c d e f rest : List ℕ) → base_result (a ∷ b ∷ c ∷ d ∷ e ∷ f ∷ fields rest) ≡ Err kind.Line
base_result_many a b c d e f rest = many a b c d e f (fields rest) (split_some_part (λ byte. byte == 32) rest)
