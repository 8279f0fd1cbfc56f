-- Bytes, process numbers and labels, and their texts.
use Rattle.std.proofs.Common.{◌≡◌, ℕ, zero, suc, ◌^◌, ◌<◌, ◌==◌, ◌&&◌, nat_lt, nat_le, Bool, true, false, List, [], ◌∷◌}
use Rattle.std.proofs.Common.{length, Option, Some, None, Result, Ok, Err, refl, sym, ap, ◌⊎◌, inl, inr, ⊎_elim, ◌∙◌}
use Rattle.std.proofs.Common.{arith, decimal}
use Rattle.std.specs.Prelude.{IfSome, if◌then◌else◌, bytes_eq}
use Rattle.std.specs.Result.{result_ok}
use Rattle.std.specs.Str.Parse.{digits_value}
use Rattle.std.proofs.lemmas.Bool.{and_parts, eqb-true}
use Rattle.std.proofs.lemmas.Slice.Eq.{bytes_eq-Decides}
use Rattle.std.proofs.lemmas.Fmt.{decimal_is_IsNumeral}
use Rattle.hex.specs.Hex.{IsBytes, decode_sized, encode_with, encode_lower, lower_digits}
use Rattle.hex.proofs.HexLemmas.{decode_sized-encode_lower, length-encode_with}
use Rattle.tai_status.specs.declared.label.LabelFault.{LabelFault}
use Rattle.tai_status.specs.Label.{Tai64n, IsLabel, label_text}
use Rattle.tai_status.specs.Reading.{from_text}
use Rattle.tai_status.proofs.Spelled.{from_text-label_text, label_text-from_text}
use Rattle.sup_core.specs.Text.{byte_text}
use Rattle.sup_core.specs.Reading.{byte_meant, byte_of_text, pid_of_text, label_of_text}

abbrev pub all_below : (ℕ → Bool) → ℕ → Bool
all_below p zero = true
all_below p (suc n) = p n && all_below p n

below_or_at : (k n : ℕ) → k < suc n → (k < n) ⊎ (k ≡ n)
below_or_at k n h = grind (arith)

pub all_below-at : (p : ℕ → Bool) (n k : ℕ) → all_below p n ≡ true → k < n → p k ≡ true
all_below-at p zero k h below = absurd (omega arith)
all_below-at p (suc n) k h below =
    let parts = and_parts (p n) (all_below p n) h in
    ⊎_elim (λ (lt : k < n). all_below-at p n k parts.1 lt) (λ (e : k ≡ n). ap p e ∙ parts.0) (below_or_at k n below)

-- Bytes

abbrev is_meant : ℕ → Bool
is_meant byte = byte_meant (byte_text byte) == byte

meant_table : all_below is_meant 256 ≡ true
unfolding encode_with
meant_table = refl

-- the text of a byte means that byte
pub byte_meant-byte_text : (byte : ℕ) → byte < 2 ^ 8 → byte_meant (byte_text byte) ≡ byte
byte_meant-byte_text byte below = eqb-true _ _ (all_below-at is_meant 256 byte meant_table below)

-- the digits of a byte are read as that byte
pub digits_read : (digits : List ℕ) (byte : ℕ) → byte < 2 ^ 8 → digits ≡ encode_lower (byte ∷ [])
    → decode_sized digits 1 ≡ Ok (byte ∷ [])
digits_read digits byte below is =
    let fits : IsBytes (byte ∷ []) = λ i. one byte below i in
    ap (λ ds. decode_sized ds 1) is ∙ decode_sized-encode_lower (byte ∷ []) 1 refl fits
  where
    one : (byte : ℕ) → byte < 2 ^ 8 → IsBytes (byte ∷ [])
    one byte below zero = below
    one byte below (suc i) = omega arith

text_cases : (byte : ℕ) → (byte_text byte ≡ byte ∷ []) ⊎ (byte_text byte ≡ encode_lower (byte ∷ []))
text_cases byte =
    elim (nat_le 0x21 byte && nat_le byte 0x7e) as (λ b.
    ((if b then byte ∷ [] else encode_lower (byte ∷ [])) ≡ byte ∷ [])
    ⊎ ((if b then byte ∷ [] else encode_lower (byte ∷ [])) ≡ encode_lower (byte ∷ []))) [
      | true ↦ inl refl
      | false ↦ inr refl
    ]

two_digits : (byte : ℕ) → length (encode_lower (byte ∷ [])) ≡ 2
two_digits byte = length-encode_with lower_digits (byte ∷ [])

-- a text of one byte is that byte
pub text_of_one : (text : List ℕ) (byte : ℕ) → length text ≡ 1 → text ≡ byte_text byte → text ≡ byte ∷ []
text_of_one text byte len is =
    ⊎_elim (λ (e : byte_text byte ≡ byte ∷ []). is ∙ e)
    (λ (e : byte_text byte ≡ encode_lower (byte ∷ [])).
    absurd (omega (arith, len, ap length (is ∙ e), two_digits byte)))
    (text_cases byte)

-- any other text of a byte has two digits
pub text_of_two : (text : List ℕ) (byte : ℕ) → (length text ≡ 1 → ⊥) → text ≡ byte_text byte
    → text ≡ encode_lower (byte ∷ [])
text_of_two text byte len is =
    ⊎_elim (λ (e : byte_text byte ≡ byte ∷ []). absurd (len (ap length (is ∙ e))))
    (λ (e : byte_text byte ≡ encode_lower (byte ∷ [])). is ∙ e)
    (text_cases byte)

-- Results that are tested

tested : {A : Type 0} (R : A → Type 0) (test : Bool) (x : A) → (test ≡ true → R x)
    → IfSome (if test then Some x else None) R
tested R test x h =
    elim test as (λ t. test ≡ t → IfSome (if t then Some x else None) R) [ true ↦ λ is. h is | false ↦ λ is. tt ] refl

-- two results that spell the same are equal
pub same_spelt : {A : Type 0} (R : A → Type 0) (a b : Option A) → IfSome a R → IfSome b R
    → ((x : A) → R x → a ≡ Some x) → ((x : A) → R x → b ≡ Some x) → a ≡ b
same_spelt R (Some x) b ra rb oa ob = sym (ob x ra)
same_spelt R None (Some y) ra rb oa ob = oa y rb
same_spelt R None None ra rb oa ob = refl

-- there is no result if none would be right
pub none_spelt : {A : Type 0} (R : A → Type 0) (b : Option A) → IfSome b R → ((x : A) → R x → ⊥) → None ≡ b
none_spelt R None rb never = refl
none_spelt R (Some x) rb never = absurd (never x rb)

lt-from_test : (m n : ℕ) → nat_lt m n ≡ true → m < n
lt-from_test m n h = grind (arith)

lt-test : (m n : ℕ) → m < n → nat_lt m n ≡ true
lt-test m n h = grind (arith)

pub record SpellsByte (text : List ℕ) (byte : ℕ) : Type 0 where
  pub below : byte < 2 ^ 8
  pub is : text ≡ byte_text byte

byte_tested : (text : List ℕ) (byte : ℕ) → (nat_lt byte (2 ^ 8) && bytes_eq (byte_text byte) text) ≡ true
    → SpellsByte text byte
byte_tested text byte h =
    let parts = and_parts (nat_lt byte (2 ^ 8)) (bytes_eq (byte_text byte) text) h in
    record { below = lt-from_test _ _ parts.0; is = sym ((bytes_eq-Decides (byte_text byte) text).0 parts.1) }

pub byte_of_text-found : (text : List ℕ) → IfSome (byte_of_text text) (SpellsByte text)
unfolding byte_of_text
byte_of_text-found text = tested (SpellsByte text) _ (byte_meant text) (byte_tested text (byte_meant text))

pub byte_of_text-only : (text : List ℕ) (byte : ℕ) → SpellsByte text byte → byte_of_text text ≡ Some byte
unfolding byte_of_text
byte_of_text-only text byte h =
    let meant : byte_meant text ≡ byte = ap byte_meant h.is ∙ byte_meant-byte_text byte h.below in
    let same = (bytes_eq-Decides (byte_text byte) text).1 (sym h.is) in
    rw (meant, lt-test byte (2 ^ 8) h.below, same) refl

-- Process numbers

pub record SpellsPid (text : List ℕ) (pid : ℕ) : Type 0 where
  pub some : 0 < pid
  pub below : pid < 2 ^ 32
  pub is : text ≡ decimal pid

pid_tested : (text : List ℕ) (pid : ℕ) → (nat_lt 0 pid && nat_lt pid (2 ^ 32) && bytes_eq (decimal pid) text) ≡ true
    → SpellsPid text pid
pid_tested text pid h =
    let parts = and_parts (nat_lt 0 pid && nat_lt pid (2 ^ 32)) (bytes_eq (decimal pid) text) h in
    let range = and_parts (nat_lt 0 pid) (nat_lt pid (2 ^ 32)) parts.0 in
    record {
      some = lt-from_test _ _ range.0;
      below = lt-from_test _ _ range.1;
      is = sym ((bytes_eq-Decides (decimal pid) text).0 parts.1);
    }

pub pid_of_text-found : (text : List ℕ) → IfSome (pid_of_text text) (SpellsPid text)
unfolding pid_of_text
pid_of_text-found text = tested (SpellsPid text) _ (digits_value 10 text) (pid_tested text (digits_value 10 text))

pub pid_of_text-only : (text : List ℕ) (pid : ℕ) → SpellsPid text pid → pid_of_text text ≡ Some pid
unfolding pid_of_text
pid_of_text-only text pid h =
    let below = h.below in
    let value : digits_value 10 text ≡ pid = ap (digits_value 10) h.is
    ∙ (decimal_is_IsNumeral pid (omega (arith, below))).1 in
    let same = (bytes_eq-Decides (decimal pid) text).1 (sym h.is) in
    rw (value, lt-test 0 pid h.some, lt-test pid (2 ^ 32) h.below, same) refl

-- Labels

pub record SpellsLabel (text : List ℕ) (label : Tai64n) : Type 0 where
  pub range : IsLabel label
  pub is : text ≡ label_text label

label_ok : (text : List ℕ) (r : Result Tai64n LabelFault) → from_text text ≡ r → IfSome (result_ok r) (SpellsLabel text)
label_ok text (Ok label) h = let read = label_text-from_text text label h in record { range = read.0; is = read.1 }
label_ok text (Err e) h = tt

pub label_of_text-found : (text : List ℕ) → IfSome (label_of_text text) (SpellsLabel text)
unfolding label_of_text
label_of_text-found text = label_ok text (from_text text) refl

pub label_of_text-only : (text : List ℕ) (label : Tai64n) → SpellsLabel text label → label_of_text text ≡ Some label
unfolding label_of_text
label_of_text-only text label h = ap result_ok (ap from_text h.is ∙ from_text-label_text label h.range)
