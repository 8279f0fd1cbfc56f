-- A part's text: what is written is read, and what is read is written so.
use Rattle.std.proofs.Common.{◌≡◌, ℕ, zero, suc, ◌^◌, ◌<◌, ◌==◌, ◌&&◌, ◌/◌, ◌%◌, nat_lt, Bool, true, false, not, List}
use Rattle.std.proofs.Common.{[], ◌∷◌, Option, Some, None, Ok, Err, refl, sym, ap, ◌∙◌, arith, decimal, codes, subst}
use Rattle.std.specs.Prelude.{IfSome, if◌then◌else◌, bytes_eq}
use Rattle.std.specs.List.{join_with_byte}
use Rattle.std.specs.Cmp.Derive.{both_true}
use Rattle.std.specs.Fmt.{digits, digits_onto, digit_glyph}
use Rattle.std.specs.Str.Parse.{digits_value}
use Rattle.std.proofs.lemmas.Bool.Decides.{nat_tests}
use Rattle.std.proofs.lemmas.Bool.{and_parts}
use Rattle.std.proofs.lemmas.Slice.Eq.{bytes_eq-Decides}
use Rattle.std.proofs.lemmas.Fmt.{decimal_is_IsNumeral}
use Rattle.std.proofs.lemmas.List.Splits.{join_with_byte-slice_split}
use Rattle.scan_table.specs.declared.part.Role.{Role}
use Rattle.scan_table.specs.declared.part.Role.TheVariants.{Main, Log}
use Rattle.scan_table.specs.declared.part.PartId.{PartId}
use Rattle.sup_core.proofs.Fields.{split_some_part}
use Rattle.sup_core.proofs.Spelling.{same_spelt}
use Rattle.sup_core.proofs.Lines.{avoids, split-first, split-last}
use Rattle.sup_core.specs.declared.reading.EventFault.TheVariants as fault
use Rattle.suite_lines.specs.Text.{role_name, part_fields, part_text, IsPart}
use Rattle.suite_lines.specs.Reading.{dotted, number_of_text, role_of_text, part_of, part_from}

-- Numbers

lt-from_test : (m n : ℕ) → nat_lt m n ≡ true → m < n
lt-from_test m n h = grind (arith)

lt-test : (m n : ℕ) → m < n → nat_lt m n ≡ true
lt-test m n h = grind (arith)

pub record SpellsNumber (text : List ℕ) (number : ℕ) : Type 0 where
  pub below : number < 2 ^ 64
  pub is : text ≡ decimal number

-- a result that is tested
tested : {A : Type 0} (R : A → Type 0) (test : Bool) (x : A) → (test ≡ true → R x)
    → IfSome (if test then Some x else None) R
tested R test x h =
    elim test as (λ t. test ≡ t → IfSome (if t then Some x else None) R) [ true ↦ λ is. h is | false ↦ λ is. tt ] refl

number_tested : (text : List ℕ) (number : ℕ) → (nat_lt number (2 ^ 64) && bytes_eq (decimal number) text) ≡ true
    → SpellsNumber text number
number_tested text number h =
    let parts = and_parts (nat_lt number (2 ^ 64)) (bytes_eq (decimal number) text) h in
    record { below = lt-from_test _ _ parts.0; is = sym ((bytes_eq-Decides (decimal number) text).0 parts.1) }

pub number_of_text-found : (text : List ℕ) → IfSome (number_of_text text) (SpellsNumber text)
unfolding number_of_text
number_of_text-found text =
    tested (SpellsNumber text) _ (digits_value 10 text) (number_tested text (digits_value 10 text))

pub number_of_text-only : (text : List ℕ) (number : ℕ) → SpellsNumber text number → number_of_text text ≡ Some number
unfolding number_of_text
number_of_text-only text number h =
    let value : digits_value 10 text ≡ number = ap (digits_value 10) h.is ∙ (decimal_is_IsNumeral number h.below).1 in
    let same = (bytes_eq-Decides (decimal number) text).1 (sym h.is) in
    rw (value, lt-test number (2 ^ 64) h.below, same) refl

-- A reader that reads the decimal text of each number, and nothing else, reads numbers.
pub number_of_text-exact : (text : List ℕ) (r : Option ℕ) → IfSome r (λ n. n < 2 ^ 64)
    → IfSome r (λ n. text ≡ decimal n)
    → ((n : ℕ) → n < 2 ^ 64 → text ≡ decimal n → r ≡ Some n) → r ≡ number_of_text text
number_of_text-exact text r range found only =
    same_spelt (SpellsNumber text) r (number_of_text text) (both r range found) (number_of_text-found text)
    (λ n h. only n h.below h.is) (λ n h. number_of_text-only text n h)
  where
    both : (r : Option ℕ) → IfSome r (λ n. n < 2 ^ 64) → IfSome r (λ n. text ≡ decimal n) → IfSome r (SpellsNumber text)
    both (Some n) range found = record { below = range; is = found }
    both None range found = tt

-- A number has no dot.

dotless_glyph : (n : ℕ) → not (digit_glyph false (n % 10) == 46) ≡ true
dotless_glyph n = grind (arith, nat_tests)

dotless_digits : (k n : ℕ) (acc : List ℕ) → avoids 46 acc ≡ true → avoids 46 (digits_onto k 10 false n acc) ≡ true
dotless_digits zero n acc h = h
dotless_digits (suc k) n acc h =
    let more = both_true (dotless_glyph n) h in
    let grown = digit_glyph false (n % 10) ∷ acc in
    elim (n / 10 == 0) as (λ b. avoids 46 (if b then grown else digits_onto k 10 false (n / 10) grown) ≡ true) [
      | true ↦ more
      | false ↦ dotless_digits k (n / 10) grown more
    ]

decimal-dotless : (n : ℕ) → avoids 46 (decimal n) ≡ true
unfolding digits
decimal-dotless n = dotless_digits 64 n [] refl

-- Roles

role_name-dotless : (role : Role) → avoids 46 (role_name role) ≡ true
role_name-dotless Main = refl
role_name-dotless Log = refl

role_read : (role : Role) → role_of_text (role_name role) ≡ Some role
role_read Main = refl
role_read Log = refl

role_found : (text : List ℕ) → IfSome (role_of_text text) (λ role. text ≡ role_name role)
role_found text =
    elim (bytes_eq text (codes "main")) as (λ t. bytes_eq text (codes "main") ≡ t
    → IfSome (if t then Some Main else if bytes_eq text (codes "log") then Some Log else None)
    (λ role. text ≡ role_name role)) [
      | true ↦ λ is. (bytes_eq-Decides text (codes "main")).0 is
      | false ↦ λ not_main.
          elim (bytes_eq text (codes "log")) as (λ t. bytes_eq text (codes "log") ≡ t
          → IfSome (if t then Some Log else None) (λ role. text ≡ role_name role)) [
            | true ↦ λ is. (bytes_eq-Decides text (codes "log")).0 is
            | false ↦ λ not_log. tt
          ] refl
    ] refl

-- Parts

-- the fields of a part's text
dotted-part_text : (part : PartId) → dotted (part_text part) ≡ part_fields part
dotted-part_text part =
    split-first 46 (decimal part.slot) (join_with_byte 46 (role_name part.role ∷ decimal part.life ∷ []))
    (decimal-dotless part.slot)
    ∙ ap (λ (fields : List (List ℕ)). decimal part.slot ∷ fields)
    (split-first 46 (role_name part.role) (decimal part.life) (role_name-dotless part.role)
    ∙ ap (λ (fields : List (List ℕ)). role_name part.role ∷ fields)
    (split-last 46 (decimal part.life) (decimal-dotless part.life)))

number_read : (number : ℕ) → number < 2 ^ 64 → number_of_text (decimal number) ≡ Some number
number_read number below = number_of_text-only (decimal number) number (record { below = below; is = refl })

part_read : (part : PartId) → IsPart part → part_from (part_fields part) ≡ Ok part
part_read part range =
    rw (number_read part.slot range.slot, role_read part.role, number_read part.life range.life) refl

-- The text of a part is read as that part.
pub part_from-part_text : (part : PartId) → IsPart part → part_from (dotted (part_text part)) ≡ Ok part
part_from-part_text part range = ap part_from (dotted-part_text part) ∙ part_read part range

pub record SpellsPart (fields : List (List ℕ)) (part : PartId) : Type 0 where
  pub range : IsPart part
  pub is : fields ≡ part_fields part

part_spelt : (a b c : List ℕ) (slot : Option ℕ) (role : Option Role) (life : Option ℕ) (part : PartId)
    → IfSome slot (SpellsNumber a)
    → IfSome role (λ role. b ≡ role_name role) → IfSome life (SpellsNumber c) → part_of slot role life ≡ Ok part
    → SpellsPart (a ∷ b ∷ c ∷ []) part
part_spelt a b c slot None life part s r l h = cc h
part_spelt a b c None (Some role) life part s r l h = cc h
part_spelt a b c (Some slot) (Some role) None part s r l h = cc h
part_spelt a b c (Some slot) (Some role) (Some life) part s r l h =
    let same : record { slot = slot; role = role; life = life } ≡ part = cc h in
    subst (SpellsPart (a ∷ b ∷ c ∷ [])) same
    (record { range = record { slot = s.below; life = l.below }; is = cc (s.is, r, l.is) })

fields_spelt : (fields : List (List ℕ)) (part : PartId) → part_from fields ≡ Ok part → SpellsPart fields part
fields_spelt [] part h = cc h
fields_spelt (a ∷ []) part h = cc h
fields_spelt (a ∷ b ∷ []) part h = cc h
fields_spelt (a ∷ b ∷ c ∷ []) part h =
    part_spelt a b c (number_of_text a) (role_of_text b) (number_of_text c) part (number_of_text-found a) (role_found b)
    (number_of_text-found c) h
fields_spelt (a ∷ b ∷ c ∷ d ∷ rest) part h = cc h

-- The part that a text is read as has that text.
pub part_text-part_from : (text : List ℕ) (part : PartId) → part_from (dotted text) ≡ Ok part
    → IsPart part × (text ≡ part_text part)
part_text-part_from text part h =
    let reported = fields_spelt (dotted text) part h in
    (reported.range, sym (join_with_byte-slice_split 46 text) ∙ ap (join_with_byte 46) reported.is)

-- More than three fields

many : (a b c : List ℕ) (fields : List (List ℕ)) → (fields ≡ [] → ⊥) → part_from (a ∷ b ∷ c ∷ fields) ≡ Err fault.Line
many a b c [] h = absurd (h refl)
many a b c (field ∷ fields) h = refl

pub part_from_many : (a b c rest : List ℕ) → part_from (a ∷ b ∷ c ∷ dotted rest) ≡ Err fault.Line
part_from_many a b c rest = many a b c (dotted rest) (split_some_part (λ byte. byte == 46) rest)
