-- The label that a line begins with.
use Rattle.std.proofs.Common.{◌≡◌, ℕ, zero, suc, ◌-◌, ◌<◌, ◌≤◌, ◌==◌, inl, inr, Bool, true, false, List, [], ◌∷◌, ◌++◌}
use Rattle.std.proofs.Common.{length, take, drop, Option, Some, None, refl, sym, ap, ◌∙◌, arith, ℤ, append_assoc}
use Rattle.std.specs.Prelude.{◌^◌}
use Rattle.std.proofs.lemmas.Bool.{cases_lt, false≢true}
use Rattle.std.proofs.lemmas.List.{take-append-le, take_rest}
use Rattle.hex.specs.Hex.{decode_sized}
use Rattle.tai_status.specs.Label.{Tai64n}
use Rattle.tai_status.specs.Reading.{is_lower_digit}
use Rattle.cmd_local.specs.Lines.{leading_digits, has_label, label_of, unpacked, with_label, with_time, localised_line}
use Rattle.cmd_local.specs.Passing.{is_open}
use Rattle.cmd_local.specs.Digits.{digit, fraction, nine_digits}
use Rattle.cmd_local.specs.Local.{local_text}

digits_on : (x : ℕ) (xs : List ℕ) → is_lower_digit x ≡ true → leading_digits (x ∷ xs) ≡ suc (leading_digits xs)
digits_on x xs is = rw is refl

digits_end : (x : ℕ) (xs : List ℕ) → is_lower_digit x ≡ false → leading_digits (x ∷ xs) ≡ 0
digits_end x xs is = rw is refl

within_by : (x : ℕ) (xs : List ℕ) (is : Bool) → is_lower_digit x ≡ is → leading_digits xs ≤ length xs
    → leading_digits (x ∷ xs) ≤ length (x ∷ xs)
within_by x xs true e rest = omega (arith, digits_on x xs e, rest)
within_by x xs false e rest = omega (arith, digits_end x xs e)

pub digits_within : (xs : List ℕ) → leading_digits xs ≤ length xs
digits_within [] = omega arith
digits_within (x ∷ xs) = within_by x xs (is_lower_digit x) refl (digits_within xs)

-- More bytes count only if all bytes before them are digits.
all_by : (x : ℕ) (xs more : List ℕ) (is : Bool) → is_lower_digit x ≡ is → leading_digits (x ∷ xs) ≡ length (x ∷ xs)
    → (leading_digits xs ≡ length xs → length xs ≤ leading_digits (xs ++ more))
    → length (x ∷ xs) ≤ leading_digits (x ∷ xs ++ more)
all_by x xs more true e all rest =
    let on = digits_on x xs e in
    let later = rest (omega (arith, on, all)) in
    omega (arith, digits_on x (xs ++ more) e, later)
all_by x xs more false e all rest = absurd (omega (arith, digits_end x xs e, all))

pub digits_all : (xs more : List ℕ) → leading_digits xs ≡ length xs → length xs ≤ leading_digits (xs ++ more)
digits_all [] more all = omega arith
digits_all (x ∷ xs) more all = all_by x xs more (is_lower_digit x) refl all (digits_all xs more)

some_by : (x : ℕ) (xs more : List ℕ) (is : Bool) → is_lower_digit x ≡ is → leading_digits (x ∷ xs) < length (x ∷ xs)
    → (leading_digits xs < length xs → leading_digits (xs ++ more) ≡ leading_digits xs)
    → leading_digits (x ∷ xs ++ more) ≡ leading_digits (x ∷ xs)
some_by x xs more true e some rest =
    let on = digits_on x xs e in
    digits_on x (xs ++ more) e ∙ ap suc (rest (omega (arith, on, some))) ∙ sym on
some_by x xs more false e some rest = digits_end x (xs ++ more) e ∙ sym (digits_end x xs e)

pub digits_some : (xs more : List ℕ) → leading_digits xs < length xs → leading_digits (xs ++ more) ≡ leading_digits xs
digits_some [] more some = absurd (omega (arith, some))
digits_some (x ∷ xs) more some = some_by x xs more (is_lower_digit x) refl some (digits_some xs more)

-- Whether bytes after a front change its label.

drop-more : (n : ℕ) (xs more : List ℕ) → n ≤ length xs → drop n (xs ++ more) ≡ drop n xs ++ more
drop-more zero xs more within = refl
drop-more (suc n) [] more within = absurd (omega (arith, within))
drop-more (suc n) (x ∷ xs) more within = drop-more n xs more (omega (arith, within))

pub label-none : (line : List ℕ) → has_label line ≡ false → label_of line ≡ None
unfolding label_of
label-none line no_label = rw no_label refl

pub label-some : (line : List ℕ) → has_label line ≡ true
    → label_of line ≡ unpacked (decode_sized (take 24 (drop 1 line)) 12)
unfolding label_of
label-some line is = rw is refl

pub labelled_parts : (x : ℕ) (xs : List ℕ) → has_label (x ∷ xs) ≡ true → (x ≡ 64) × (leading_digits xs ≡ 24)
labelled_parts x xs is = grind (arith, is)

pub labelled_long : (line : List ℕ) → has_label line ≡ true → 25 ≤ length line
labelled_long [] is = grind (arith, is)
labelled_long (x ∷ xs) is = let parts = labelled_parts x xs is in let most = digits_within xs in
    omega (arith, parts.1, most)

-- What stays of a label.
record Stays (line more : List ℕ) : Type 0 where
  label : label_of (line ++ more) ≡ label_of line
  rest : has_label line ≡ true → drop 25 (line ++ more) ≡ drop 25 line ++ more

apart : (x : ℕ) (xs more : List ℕ) → (x == 64) ≡ false → Stays (x ∷ xs) more
apart x xs more other =
    let one : has_label (x ∷ xs ++ more) ≡ false = rw other refl in
    let two : has_label (x ∷ xs) ≡ false = rw other refl in
    record {
      label = label-none (x ∷ xs ++ more) one ∙ sym (label-none (x ∷ xs) two);
      rest = λ is. absurd (false≢true (sym two ∙ is));
    }

settled_by : (x : ℕ) (xs more : List ℕ) (is : Bool) → leading_digits xs < length xs → has_label (x ∷ xs) ≡ is
    → Stays (x ∷ xs) more
settled_by x xs more true some is =
    let parts = labelled_parts x xs is in
    let most = digits_within xs in
    let same : has_label (x ∷ xs ++ more) ≡ has_label (x ∷ xs) = rw (digits_some xs more some) refl in
    let front : take 24 (xs ++ more) ≡ take 24 xs = take-append-le 24 xs more (omega (arith, parts.1, most)) in
    record {
      label = label-some (x ∷ xs ++ more) (same ∙ is) ∙ ap (λ (ys : List ℕ). unpacked (decode_sized ys 12)) front
          ∙ sym (label-some (x ∷ xs) is);
      rest = λ yes. drop-more 24 xs more (omega (arith, parts.1, most));
    }
settled_by x xs more false some is =
    let same : has_label (x ∷ xs ++ more) ≡ has_label (x ∷ xs) = rw (digits_some xs more some) refl in
    record {
      label = label-none (x ∷ xs ++ more) (same ∙ is) ∙ sym (label-none (x ∷ xs) is);
      rest = λ yes. absurd (false≢true (sym is ∙ yes));
    }

too_many : (xs : List ℕ) → 25 ≤ leading_digits xs → (leading_digits xs == 24) ≡ false
too_many xs more = grind (arith, more)

no_label_where : (x : ℕ) (xs : List ℕ) → (leading_digits xs == 24) ≡ false → has_label (x ∷ xs) ≡ false
no_label_where x xs other = grind (arith, other)

long : (x : ℕ) (xs more : List ℕ) → leading_digits xs ≡ length xs → 25 ≤ length xs → Stays (x ∷ xs) more
long x xs more all many =
    let whole = digits_all xs more all in
    let one = no_label_where x (xs ++ more) (too_many (xs ++ more) (omega (arith, whole, many))) in
    let two = no_label_where x xs (too_many xs (omega (arith, all, many))) in
    record {
      label = label-none (x ∷ xs ++ more) one ∙ sym (label-none (x ∷ xs) two);
      rest = λ is. absurd (false≢true (sym two ∙ is));
    }

open_where : (x : ℕ) (xs : List ℕ) → (x == 64) ≡ true → leading_digits xs ≡ length xs → length xs < 25
    → is_open (x ∷ xs) ≡ true
open_where x xs first all few = grind (arith, first, all, few)

stays_by : (x : ℕ) (xs more : List ℕ) (first : Bool) → (x == 64) ≡ first → is_open (x ∷ xs) ≡ false
    → Stays (x ∷ xs) more
stays_by x xs more false first shut = apart x xs more first
stays_by x xs more true first shut =
    elim (cases_lt (leading_digits xs) (length xs)) [
      | inl some ↦ settled_by x xs more (has_label (x ∷ xs)) some refl
      | inr none ↦
          let most = digits_within xs in
          let all : leading_digits xs ≡ length xs = omega (arith, none, most) in
          elim (cases_lt (length xs) 25) [
            | inl few ↦ absurd (false≢true (sym shut ∙ open_where x xs first all few))
            | inr many ↦ long x xs more all many
          ]
    ]

stays : (line more : List ℕ) → 0 < length line → is_open line ≡ false → Stays line more
stays [] more some shut = absurd (omega (arith, some))
stays (x ∷ xs) more some shut = stays_by x xs more (x == 64) refl shut

timed_more : (text : Option (List ℕ)) (nano : ℕ) (line more : List ℕ) → drop 25 (line ++ more) ≡ drop 25 line ++ more
    → with_time text nano (line ++ more) ≡ with_time text nano line ++ more
timed_more None nano line more rest = refl
timed_more (Some text) nano line more rest =
    ap (λ (t : List ℕ). (text ++ fraction nano) ++ t) rest
    ∙ sym (append_assoc (text ++ fraction nano) (drop 25 line) more)

labelled_more : (ahead : ℤ → ℤ) (label : Option Tai64n) (line more : List ℕ) → label_of line ≡ label
    → (has_label line ≡ true → drop 25 (line ++ more) ≡ drop 25 line ++ more)
    → with_label ahead label (line ++ more) ≡ with_label ahead label line ++ more
labelled_more ahead None line more is rest = refl
labelled_more ahead (Some label) line more is rest =
    elim (has_label line) as (λ b. has_label line ≡ b → with_time (local_text ahead label.sec) label.nano (line ++ more)
    ≡ with_time (local_text ahead label.sec) label.nano line ++ more) [
      | true ↦ λ yes. timed_more (local_text ahead label.sec) label.nano line more (rest yes)
      | false ↦ λ none. let no_label : None ≡ Some label = sym (label-none line none) ∙ is in cc no_label
    ] refl

-- What follows a front that can no longer become a label is unchanged.
pub localised_line-more : (ahead : ℤ → ℤ) (line more : List ℕ) → 0 < length line → is_open line ≡ false
    → localised_line ahead (line ++ more) ≡ localised_line ahead line ++ more
localised_line-more ahead line more some shut =
    let s = stays line more some shut in
    ap (λ (l : Option Tai64n). with_label ahead l (line ++ more)) s.label
    ∙ labelled_more ahead (label_of line) line more refl s.rest

-- A line with a label whose local time is known.
pub timed_line : (ahead : ℤ → ℤ) (line : List ℕ) (label stamp : Tai64n) (text : List ℕ) → label_of line ≡ Some label
    → stamp ≡ label
    → local_text ahead stamp.sec ≡ Some text → (text ++ fraction stamp.nano) ++ take (length line - 25) (drop 25 line)
    ≡ localised_line ahead line
timed_line ahead line label stamp text is same time =
    let here : label_of line ≡ Some stamp = is ∙ ap Some (sym same) in
    ap (λ (t : List ℕ). (text ++ fraction stamp.nano) ++ t) (take_rest line 25) ∙ rw (here, time) refl

pub fraction_long : (nano : ℕ) → 10 ^ 9 ≤ nano → fraction nano ≡ 46 ∷ digit 1_000_000_000 nano ∷ nine_digits nano
fraction_long nano long = grind (arith, long)

pub localised_line-nothing : (ahead : ℤ → ℤ) → localised_line ahead [] ≡ []
localised_line-nothing ahead = let none = label-none [] refl in rw none refl
