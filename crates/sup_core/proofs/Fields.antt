-- A line and its fields.
use Rattle.std.proofs.Common.{◌≡◌, ℕ, suc, ◌+◌, ◌-◌, ◌<◌, ◌≤◌, Bool, true, false, List, [], ◌∷◌, length, take, drop}
use Rattle.std.proofs.Common.{Some, None, refl, arith, length-drop, subst}
use Rattle.std.specs.Prelude.{position, ◌==◌}
use Rattle.std.specs.List.{slice_split, onto_first, position_or_len}
use Rattle.std.proofs.lemmas.List.Splits.{slice_split_first}
use Rattle.std.proofs.Math.Seq.{take-length}
use Rattle.sup_core.specs.Reading.{fields}
use Rattle.sup_core.specs.Fields.{sole}

no_separator_front : {X : Type 0} (p : X → Bool) (x : X) (xs : List X) (b : Bool) → p x ≡ b
    → (length xs ≤ position_or_len p xs → slice_split p xs ≡ xs ∷ [])
    → length (x ∷ xs) ≤ position_or_len p (x ∷ xs) → slice_split p (x ∷ xs) ≡ (x ∷ xs) ∷ []
no_separator_front p x xs true e ih h = absurd (omega (arith, rw e at h))
no_separator_front p x xs false e ih h =
    let fits : suc (length xs) ≤ 1 + position_or_len p xs = rw e at h in
    let rest = ih (omega arith) in
    rw (e, rest) refl

no_separator : {X : Type 0} (p : X → Bool) (xs : List X) → length xs ≤ position_or_len p xs → slice_split p xs ≡ xs ∷ []
no_separator p [] h = refl
no_separator p (x ∷ xs) h = no_separator_front p x xs (p x) refl (no_separator p xs) h

-- a list without a separator is its own one part
pub split_none : {X : Type 0} (p : X → Bool) (xs : List X) → position p xs ≡ None → slice_split p xs ≡ xs ∷ []
split_none p xs h = no_separator p xs (grind (arith))

found_at : {X : Type 0} (p : X → Bool) (xs : List X) (k : ℕ) → position p xs ≡ Some k
    → (position_or_len p xs < length xs) × (position_or_len p xs ≡ k)
found_at p xs k h = grind (arith)

-- the first part ends at the first separator
pub split_some : {X : Type 0} (p : X → Bool) (d : X) (xs : List X) (k : ℕ) → position p xs ≡ Some k
    → slice_split p xs ≡ take k xs ∷ slice_split p (take (length xs - (k + 1)) (drop (k + 1) xs))
split_some {X} p d xs k h =
    let at = found_at p xs k h in
    let rest : take (length xs - (k + 1)) (drop (k + 1) xs) ≡ drop (k + 1) xs =
    rw (← length-drop (k + 1) xs) (take-length (drop (k + 1) xs)) in
    rw rest (subst (λ n. slice_split p xs ≡ take n xs ∷ slice_split p (drop (n + 1) xs)) at.1
    (slice_split_first p xs d at.0))

onto_some : {X : Type 0} (x : X) (parts : List (List X)) → onto_first x parts ≡ [] → ⊥
onto_some x [] h = cc h
onto_some x (part ∷ parts) h = cc h

split_front : {X : Type 0} (p : X → Bool) (x : X) (xs : List X) (b : Bool) → p x ≡ b
    → (slice_split p xs ≡ [] → ⊥) → slice_split p (x ∷ xs) ≡ [] → ⊥
split_front p x xs true e ih h = cc (rw e at h)
split_front p x xs false e ih h = onto_some x (slice_split p xs) (rw e at h)

-- a list has at least one part
pub split_some_part : {X : Type 0} (p : X → Bool) (xs : List X) → slice_split p xs ≡ [] → ⊥
split_some_part p [] h = cc h
split_some_part p (x ∷ xs) h = split_front p x xs (p x) refl (split_some_part p xs) h

many : (field : List ℕ) (parts : List (List ℕ)) → (parts ≡ [] → ⊥) → sole (field ∷ parts) ≡ None
many field [] h = absurd (h refl)
many field (part ∷ parts) h = refl

-- a line with two fields or more has no sole field
pub sole_many : (field rest : List ℕ) → sole (field ∷ fields rest) ≡ None
sole_many field rest = many field (fields rest) (split_some_part (λ byte. byte == 32) rest)
