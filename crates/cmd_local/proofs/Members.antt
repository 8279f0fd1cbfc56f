-- The members of a list, and what is found among them.
use Rattle.std.proofs.Common.{◌≡◌, ℕ, zero, suc, ◌+◌, ◌<◌, ◌≤◌, ◌⊎◌, inl, inr, Bool, true, false, List, [], ◌∷◌, ◌++◌}
use Rattle.std.proofs.Common.{Some, None, refl, ap, arith}
use Rattle.std.specs.Prelude.{map, flat_map}
use Rattle.std.proofs.lemmas.Bool.{cases_order}
use Rattle.std.specs.List.{find, range_with_len}

abbrev pub In : {X : Type 0} → X → List X → Type 0
In x [] = ⊥
In x (y ∷ ys) = (x ≡ y) ⊎ In x ys

found_by : {X : Type 0} (test : X → Bool) (x y : X) (ys : List X) (passes : Bool) → test y ≡ passes
    → (test y ≡ true → y ≡ x)
    → find test ys ≡ Some x → find test (y ∷ ys) ≡ Some x
found_by test x y ys true e same rest = rw e (ap Some (same e))
found_by test x y ys false e same rest = rw e rest

first_by : {X : Type 0} (test : X → Bool) (x y : X) (ys : List X) → test x ≡ true → x ≡ y → find test (y ∷ ys) ≡ Some x
first_by test x y ys passes same = rw (← same, passes) refl

-- The one member that passes is found.
pub find-the : {X : Type 0} (test : X → Bool) (x : X) (xs : List X) → test x ≡ true
    → ((y : X) → In y xs → test y ≡ true → y ≡ x) → In x xs → find test xs ≡ Some x
find-the test x [] passes only is = absurd is
find-the test x (y ∷ ys) passes only (inl same) = first_by test x y ys passes same
find-the test x (y ∷ ys) passes only (inr later) =
    found_by test x y ys (test y) refl (only y (inl refl)) (find-the test x ys passes (λ z is. only z (inr is)) later)

-- If no member passes, none is found.
pub find-none : {X : Type 0} (test : X → Bool) (xs : List X) → ((y : X) → In y xs → test y ≡ false)
    → find test xs ≡ None
find-none test [] fails = refl
find-none test (y ∷ ys) fails =
    let here : test y ≡ false = fails y (inl refl) in rw here (find-none test ys (λ z is. fails z (inr is)))

pub In-first : {X : Type 0} (x : X) (xs ys : List X) → In x xs → In x (xs ++ ys)
In-first x [] ys is = absurd is
In-first x (y ∷ xs) ys (inl same) = inl same
In-first x (y ∷ xs) ys (inr later) = inr (In-first x xs ys later)

pub In-second : {X : Type 0} (x : X) (xs ys : List X) → In x ys → In x (xs ++ ys)
In-second x [] ys is = is
In-second x (y ∷ xs) ys is = inr (In-second x xs ys is)

pub In-either : {X : Type 0} (x : X) (xs ys : List X) → In x (xs ++ ys) → In x xs ⊎ In x ys
In-either x [] ys is = inr is
In-either x (y ∷ xs) ys (inl same) = inl (inl same)
In-either x (y ∷ xs) ys (inr later) =
    elim (In-either x xs ys later) [
      | inl is ↦ inl (inr is)
      | inr is ↦ inr is
    ]

pub In-map : {X Y : Type 0} (f : X → Y) (x : X) (xs : List X) → In x xs → In (f x) (map f xs)
In-map f x [] is = absurd is
In-map f x (y ∷ ys) (inl same) = inl (ap f same)
In-map f x (y ∷ ys) (inr later) = inr (In-map f x ys later)

pub In-from_map : {X Y : Type 0} (f : X → Y) (y : Y) (xs : List X) → In y (map f xs) → (x : X) × In x xs × (y ≡ f x)
In-from_map f y [] is = absurd is
In-from_map f y (x ∷ xs) (inl same) = (x, inl refl, same)
In-from_map f y (x ∷ xs) (inr later) = let rest = In-from_map f y xs later in (rest.0, inr rest.1, rest.2)

pub In-flat_map : {X Y : Type 0} (f : X → List Y) (x : X) (y : Y) (xs : List X) → In x xs → In y (f x)
    → In y (flat_map f xs)
In-flat_map f x y [] is of = absurd is
In-flat_map f x y (z ∷ zs) (inl same) of = In-first y (f z) (flat_map f zs) (rw (← same) of)
In-flat_map f x y (z ∷ zs) (inr later) of = In-second y (f z) (flat_map f zs) (In-flat_map f x y zs later of)

pub In-from_flat_map : {X Y : Type 0} (f : X → List Y) (y : Y) (xs : List X) → In y (flat_map f xs) → (x : X) × In x xs
    × In y (f x)
In-from_flat_map f y [] is = absurd is
In-from_flat_map f y (x ∷ xs) is =
    elim (In-either y (f x) (flat_map f xs) is) [
      | inl here ↦ (x, inl refl, here)
      | inr later ↦ let rest = In-from_flat_map f y xs later in (rest.0, inr rest.1, rest.2)
    ]

range_by : (x a n : ℕ) → a ≤ x → x < a + suc n → (x ≡ a) ⊎ ((a + 1 ≤ x) × (x < a + 1 + n))
range_by x a n low high =
    elim (cases_order x a) [
      | inl same ↦ inl same
      | inr (inl less) ↦ absurd (omega (arith, low, less))
      | inr (inr more) ↦ inr (omega (arith, more), omega (arith, high))
    ]

pub In-range : (x a n : ℕ) → a ≤ x → x < a + n → In x (range_with_len a n)
In-range x a zero low high = absurd (omega (arith, low, high))
In-range x a (suc n) low high =
    elim (range_by x a n low high) [
      | inl same ↦ inl same
      | inr later ↦ inr (In-range x (a + 1) n later.0 later.1)
    ]

pub In-from_range : (x a n : ℕ) → In x (range_with_len a n) → (a ≤ x) × (x < a + n)
In-from_range x a zero is = absurd is
In-from_range x a (suc n) (inl same) = (omega (arith, same), omega (arith, same))
In-from_range x a (suc n) (inr later) =
    let rest = In-from_range x (a + 1) n later in (omega (arith, rest.0), omega (arith, rest.1))
