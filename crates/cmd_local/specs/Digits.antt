-- Decimal digits of a fixed width.
use Rattle.std.specs.Prelude.{ℕ, ◌+◌, ◌/◌, ◌%◌, ◌^◌, nat_lt, if◌then◌else◌, List, [], ◌∷◌, map}

-- the digit of a number at the place of a unit, such as 1000 for thousands
abbrev pub digit : (unit number : ℕ) → ℕ
digit unit number = 48 + number / unit % 10

-- the digits of a number at the places of these units
abbrev pub digits : (units : List ℕ) (number : ℕ) → List ℕ
digits units number = map (λ unit. digit unit number) units

abbrev pub two_digits : ℕ → List ℕ
two_digits = digits (10 ∷ 1 ∷ [])

abbrev pub four_digits : ℕ → List ℕ
four_digits = digits (1_000 ∷ 100 ∷ 10 ∷ 1 ∷ [])

abbrev pub nine_digits : ℕ → List ℕ
nine_digits = digits (100_000_000 ∷ 10_000_000 ∷ 1_000_000 ∷ 100_000 ∷ 10_000 ∷ 1_000 ∷ 100 ∷ 10 ∷ 1 ∷ [])

-- a point and nanoseconds in nine digits, or in ten if nine are too few
abbrev pub fraction : ℕ → List ℕ
fraction nano =
    46 ∷ (if nat_lt nano (10 ^ 9) then nine_digits nano else digit 1_000_000_000 nano ∷ nine_digits nano)
