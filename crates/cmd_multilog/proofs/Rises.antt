-- Labels that rise.
use Rattle.std.proofs.Common.{◌≡◌, ◌⊎◌, ◌+◌, ◌^◌, ◌<◌, ◌==◌, nat_lt, ◌&&◌, if◌then◌else◌, true}
use Rattle.std.proofs.Common.{false, List, [], ◌∷◌, refl, subst, inl, inr, arith}
use Rattle.std.proofs.lemmas.Bool.{or_cases, and_parts, or_left, or_right, and_from, eqb-true, eq-eqb}
use Rattle.std.proofs.lemmas.Bool.Decides.{nat_tests}
use Rattle.tai_status.specs.Label.{Tai64n, IsLabel, greatest, is_earlier, plus_nano}
use Rattle.cmd_multilog.specs.Rising.{later, Ask, Give, Renew, given, AreReadings, Rise}

-- One label is earlier than another in its second, or in its nanosecond.
abbrev Precedes : Tai64n → Tai64n → Type 0
Precedes a b = (a.sec < b.sec) ⊎ ((a.sec ≡ b.sec) × (a.nano < b.nano))

precedes : (a b : Tai64n) → is_earlier a b ≡ true → Precedes a b
precedes a b e =
    elim (or_cases (nat_lt a.sec b.sec) (a.sec == b.sec && nat_lt a.nano b.nano) e) as (λ _. Precedes a b) [
      | inl l ↦ inl (grind (arith, nat_tests, l))
      | inr r ↦
          let both = and_parts (a.sec == b.sec) (nat_lt a.nano b.nano) r in
          let nano = both.1 in
          inr (eqb-true a.sec b.sec both.0, grind (arith, nat_tests, nano))
    ]

earlier : (a b : Tai64n) → Precedes a b → is_earlier a b ≡ true
earlier a b (inl l) =
    or_left (nat_lt a.sec b.sec) (a.sec == b.sec && nat_lt a.nano b.nano) (grind (arith, nat_tests, l))
earlier a b (inr both) =
    let less = both.1 in
    or_right (nat_lt a.sec b.sec) (a.sec == b.sec && nat_lt a.nano b.nano)
    (and_from (a.sec == b.sec) (nat_lt a.nano b.nano) (eq-eqb a.sec b.sec both.0) (grind (arith, nat_tests, less)))

precedes_then : (a b c : Tai64n) → Precedes a b → Precedes b c → Precedes a c
precedes_then a b c (inl x) (inl y) = inl (omega (arith, x, y))
precedes_then a b c (inl x) (inr y) = let same = y.0 in inl (omega (arith, x, same))
precedes_then a b c (inr x) (inl y) = let same = x.0 in inl (omega (arith, y, same))
precedes_then a b c (inr x) (inr y) =
    (let s = x.0 in let t = y.0 in let m = x.1 in let n = y.1 in inr (omega (arith, s, t), omega (arith, m, n)))

-- No label is later than the greatest.
none_past : (r : Tai64n) → IsLabel r → Precedes greatest r → ⊥
none_past r label (inl x) = (let s = label.sec in omega (arith, s, x))
none_past r label (inr x) = (let n = label.nano in let m = x.1 in omega (arith, n, m))

-- One label is earlier than another, or the other is the greatest.
abbrev IsBelow : Tai64n → Tai64n → Type 0
IsBelow a b = (is_earlier a b ≡ true) ⊎ (b ≡ greatest)

below_reading : (a next r : Tai64n) → IsLabel r → is_earlier next r ≡ true → IsBelow a next → IsBelow a r
below_reading a next r label past (inl e) =
    inl (earlier a r (precedes_then a next r (precedes a next e) (precedes next r past)))
below_reading a next r label past (inr is) =
    absurd (none_past r label (precedes greatest r (subst (λ (x : Tai64n). is_earlier x r ≡ true) is past)))

below_later : (a next r : Tai64n) → IsLabel r → IsBelow a next → IsBelow a (later next r)
below_later a next r label below =
    elim (is_earlier next r) as (λ b. is_earlier next r ≡ b → IsBelow a (if b then r else next)) [
      | true ↦ λ past. below_reading a next r label past below
      | false ↦ λ other. below
    ] refl

label_later : (next r : Tai64n) → IsLabel next → IsLabel r → IsLabel (later next r)
label_later next r here there =
    elim (is_earlier next r) as (λ b. IsLabel (if b then r else next)) [ true ↦ there | false ↦ here ]

-- A nanosecond past a label.
abbrev Nano : Tai64n → Tai64n → Type 0
Nano a b = IsBelow a b × IsLabel b

past_nano : (a : Tai64n) → IsLabel a → Nano a (plus_nano a)
past_nano a label =
    let s = label.sec in
    let n = label.nano in
    elim (nat_lt (a.nano + 1) (10 ^ 9)) as (λ b. nat_lt (a.nano + 1) (10 ^ 9) ≡ b
    → Nano a (if b then record { sec = a.sec; nano = a.nano + 1 }
    else if nat_lt (a.sec + 1) (2 ^ 63) then record { sec = a.sec + 1; nano = 0 } else greatest)) [
      | true ↦ λ few. (
        inl (earlier a (record { sec = a.sec; nano = a.nano + 1 }) (inr (refl, omega arith))),
        record { sec = s; nano = grind (arith, nat_tests, few) },
      )
      | false ↦ λ full.
          elim (nat_lt (a.sec + 1) (2 ^ 63)) as (λ b. nat_lt (a.sec + 1) (2 ^ 63) ≡ b
          → Nano a (if b then record { sec = a.sec + 1; nano = 0 } else greatest)) [
            | true ↦ λ few. (
              inl (earlier a (record { sec = a.sec + 1; nano = 0 }) (inl (omega arith))),
              record { sec = grind (arith, nat_tests, few); nano = omega arith },
            )
            | false ↦ λ spent. (inr refl, record { sec = omega arith; nano = omega arith })
          ] refl
    ] refl

-- One label is below the first of some others.
abbrev IsBelowFirst : Tai64n → List Tai64n → Type 0
IsBelowFirst a [] = Unit {0}
IsBelowFirst a (b ∷ labels) = IsBelow a b

below_first : (a next : Tai64n) (asks : List Ask) → IsBelow a next → AreReadings asks → IsBelowFirst a (given next asks)
below_first a next [] below are = tt
below_first a next (Give ∷ asks) below are = below
below_first a next (Renew r ∷ asks) below are =
    below_first a (later next r) asks (below_later a next r are.0 below) are.1

rise_more : (a : Tai64n) (labels : List Tai64n) → IsBelowFirst a labels → Rise labels → Rise (a ∷ labels)
rise_more a [] below rise = tt
rise_more a (b ∷ labels) below rise = (below, rise)

pub labels_rise : (next : Tai64n) (asks : List Ask) → IsLabel next → AreReadings asks → Rise (given next asks)
labels_rise next [] label are = tt
labels_rise next (Give ∷ asks) label are =
    let nano = past_nano next label in
    rise_more next (given (plus_nano next) asks) (below_first next (plus_nano next) asks nano.0 are)
    (labels_rise (plus_nano next) asks nano.1 are)
labels_rise next (Renew r ∷ asks) label are = labels_rise (later next r) asks (label_later next r label are.0) are.1
