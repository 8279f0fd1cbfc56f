-- Labels that rise.
use Rattle.std.specs.Prelude.{◌≡◌, ◌⊎◌, ⊤, true, if◌then◌else◌, List, [], ◌∷◌}
use Rattle.tai_status.specs.Label.{Tai64n, IsLabel, greatest, is_earlier, plus_nano}

-- the later of two labels
abbrev pub later : Tai64n → Tai64n → Tai64n
later a b = if is_earlier a b then b else a

-- What labels are asked for: one more, or to continue from a reading of the clock.
pub data Ask : Type 0 where
  Give : Ask
  Renew : Tai64n → Ask

-- the labels that are given, beginning with one: each is one nanosecond past the one before, or the reading that came
-- in between, if that is later
abbrev pub given : Tai64n → List Ask → List Tai64n
given next [] = []
given next (Give ∷ asks) = next ∷ given (plus_nano next) asks
given next (Renew reading ∷ asks) = given (later next reading) asks

-- Each reading is a label.
abbrev pub AreReadings : List Ask → Type 0
AreReadings [] = ⊤
AreReadings (Give ∷ asks) = AreReadings asks
AreReadings (Renew reading ∷ asks) = IsLabel reading × AreReadings asks

-- Each label is earlier than the next one, up to the greatest label of all.
abbrev pub Rise : List Tai64n → Type 0
Rise [] = ⊤
Rise (a ∷ []) = ⊤
Rise (a ∷ b ∷ labels) = ((is_earlier a b ≡ true) ⊎ (b ≡ greatest)) × Rise (b ∷ labels)

-- The labels of lines rise, whatever the clock returned.
abbrev pub LabelsRise : Type 0
LabelsRise = (next : Tai64n) (asks : List Ask) → IsLabel next → AreReadings asks → Rise (given next asks)
