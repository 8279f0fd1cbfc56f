-- Stamping byte by byte, as the bytes come. No public contract names these definitions.
--
-- `inside` says that the bytes continue a line that has begun.
use Rattle.std.specs.Prelude.{◌≡◌, ℕ, ◌+◌, ◌==◌, Bool, true, false, not, List, [], ◌∷◌, ◌++◌, length, Option}
use Rattle.tai_status.specs.Label.{Tai64n}
use Rattle.tai_status.specs.Counted.{AppendsFront, Gives}
use Rattle.tai_status.specs.Block.{Emits}
use Rattle.tai_status.specs.Lines.{StampState, stamp}
use Rattle.tai_status.specs.Extended.{Extended}

-- the number of lines that begin in these bytes
abbrev pub begun : Bool → List ℕ → ℕ
begun inside [] = 0
begun true (byte ∷ bytes) = begun (not (byte == 10)) bytes
begun false (byte ∷ bytes) = begun (not (byte == 10)) bytes + 1

-- whether the end of these bytes is inside a line
abbrev pub is_inside : Bool → List ℕ → Bool
is_inside inside [] = inside
is_inside inside (byte ∷ bytes) = is_inside (not (byte == 10)) bytes

abbrev pub stamped_on : Bool → List Tai64n → List ℕ → List ℕ
stamped_on inside labels [] = []
stamped_on true labels (byte ∷ bytes) = byte ∷ stamped_on (not (byte == 10)) labels bytes
stamped_on false [] (byte ∷ bytes) = []
stamped_on false (label ∷ labels) (byte ∷ bytes) =
    stamp label ++ byte ∷ stamped_on (not (byte == 10)) labels bytes

-- These bytes were stamped. The clock was read once for each line that begins in them.
pub record StampsPart (inside : Bool) (bytes : List ℕ) (past now : Option (List Tai64n))
    (held holds : Option (List ℕ)) (pending left : List ℕ) : Type 0 where
  pub labels : List Tai64n
  pub gave : Extended past now labels
  pub each : length labels ≡ begun inside bytes
  pub text : Emits held holds pending left (stamped_on inside labels bytes)

-- A write failed while these bytes were being stamped.
pub record StampsUpTo (inside : Bool) (bytes : List ℕ) (past now : Option (List Tai64n))
    (held holds : Option (List ℕ)) (pending : List ℕ) : Type 0 where
  pub labels : List Tai64n
  pub gave : Extended past now labels
  pub text : AppendsFront held holds (pending ++ stamped_on inside labels bytes)

-- All that was read so far is stamped and written.
pub record SoFar (old new : StampState) (inside : Bool) (count : ℕ) : Type 0 where
  pub bytes : List ℕ
  pub read : Gives old.reader new.reader bytes
  pub stamps : StampsPart false bytes old.readings new.readings old.writer.bytes new.writer.bytes [] []
  pub inside_is : inside ≡ is_inside false bytes
  pub count_is : count ≡ begun false bytes

-- The same, for a clock with these readings.

abbrev pub StampsPartBy : {C : Type 0} (inside : Bool) (bytes : List ℕ) (readings : C → Option (List Tai64n))
    (clock read : C) (held holds : Option (List ℕ)) (pending left : List ℕ) → Type 0
StampsPartBy inside bytes readings clock read held holds pending left =
    StampsPart inside bytes (readings clock) (readings read) held holds pending left

abbrev pub StampsUpToBy : {C : Type 0} (inside : Bool) (bytes : List ℕ) (readings : C → Option (List Tai64n))
    (clock read : C) (held holds : Option (List ℕ)) (pending : List ℕ) → Type 0
StampsUpToBy inside bytes readings clock read held holds pending =
    StampsUpTo inside bytes (readings clock) (readings read) held holds pending
