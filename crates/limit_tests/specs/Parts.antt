-- An input of two parts, and what a run over it leaves.
use Rattle.std.specs.Prelude.{◌≡◌, ℕ, is_some, List, [], ◌∷◌, ◌++◌, Option, Some, None, codes}
use Rattle.tai_status.specs.declared.cause.Cause.{Cause}
use Rattle.tai_status.specs.Label.{Tai64n}
use Rattle.mlog_files.specs.Files.{Files, old_name}
use Rattle.mlog_core.specs.Feed.{Feed}

-- the bytes of the parts that have not begun
abbrev pub behind : Option (List ℕ) → List (List ℕ)
behind None = []
behind (Some bytes) = bytes ∷ []

-- an input that has these bytes left and then this part, after this many reads and faults
abbrev pub feed_of : (left : List ℕ) → (second : Option (List ℕ)) → (reads faults : ℕ) → Option Cause → Feed
feed_of left second reads faults cause = record {
  device = record { bytes = Some left; reads = reads; faults = faults; cause = cause };
  behind = Some (behind second);
  rotates = is_some second;
}

-- A run over the parts `a` and `b c` left this. The clock was read for the line of the first part, for the rotation
-- after it, and for each line of the second part. The first part is in the old file with the rotation's label, and the
-- second part is in the current file.
pub record IsTwoParts (files : Files) (readings : List Tai64n) : Type 0 where
  pub first : Tai64n
  pub rotation : Tai64n
  pub second : Tai64n
  pub third : Tai64n
  pub readings_are : readings ≡ first ∷ rotation ∷ second ∷ third ∷ []
  pub olds : files.olds ≡ record { name = old_name rotation; bytes = codes "a" ++ 10 ∷ [] } ∷ []
  pub current : files.current ≡ codes "b" ++ 10 ∷ codes "c" ++ 10 ∷ []
