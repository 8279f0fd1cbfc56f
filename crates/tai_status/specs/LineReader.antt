-- A reader of lines: the line that it gave last, the bytes that were read and not yet given, and the most bytes that a
-- line may have.
use Rattle.std.specs.Prelude.{◌≡◌, ℕ, ◌≤◌, ◌==◌, true, not, List, ◌∷◌, ◌++◌}
use Rattle.std.specs.List.{list_all}
use Rattle.tai_status.specs.Counted.{Device, Gives}

pub record Given : Type 0 where
  pub line : List ℕ
  pub pending : List ℕ
  pub bound : ℕ

-- A range from one place to another, among this many bytes.
abbrev pub IsSpan : ℕ → ℕ → ℕ → Type 0
IsSpan start end len = (start ≤ end) × (end ≤ len)

-- Bytes without a newline.
abbrev pub IsPlain : List ℕ → Type 0
IsPlain bytes = list_all (λ byte. not (byte == 10)) bytes ≡ true

-- The next line was given: the bytes before the first newline of those that were pending.
pub record TakesLine (old new : Given) : Type 0 where
  pub whole : old.pending ≡ new.line ++ 10 ∷ new.pending
  pub plain : IsPlain new.line
  pub bound : new.bound ≡ old.bound

-- A read added bytes to those that are pending.
pub record Fills (reader reads : Device) (old new : Given) : Type 0 where
  pub bytes : List ℕ
  pub read : Gives reader reads bytes
  pub pending : new.pending ≡ old.pending ++ bytes
  pub bound : new.bound ≡ old.bound
