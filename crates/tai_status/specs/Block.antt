-- Bytes that are waiting to be written to a writer.
use Rattle.std.specs.Prelude.{◌≡◌, ℕ, List, ◌++◌, Option}
use Rattle.std.specs.Io.KnownBytes.{Appends}
use Rattle.tai_status.specs.Counted.{Device}

-- The bytes that a writer holds, followed by those that are pending, grew by these bytes.
pub record Emits (held holds : Option (List ℕ)) (pending left bytes : List ℕ) : Type 0 where
  pub written : List ℕ
  pub wrote : Appends held holds written
  pub whole : written ++ left ≡ pending ++ bytes

-- These bytes were added after those that were pending. Some of them may have been written.
abbrev pub Puts : (old new : Device) (pending left bytes : List ℕ) → Type 0
Puts old new pending left bytes = Emits old.bytes new.bytes pending left bytes
