-- Lines part by part, as their bytes come. No public contract uses it.
--
-- `inside` says that the bytes continue a line that has begun, and whose label, if it has one, was passed.
use Rattle.std.specs.Prelude.{◌≡◌, ℕ, ◌-◌, ◌⊎◌, ◌&&◌, ◌==◌, nat_lt, Bool, true, false, List, [], ◌++◌, length, drop}
use Rattle.std.specs.Prelude.{if◌then◌else◌, slice_index, Option, ℤ}
use Rattle.std.specs.Io.BufRead.{take_through, drop_through}
use Rattle.tai_status.specs.Counted.{Device, Gives, Wrote}
use Rattle.tai_status.specs.Block.{Emits}
use Rattle.cmd_local.specs.Lines.{leading_digits, localised, localised_line}

-- whether bytes that begin a line may still be the beginning of a label
abbrev pub is_open : List ℕ → Bool
is_open line =
    nat_lt (length line) 26 && (slice_index line 0 == 64) && (leading_digits (drop 1 line) == length line - 1)

-- what becomes of bytes
abbrev pub passed : (ahead : ℤ → ℤ) → Bool → List ℕ → List ℕ
passed ahead false bytes = localised ahead bytes
passed ahead true bytes = take_through 10 bytes ++ localised ahead (drop_through 10 bytes)

-- what becomes of bytes of one line
abbrev pub passed_part : (ahead : ℤ → ℤ) → Bool → List ℕ → List ℕ
passed_part ahead inside part = if inside then part else localised_line ahead part

-- Bytes of one line. Either they end in its newline, or it may come after them.
abbrev pub IsPart : List ℕ → (ends : Bool) → Type 0
IsPart part true = (more : List ℕ) → (take_through 10 (part ++ more) ≡ part) × (drop_through 10 (part ++ more) ≡ more)
IsPart part false = (more : List ℕ) → (take_through 10 (part ++ more) ≡ part ++ take_through 10 more)
    × (drop_through 10 (part ++ more) ≡ drop_through 10 more)

-- Nothing is held, or the beginning of a line.
abbrev pub IsHeld : (inside : Bool) (held : List ℕ) → Type 0
IsHeld inside held = (held ≡ []) ⊎ ((inside ≡ false) × IsPart held false)

-- From bytes that were read, whatever comes after them, this text was made, and some bytes are held.
pub record Makes (ahead : ℤ → ℤ) (inside : Bool) (bytes text : List ℕ) (goes_on : Bool) (held : List ℕ) : Type 0 where
  pub always : (more : List ℕ) → passed ahead inside (bytes ++ more) ≡ text ++ passed ahead goes_on (held ++ more)

-- Text was put after what was pending, so that these bytes are held.
pub record Passes (ahead : ℤ → ℤ) (inside : Bool) (bytes : List ℕ) (goes_on : Bool) (held : List ℕ)
    (old new : Option (List ℕ)) (pending left : List ℕ) : Type 0 where
  pub text : List ℕ
  pub makes : Makes ahead inside bytes text goes_on held
  pub puts : Emits old new pending left text

-- Text was put after what was pending, so that the bytes from a place on are held.
abbrev pub PassesUpTo : (at : ℕ) (ahead : ℤ → ℤ) (inside : Bool) (bytes : List ℕ) (goes_on : Bool) (old new : Device)
    (pending left : List ℕ) → Type 0
PassesUpTo at ahead inside bytes goes_on old new pending left =
    Passes ahead inside bytes goes_on (drop at bytes) old.bytes new.bytes pending left

-- Text was written, so that these bytes are held.
pub record Moves (ahead : ℤ → ℤ) (inside : Bool) (bytes : List ℕ) (goes_on : Bool) (held : List ℕ)
    (old new : Device) : Type 0 where
  pub text : List ℕ
  pub makes : Makes ahead inside bytes text goes_on held
  pub wrote : Wrote old new text

-- All that was read is written, except for the bytes that are held.
pub record SoFar (ahead : ℤ → ℤ) (reader read writer written : Device) (inside : Bool) (held : List ℕ) : Type 0 where
  pub bytes : List ℕ
  pub text : List ℕ
  pub gave : Gives reader read bytes
  pub wrote : Wrote writer written text
  pub makes : Makes ahead false bytes text inside held
