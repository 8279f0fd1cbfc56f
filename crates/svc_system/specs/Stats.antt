-- What follows from what was found for the number of a process.
use Rattle.std.specs.Prelude.{◌≡◌, ◌↔◌, ℕ, Bool, IsTrue, Option, Some, None, option_and_then}
use Rattle.svc_record.specs.Stats.{living_tick}
use Rattle.svc_record.specs.declared.stat.Stat.{Stat}

-- It is found exactly if a process lives that began at this tick.
abbrev pub LivesSince : (tick : ℕ) → Option Stat → (found : Bool) → Type 0
LivesSince tick reported found = IsTrue found ↔ (option_and_then living_tick reported ≡ Some tick)

-- A process was found that has this parent.
abbrev pub IsChildOf : (parent : ℕ) → Option Stat → Type 0
IsChildOf parent None = ⊥
IsChildOf parent (Some stat) = stat.parent ≡ parent
