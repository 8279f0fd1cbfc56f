-- The process of a service that was started last, the line that records it, and what became of it.
use Rattle.std.specs.Prelude.{◌≡◌, ◌≢◌, ◌<◌, ◌==◌, ◌^◌, ℕ, ⊤, Bool, false, List, ◌++◌, codes, decimal, length}
use Rattle.std.specs.Prelude.{Option, Some, None}
use Rattle.std.specs.Borrow.{Bor}
use Rattle.svc_record.specs.declared.process.ProcessId.{ProcessId}
use Rattle.svc_record.specs.declared.process.Fate.{Fate}
use Rattle.svc_record.specs.declared.process.Fate.TheVariants.{Unknown, Gone, Lives}

-- the line that records a process: its number, the tick at which it began, and the boot, separated by spaces
abbrev pub process_line : ProcessId → List ℕ
process_line process =
    decimal process.pid ++ codes " " ++ decimal process.tick ++ codes " " ++ process.boot ++ codes "\n"

-- A process has a number of at least 1; numbers fit their types, and the name of a boot has 36 bytes.
pub record IsProcess (process : ProcessId) : Type 0 where
  pub some : 0 < process.pid
  pub pid : process.pid < 2 ^ 32
  pub tick : process.tick < 2 ^ 64
  pub boot : length process.boot ≡ 36

-- If a process was found alive, it has a number.
abbrev pub IsLiving : Fate → Type 0
IsLiving (Lives process) = 0 < process.pid
IsLiving other = ⊤

-- whether a process is alive in its boot, if the process that now has its number began at this tick, or there is none
abbrev pub is_alive : ProcessId → (tick : Option ℕ) → Bool
is_alive process None = false
is_alive process (Some tick) = tick == process.tick

-- What became of the recorded process. It is alive exactly if it began in this boot, and the process that now has its
-- number began at its tick. A process of another boot shows nothing, and nor does no process.
abbrev pub IsFound : (recorded : Option ProcessId) (boot : List ℕ) (tick : Option ℕ) → Fate → Type 0
IsFound None boot tick found = found ≡ Unknown
IsFound (Some process) boot tick (Lives found) = (process.boot ≡ boot) × (tick ≡ Some process.tick) × (found ≡ process)
IsFound (Some process) boot tick Gone = (process.boot ≡ boot) × (tick ≢ Some process.tick)
IsFound (Some process) boot tick Unknown = process.boot ≢ boot

-- The number before a space, and what comes after the space.
abbrev pub AreParts : (number : ℕ) (rest : List ℕ) → ℕ × Bor (List ℕ) → Type 0
AreParts number rest parts = (parts.0 ≡ number) × (parts.1.now ≡ rest)
