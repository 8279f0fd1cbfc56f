-- What became of the last process of a service, by what is reported about it.
use Rattle.std.specs.Prelude.{◌≡◌, ⊤, ℕ, Bool, true, false, not, ◌&&◌, ◌||◌, List, Option, Some, None, IsSome}
use Rattle.svc_record.specs.Process.{IsFound}
use Rattle.svc_record.specs.declared.process.ProcessId.{ProcessId}
use Rattle.svc_record.specs.declared.leftover.Leftover.{Leftover}
use Rattle.svc_record.specs.declared.leftover.Leftover.TheVariants.{Process}
use Rattle.svc_record.specs.declared.process.Fate.{Fate}
use Rattle.svc_record.specs.declared.process.Fate.TheVariants.{Unknown, Gone, Lives}

-- what is reported about a recorded process
pub record Report : Type 0 where
  -- when the living process with its number began, if there is one; nothing is reported if the kernel can't be asked
  pub tick : Option (Option ℕ)
  -- whether it runs in the folder of the service
  pub runs_here : Bool
  -- whether this svscan has started it
  pub is_child : Bool
  -- whether the folder in which it runs names it as the process of its service
  pub is_named_there : Bool

-- A recorded process belongs to somebody else if it does not run in the folder, and either this svscan has started it
-- or the folder in which it runs names it.
abbrev pub is_foreign : Report → Bool
is_foreign report = not report.runs_here && (report.is_child || report.is_named_there)

-- The tick at which the living process with a recorded process's number began. If the kernel can't be asked, the
-- recorded process counts as alive, unless a later start was intended.
abbrev pub known_tick : (tick : Option (Option ℕ)) → ProcessId → (over : Option Leftover) → Option ℕ
known_tick (Some tick) process over = tick
known_tick None process None = Some process.tick
known_tick None process (Some over) = None

-- What became of the recorded process. If the boot is not known, nothing is known about a process.
abbrev pub IsFoundIn : (recorded : Option ProcessId) (boot : Option (List ℕ)) (tick : Option ℕ) → Fate → Type 0
IsFoundIn recorded None tick found = found ≡ Unknown
IsFoundIn recorded (Some boot) tick found = IsFound recorded boot tick found

-- A process that lives began in this boot. If a process is gone, this boot is known.
abbrev pub IsOfBoot : (boot : Option (List ℕ)) → Fate → Type 0
IsOfBoot boot (Lives process) = boot ≡ Some process.boot
IsOfBoot boot Gone = IsSome boot
IsOfBoot boot Unknown = ⊤

-- What became of the service's own process. If the recorded one lives and belongs to somebody else, nothing is known of
-- the service's own.
abbrev pub own_fate : Fate → (is_foreign : Bool) → Fate
own_fate (Lives process) true = Unknown
own_fate found is_foreign = found

-- What became of the last process, once it is known what is left over from a start that was intended after it. A
-- recorded process that lives is the last one: no start is intended while it is known to live. Otherwise a process that
-- is left over is the last one. If nobody is left over, or it is not sure who is, the last process is gone.
abbrev pub found_over : Fate → Option Leftover → (boot : Option (List ℕ)) → Fate
found_over (Lives process) over boot = Lives process
found_over found (Some (Process pid tick)) (Some boot) = Lives (record { pid = pid; tick = tick; boot = boot })
found_over found (Some over) (Some boot) = Gone
found_over found over boot = found

-- The recorded process has this fate, by what is reported about it.
abbrev pub IsOwnFate : Report → ProcessId → Option Leftover → (boot : Option (List ℕ)) → Fate → Type 0
IsOwnFate report process over boot fate =
    (found : Fate) × IsFoundIn (Some process) boot (known_tick report.tick process over) found
    × (fate ≡ own_fate found (is_foreign report))

-- The last process has this fate: the recorded one, or what is left over from a start that was intended after it.
abbrev pub IsLastFate : Report → ProcessId → Option Leftover → (boot : Option (List ℕ)) → Fate → Type 0
IsLastFate report process over boot fate =
    (own : Fate) × IsOwnFate report process over boot own × (fate ≡ found_over own over boot)
