-- The adopted process of a service, and when its line need not be read.
use Rattle.std.specs.Prelude.{◌≡◌, ℕ, ◌==◌, nat_lt, Bool, not, ◌&&◌}
use Rattle.svc_system.specs.declared.children.DeathSource.{DeathSource}
use Rattle.svc_system.specs.declared.children.DeathSource.TheVariants.{Process}
use Rattle.svc_system.specs.declared.adoption.Glance.{Glance}
use Rattle.svc_system.specs.declared.adoption.Glance.TheVariants.{Folder, End}

-- whether a call shows the known process: its folder in /proc has the number that is known, or it has not ended; 0 is
-- the number of a folder that is not known
abbrev pub is_unchanged : (known : ℕ) → Glance → Bool
is_unchanged known (Folder number) = nat_lt 0 known && (number == known)
is_unchanged known (End has_ended) = nat_lt 0 known && not has_ended

-- The death is found of the process with this number, which began at this tick.
abbrev pub IsSource : DeathSource → (pid tick : ℕ) → Type 0
IsSource (Process process) pid tick = (process.pid ≡ pid) × (process.tick ≡ tick)
IsSource other pid tick = ⊥
