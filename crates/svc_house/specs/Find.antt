-- What a turn may find.
use Rattle.std.specs.Prelude.{◌≡◌, ◌<◌, true, ⊤}
use Rattle.sup_core.specs.State.{State}
use Rattle.tai_status.specs.declared.phase.Phase.TheVariants as phase
use Rattle.sup_core.specs.Rules.{IsEvent, is_taken}
use Rattle.svc_house.specs.declared.pending.Pending.{Pending}
use Rattle.svc_house.specs.declared.pending.Pending.TheVariants.{Empty, One, ByteThenDeath}

-- The machine takes what was found. A control byte and a death are found together only while the service is up, and it
-- then has a process.
abbrev pub IsReady : State → Pending → Type 0
IsReady state Empty = ⊤
IsReady state (One event) = IsEvent event × (is_taken state.phase state.until event ≡ true)
IsReady state (ByteThenDeath byte label) = (state.phase ≡ phase.Up) × (0 < state.status.pid)
