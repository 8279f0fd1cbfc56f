-- What was asked of the system for one service, and the results.
use Rattle.std.specs.Prelude.{ℕ, Bool, List, Option}
use Rattle.tai_status.specs.Label.{Tai64n}
use Rattle.sup_core.specs.declared.asks.Sig.{Sig}
use Rattle.svc_record.specs.declared.exit.Exit.{Exit}
use Rattle.svc_record.specs.declared.place.Place.{Place}
use Rattle.svc_record.specs.declared.leftover.Leftover.{Leftover}
use Rattle.svc_world.specs.declared.begin.Death.{Death}
use Rattle.svc_world.specs.declared.paper.Paper.{Paper}
use Rattle.svc_world.specs.declared.paper.Remark.{Remark}

-- One call, with its result. The calls, in the order of the constructors:
--
-- - A child was spawned and got this number, or could not be made.
-- - The death of the last child was sought.
-- - It was asked whether the report of a death waits for control bytes.
-- - A signal was sent.
-- - This content of a paper was to be written, and was or was not.
-- - This was said about the service.
-- - What is left over from the start that this place intends was sought.
-- - The process with this number, which began at this tick, was adopted.
-- - The tick at which the process with this number began was sought.
-- - The present tick was read.
-- - The clock was read.
-- - The time was read that does not go back with the clock.
-- - It was sought whether the service has a `finish`.
-- - A `finish` was spawned after this end and got this number, or could not be made.
-- - It was sought whether a `finish` that began at this tick has run for as long as it may.
-- - It was sought how many seconds after it was asked to go the service gets KILL.
-- - It was sought when the last child said that it is ready.
-- - It was sought for how many seconds the next start waits after many ends.
pub data Call : Type 0 where
  Spawned : (child : Option ℕ) → Call
  SoughtDeath : (death : Option Death) → Call
  Lingered : (waits : Bool) → Call
  Signalled : (sig : Sig) → (pid : ℕ) → Call
  Wrote : (paper : Paper) → (content : List ℕ) → (written : Bool) → Call
  Said : (remark : Remark) → Call
  SoughtLeftover : (place : Place) → (found : Leftover) → Call
  Adopted : (pid tick : ℕ) → Call
  SoughtTick : (pid : ℕ) → (tick : Option ℕ) → Call
  ReadTick : (tick : ℕ) → Call
  ReadClock : (label : Tai64n) → Call
  ReadSteady : (label : Tai64n) → Call
  SoughtFinish : (has : Bool) → Call
  SpawnedFinish : (exit : Exit) → (child : Option ℕ) → Call
  SoughtLate : (tick : ℕ) → (late : Bool) → Call
  SoughtKillTime : (seconds : Option ℕ) → Call
  SoughtReady : (ready : Option Tai64n) → Call
  SoughtBackoff : (seconds : Option ℕ) → Call
