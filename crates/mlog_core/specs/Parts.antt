-- What a run of multilog does over an input that comes in parts.
use Rattle.std.specs.Prelude.{◌≡◌, ◌⊎◌, true, false, List, [], ◌∷◌, Option, Some, None}
use Rattle.tai_status.specs.Label.{Tai64n}
use Rattle.tai_status.specs.Counted.{Fails, IsRead, Rose, Works}
use Rattle.mlog_script.specs.Script.{Act}
use Rattle.mlog_files.specs.Store.{StoreState}
use Rattle.mlog_core.specs.Feed.{Feed, OpensNext}
use Rattle.mlog_core.specs.Run.{World, world, RunsAll, RunsLines, RunsUpTo}
use Rattle.mlog_core.specs.Rotate.{Rotates, RotatesUpTo}
use Rattle.mlog_core.specs.declared.stream.RunCounts.{RunCounts}
use Rattle.mlog_core.specs.declared.stream.RunFault.{RunFault}
use Rattle.mlog_core.specs.declared.stream.RunFault.TheVariants as fault
use Rattle.mlog_files.specs.declared.tail.LogFault.{LogFault}
use Rattle.mlog_files.specs.declared.tail.LogFault.TheVariants as log_fault

-- What a run reads, writes and asks: the input, the store, and the readings of the clock.
pub record Play : Type 0 where
  pub feed : Feed
  pub store : StoreState
  pub readings : Option (List Tai64n)

abbrev pub play : Feed → StoreState → Option (List Tai64n) → Play
play feed store readings = record { feed = feed; store = store; readings = readings }

-- the same for a run of one part
abbrev pub world_at : Play → World
world_at p = world p.feed.device p.store p.readings

-- All of the part was read and handed out.
pub record RunsPart (script : List Act) (old new : Play) : Type 0 where
  pub counts : RunCounts
  pub runs : RunsAll script (world_at old) (world_at new) counts
  pub read : IsRead new.feed.device
  pub works : Works old.feed.device new.feed.device
  pub behind : new.feed.behind ≡ old.feed.behind

-- All of the part was read and handed out; a request to rotate the logs came in; they were rotated; and the next part
-- begins.
pub record Turns (script : List Act) (old new : Play) : Type 0 where
  pub ended : Play
  pub runs : RunsPart script old ended
  pub heard : ended.feed.rotates ≡ true
  pub opens : OpensNext ended.feed new.feed
  pub rotates : Rotates script ended.store new.store ended.readings new.readings

-- The run went in this way from part to part. These are the beginnings of the parts, the last one first.
abbrev pub TurnsOver : List Play → List Act → Play → Play → Type 0
TurnsOver [] script old new = new ≡ old
TurnsOver (begun ∷ before) script old new = TurnsOver before script old begun × Turns script begun new

-- The part was handed out, but not all logs were rotated after it.
pub record RotatesNot (script : List Act) (old new : Play) (why : LogFault) : Type 0 where
  pub ended : Play
  pub runs : RunsPart script old ended
  pub heard : ended.feed.rotates ≡ true
  pub opens : OpensNext ended.feed new.feed
  pub rotates : RotatesUpTo script ended.store new.store ended.readings new.readings why

-- How the last part went, by the fault of the run.
abbrev pub EndsBy : Option RunFault → List Act → Play → Play → Type 0
EndsBy None script old new = RunsPart script old new × (new.feed.rotates ≡ false)
EndsBy (Some fault.Read) script old new =
    RunsLines script (world_at old) (world_at new) × Fails old.feed.device new.feed.device
EndsBy (Some fault.Store) script old new =
    (RunsUpTo script (world_at old) (world_at new) fault.Store × Rose old.store.failures new.store.failures)
    ⊎ RotatesNot script old new log_fault.Store
EndsBy (Some fault.LabelsSpent) script old new =
    RunsUpTo script (world_at old) (world_at new) fault.LabelsSpent ⊎ RotatesNot script old new log_fault.LabelsSpent
EndsBy (Some fault.OutOfMemory) script old new = world_at new ≡ world_at old

-- A script was run over all parts of an input, or until a fault: whole parts, each with a rotation after it, and then
-- the last part.
pub record RunsParts (ran : Option RunFault) (script : List Act) (old new : Play) : Type 0 where
  pub begun : List Play
  pub last : Play
  pub turns : TurnsOver begun script old last
  pub ends : EndsBy ran script last new

-- The same, for an input, a store and a clock that contracts see in this way.
abbrev pub PlaysParts : {I S C : Type 0} (ran : Option RunFault) (script : List Act) (feed : I → Feed)
    (input inputs : I) (state : S → StoreState) (store stored : S) (readings : C → Option (List Tai64n))
    (clock read : C) → Type 0
PlaysParts ran script feed input inputs state store stored readings clock read =
    RunsParts ran script (play (feed input) (state store) (readings clock))
    (play (feed inputs) (state stored) (readings read))
