-- The parts of services over folders, and what each call of their maker does.
use Rattle.std.specs.Prelude.{◌≡◌, ◌≢◌, ◌<◌, ◌⊎◌, ℕ, Bool, true, false, List, [], ◌∷◌, ◌++◌, codes, length}
use Rattle.std.specs.Prelude.{◌+◌, ◌-◌, ◌^◌, min, remove, slice_index_or, Option, Some, None, MatchOption}
use Rattle.std.specs.Prelude.{Result, Ok, Err}
use Rattle.std.specs.Prelude.{MatchResult, option_map}
use Rattle.std.specs.Result.{result_err, result_ok}
use Rattle.std.specs.Arc.{arc_value}
use Rattle.std.specs.List.{All}
use Rattle.std.specs.declared.alloc.Global.{Global}
use Rattle.std.specs.declared.io.PipeReader.{PipeReader}
use Rattle.std.specs.declared.fs.File.{File}
use Rattle.std.specs.declared.sync.Arc.{Arc}
use Rattle.scan_table.specs.declared.part.PartId.{PartId}
use Rattle.scan_table.specs.declared.part.Role.{Role}
use Rattle.scan_table.specs.declared.part.Role.TheVariants.{Main, Log}
use Rattle.tai_status.specs.declared.cause.Cause.{Cause}
use Rattle.tai_status.specs.declared.cause.Cause.TheVariants.{NoMemory}
use Rattle.svc_host.specs.declared.maker.PartFault.{PartFault}
use Rattle.svc_host.specs.declared.maker.PartFault.TheVariants as part
use Rattle.svc_house.specs.Calls.{ExtendedWhileKept}
use Rattle.svc_system.specs.declared.folder.FolderFault.TheVariants.{Locked, NotOpened}
use Rattle.svc_record.specs.declared.opening.Opening.{Opening}
use Rattle.svc_record.specs.Opening.{opening_left}
use Rattle.svc_system.specs.declared.output.OutputEnds.{OutputEnds}
use Rattle.svc_system.specs.declared.flow.LoggerInput.{LoggerInput}
use Rattle.svc_system.specs.declared.flow.ServiceOutput.{ServiceOutput}
use Rattle.svc_world.specs.declared.takeover.Remains.{Remains}
use Rattle.svc_maker.specs.Calls.{Call, MadePipe, OpenedOutput, Opened, FoundRemains, MadeWorld, Admitted, Dismissed}
use Rattle.svc_maker.specs.Calls.{KeptTrace}
use Rattle.svc_maker.specs.Calls.{Allowed, OpenedOwn, Prepared, Recorded, WatchedOutputs}
use Rattle.svc_maker.specs.Calls.{CountedBetween, Drained, EndedOutput, LookedAtInput}
use Rattle.scan_table.specs.Slots.{Row}
use Rattle.svc_maker.specs.declared.holder.OwnFault.{OwnFault}
use Rattle.svc_maker.specs.declared.holder.OwnFault.TheVariants as own
use Rattle.svc_maker.specs.Pipes.{pipes_of, pipes_without, input_of, output_of}
use Rattle.svc_maker.specs.declared.pipes.PairOutlets.{PairOutlets}
use Rattle.svc_maker.specs.declared.pipes.PairPipes.{PairPipes}
use Rattle.svc_maker.specs.declared.set_up.MakeFault.{MakeFault}
use Rattle.svc_maker.specs.declared.set_up.MakeFault.TheVariants as why

-- A part that the maker keeps: the path through which its folder was opened, whether it waits to be admitted to the
-- door, and why the door last refused it, if it did.
pub record KeptPart : Type 0 where
  pub part : PartId
  pub path : List ℕ
  pub waits : Bool
  pub refused : Option Cause

-- a part that was set up in the folder at a path, and waits to be admitted
abbrev pub waiting : PartId → (path : List ℕ) → KeptPart
waiting part path = record { part = part; path = path; waits = true; refused = None }

-- What a maker knows. It has what it asked of the system, while that is recorded, and the path of the folder that is
-- scanned. It has the parts that it keeps, in the order in which they were made, and the pipes of the slots that are
-- pairs. It has the path of the folder in which svscan itself is served, if it is served.
pub record Making : Type 0 where
  pub calls : Option (List Call)
  pub folder : List ℕ
  pub kept : List KeptPart
  pub pipes : List PairPipes
  pub own : Option (List ℕ)

-- Parts

-- what follows the name of a service in the path of a part: a logger is the service in its folder `log`
abbrev pub behind : Role → List ℕ
behind Main = []
behind Log = codes "/log"

-- a part's name, as messages use it
abbrev pub part_name : (name : List ℕ) → Role → List ℕ
part_name name role = name ++ behind role

-- the path of a part's folder
abbrev pub part_path : (folder name : List ℕ) → Role → List ℕ
part_path folder name role = folder ++ (47 ∷ part_name name role)

-- What a part is set up with: the path of its folder, the name that messages use, and the ends of pipes that its
-- children have as standard input and output.
pub record Plan : Type 0 where
  pub path : List ℕ
  pub name : List ℕ
  pub input : Option (Arc PipeReader Global)
  pub output : Option (Arc File Global)

-- the children of a part have the pipes of its slot
abbrev pub plan_at : (path name : List ℕ) → PartId → List PairPipes → Plan
plan_at path name part pipes = record {
  path = path;
  name = name;
  input = input_of part.role (pipes_of part.slot pipes);
  output = output_of part.role (pipes_of part.slot pipes);
}

-- the plan for a part of the service with this name
abbrev pub plan_of : Making → (name : List ℕ) → PartId → Plan
plan_of making name part =
    plan_at (part_path making.folder name part.role) (part_name name part.role) part making.pipes

-- the calls by which the world of a part was to be made, if this remains in its own folder
abbrev pub world_made : Plan → Remains → (fault : Option Cause) → List Call
world_made plan remains fault =
    Opened plan.path None ∷ FoundRemains plan.path remains
    ∷ MadeWorld plan.path plan.name remains.taken plan.input plan.output fault ∷ []

-- How a part is set up by a plan: its folder is opened, what remains there after an earlier svscan is found, and a world
-- is made that takes it over. The part begins as what was found says. If one step fails, the next is not tried. If there
-- is no memory, none is tried at all.
abbrev pub IsSetUp : Option MakeFault → Option Opening → Plan → (old new : Option (List Call)) → Type 0
IsSetUp None opening plan old new =
    (remains : Remains) × (opening ≡ Some (opening_left remains.left))
    × ExtendedWhileKept old new (world_made plan remains None)
IsSetUp (Some why.NoRoom) opening plan old new = (opening ≡ None) × ExtendedWhileKept old new []
IsSetUp (Some (why.Unopened fault)) opening plan old new =
    (opening ≡ None) × ExtendedWhileKept old new (Opened plan.path (Some fault) ∷ [])
IsSetUp (Some (why.NoWorld cause)) opening plan old new =
    (opening ≡ None) × ((remains : Remains) × ExtendedWhileKept old new (world_made plan remains (Some cause)))

-- the same for the result of setting up, by the plan for these
abbrev pub SetsUpAt : {A : Type 0} → Result A MakeFault → (opening : A → Opening) → (path name : List ℕ) → PartId
    → List PairPipes → (old new : Option (List Call)) → Type 0
SetsUpAt result opening path name part pipes old new =
    IsSetUp (result_err result) (option_map opening (result_ok result)) (plan_at path name part pipes) old new

-- the parts that the maker keeps, after this one was set up or failed
abbrev pub kept_after : Option MakeFault → KeptPart → List KeptPart → List KeptPart
kept_after None kept_part kept = kept ++ kept_part ∷ []
kept_after (Some fault) kept_part kept = kept

-- what the host gets about a part that failed
abbrev pub part_fault : MakeFault → PartFault
part_fault why.NoRoom = part.Refused NoMemory
part_fault (why.Unopened Locked) = part.Locked
part_fault (why.Unopened (NotOpened cause)) = part.Refused cause
part_fault (why.NoWorld cause) = part.Refused cause

-- A part of the service with this name was set up or failed, in the folder of its role. If it was set up, the maker
-- keeps it, it waits to be admitted, and it begins as what was found there says. Nothing else changed.
pub record SetsUp (name : List ℕ) (part : PartId) (fault : Option MakeFault) (opening : Option Opening)
    (old new : Making) : Type 0 where
  pub is_set_up : IsSetUp fault opening (plan_of old name part) old.calls new.calls
  pub stands : new ≡ record old {
    calls = new.calls;
    kept = kept_after fault (waiting part (part_path old.folder name part.role)) old.kept;
  }

-- Pairs

-- The output of a pair's service was opened, in the service's own folder, and the pipe of its logger was made. What the
-- service writes is read at this end, and the logger reads what this outlet takes. They replace those that the slot
-- had.
pub record JoinsPair (name : List ℕ) (slot : ℕ) (read : ServiceOutput) (outlets : PairOutlets) (old new : Making)
    : Type 0 where
  pub ends : OutputEnds
  pub input : Arc PipeReader Global
  pub written : LoggerInput
  pub reads : read ≡ ends.read
  pub outlet : outlets.outlet ≡ Some written
  pub calls : ExtendedWhileKept old.calls new.calls
      (OpenedOutput (part_path old.folder name Main) (Ok ends) ∷ MadePipe (Ok (input, written)) ∷ [])
  pub stands : new ≡ record old {
    calls = new.calls;
    pipes = pipes_without slot old.pipes
        ++ record { slot = slot; output = ends.write; input = input; flow = ends.flow } ∷ [];
  }

-- An output at this path and a pipe were not made, and the host gets this fault. If there was no memory, none was
-- tried. Otherwise the first or the second was refused.
abbrev pub HaveFailed : (path : List ℕ) → PartFault → List Call → Type 0
HaveFailed path fault [] = fault ≡ part.Refused NoMemory
HaveFailed path fault (OpenedOutput there (Err refused) ∷ []) =
    (there ≡ path) × (fault ≡ part_fault (why.Unopened refused))
HaveFailed path fault (OpenedOutput there (Ok ends) ∷ MadePipe (Err refused) ∷ []) =
    (there ≡ path) × (fault ≡ part.Refused refused)
HaveFailed path fault calls = ⊥

-- The pipes of a pair were not made, the host gets this fault, and nothing else happened: an output that was opened is
-- closed.
pub record LacksPair (name : List ℕ) (fault : PartFault) (old new : Making) : Type 0 where
  pub tried : List Call
  pub failed : HaveFailed (part_path old.folder name Main) fault tried
  pub calls : ExtendedWhileKept old.calls new.calls tried
  pub stands : new ≡ record old { calls = new.calls }

-- The pipes of a pair were to be made.
abbrev pub MakesPair : (name : List ℕ) (slot : ℕ) → Result (ServiceOutput × PairOutlets) PartFault
    → (old new : Making) → Type 0
MakesPair name slot made old new = MatchResult made
    (λ ends. JoinsPair name slot ends.0 ends.1 old new) (λ fault. LacksPair name fault old new)

-- Traces and ends

-- The maker keeps no such part.
abbrev pub IsNowhere : PartId → List KeptPart → Type 0
IsNowhere part kept = All (λ (kept_part : KeptPart). kept_part.part ≢ part) kept

-- The part is at this place.
pub record IsPlace (part : PartId) (kept : List KeptPart) (place : ℕ) : Type 0 where
  pub within : place < length kept
  pub here : (d : KeptPart) → (slice_index_or kept place d).part ≡ part

-- A part that the maker keeps has ended: it is dismissed, once, and is no longer kept.
pub record Dismisses (part : PartId) (old new : Making) : Type 0 where
  pub place : ℕ
  pub is_place : IsPlace part old.kept place
  pub calls : (d : KeptPart) →
      ExtendedWhileKept old.calls new.calls (Dismissed part.life (slice_index_or old.kept place d).path ∷ [])
  pub stands : new ≡ record old { calls = new.calls; kept = remove old.kept place }

-- A part ended. If the maker does not keep it, nothing is asked.
abbrev pub EndsPart : PartId → (old new : Making) → Type 0
EndsPart part old new = (IsNowhere part old.kept × (new ≡ old)) ⊎ Dismisses part old new

-- The trace of a part that the maker keeps was to be kept in its folder, once, and was or was not.
pub record Keeps (part : PartId) (text : List ℕ) (kept : Bool) (old new : Making) : Type 0 where
  pub place : ℕ
  pub is_place : IsPlace part old.kept place
  pub calls : (d : KeptPart) → ExtendedWhileKept old.calls new.calls
      (KeptTrace (slice_index_or old.kept place d).path text kept ∷ [])
  pub stands : new ≡ record old { calls = new.calls }

-- A trace is to be kept. If the maker does not keep the part, the trace is not kept.
abbrev pub KeepsTrace : PartId → (text : List ℕ) → (kept : Bool) → (old new : Making) → Type 0
KeepsTrace part text kept old new =
    (IsNowhere part old.kept × (new ≡ old) × (kept ≡ false)) ⊎ Keeps part text kept old new

-- svscan itself

-- the number of svscan itself at the door
abbrev pub own_number : ℕ
own_number = 2 ^ 64 - 1

-- svscan itself was to be served in the folder at a path, with this record. Its folder is opened, its record is
-- written, and it is admitted to the door: then it is served. If the folder is not opened, nothing more is tried. If it
-- is not admitted, it is dismissed, with its sockets.
abbrev pub ServesOwn : (path bytes : List ℕ) → Option OwnFault → (old new : Making) → Type 0
ServesOwn path bytes None old new =
    ((written : Bool) × ExtendedWhileKept old.calls new.calls
    (OpenedOwn path None ∷ Recorded path bytes written ∷ Admitted own_number path None ∷ []))
    × (new ≡ record old { calls = new.calls; own = Some path })
ServesOwn path bytes (Some (own.Unopened fault)) old new =
    ExtendedWhileKept old.calls new.calls (OpenedOwn path (Some fault) ∷ [])
    × (new ≡ record old { calls = new.calls })
ServesOwn path bytes (Some (own.NotAdmitted cause)) old new =
    ((written : Bool) × ExtendedWhileKept old.calls new.calls
    (OpenedOwn path None ∷ Recorded path bytes written ∷ Admitted own_number path (Some cause)
    ∷ Dismissed own_number path ∷ []))
    × (new ≡ record old { calls = new.calls })

-- svscan itself is dismissed, with its sockets, and then this record is written, if it was served.
abbrev pub LeavesOwn : (bytes : List ℕ) → (old new : Making) → Type 0
LeavesOwn bytes old new = MatchOption old.own (new ≡ old) (λ path.
    ((written : Bool) × ExtendedWhileKept old.calls new.calls
    (Dismissed own_number path ∷ Recorded path bytes written ∷ []))
    × (new ≡ record old { calls = new.calls; own = None }))

-- The outputs of the services in these rows were prepared, in the folder that is scanned. Nothing else was done.
pub record Prepares (rows : List Row) (old new : Making) : Type 0 where
  pub calls : ExtendedWhileKept old.calls new.calls (Prepared old.folder rows ∷ [])
  pub stands : new ≡ record old { calls = new.calls }

-- This many descriptors are allowed from now on. Nothing else was done.
pub record AllowsDescriptors (descriptors : ℕ) (old new : Making) : Type 0 where
  pub calls : ExtendedWhileKept old.calls new.calls (Allowed descriptors ∷ [])
  pub stands : new ≡ record old { calls = new.calls }

-- The outputs were asked to watch their flows. Nothing else was done.
pub record WatchesOutputs (old new : Making) : Type 0 where
  pub calls : ExtendedWhileKept old.calls new.calls (WatchedOutputs ∷ [])
  pub stands : new ≡ record old { calls = new.calls }

-- The end of a pair's output

-- These calls were made, and nothing else changed.
pub record Asks (calls : List Call) (old new : Making) : Type 0 where
  pub made : ExtendedWhileKept old.calls new.calls calls
  pub stands : new ≡ record old { calls = new.calls }

-- The output of a slot's pair was to end this way, once. Nothing is asked for a slot without pipes.
abbrev pub EndsOutput : (slot : ℕ) (at_once : Bool) (old new : Making) → Type 0
EndsOutput slot at_once old new = MatchOption (pipes_of slot old.pipes) (new ≡ old) (λ pair.
    Asks (EndedOutput (arc_value pair.flow) at_once ∷ []) old new)

-- It was asked once whether the input of a slot's logger has nothing to read. For a slot without pipes, the result is
-- yes.
abbrev pub LooksAtInput : (slot : ℕ) (is_read : Bool) (old new : Making) → Type 0
LooksAtInput slot is_read old new = MatchOption (pipes_of slot old.pipes) ((new ≡ old) × (is_read ≡ true)) (λ pair.
    Asks (LookedAtInput (arc_value pair.input) is_read ∷ []) old new)

-- What is lost between an output and its logger. If no logger reads its input, what is in the input counts too: the
-- input is read to its end before the rest is counted.
abbrev pub CountsLost : (has_logger : Bool) (pair : PairPipes) (lost : ℕ) (old new : Making) → Type 0
CountsLost true pair lost old new = Asks (CountedBetween (arc_value pair.flow) lost ∷ []) old new
CountsLost false pair lost old new =
    (unread between : ℕ) × (lost ≡ min (between + unread) (2 ^ 64 - 1))
    × Asks (Drained (arc_value pair.input) unread ∷ CountedBetween (arc_value pair.flow) between ∷ []) old new

-- For a slot without pipes, nothing is lost.
abbrev pub Loses : (slot : ℕ) (has_logger : Bool) (lost : ℕ) (old new : Making) → Type 0
Loses slot has_logger lost old new = MatchOption (pipes_of slot old.pipes) ((new ≡ old) × (lost ≡ 0)) (λ pair.
    CountsLost has_logger pair lost old new)
