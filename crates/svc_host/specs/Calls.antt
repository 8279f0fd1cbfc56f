-- What was asked of the maker of parts, and the results.
use Rattle.std.specs.Prelude.{◌≡◌, ◌⊎◌, ⊤, ℕ, ◌==◌, Bool, true, false, List, [], ◌∷◌, ◌++◌, not, length}
use Rattle.std.specs.Prelude.{Option, Some, None, Vec}
use Rattle.std.specs.List.{AllByRecursion, filter, list_any}
use Rattle.scan_table.specs.declared.part.PartId.{PartId}
use Rattle.std.specs.Prelude.{Result, Ok, Err}
use Rattle.std.specs.Option.{option_map}
use Rattle.svc_record.specs.declared.opening.Opening.{Opening}
use Rattle.scan_table.specs.Slots.{Row, SlotState}
use Rattle.scan_table.specs.Table.{TableState, has_log, name_of, slot_at}
use Rattle.sup_trace.specs.Text.{trace_text}
use Rattle.svc_house.specs.Calls.{ExtendedWhileKept}
use Rattle.svc_host.specs.declared.maker.PartFault.{PartFault}
use Rattle.svc_host.specs.declared.pair.Pair.{Pair}
use Rattle.svc_host.specs.Growth.{trace_of}
use Rattle.svc_host.specs.Parts.{HostPart, PartGoesOn}

-- One call, with its result. The calls, in the order of the constructors:
--
-- - The resources of a part were asked for, by the name of its service. They were handed out, with how the part begins,
--   or this is the fault.
-- - The resources of the pair of a slot were asked for in the same way.
-- - The trace of a part was to be kept, and was or was not.
-- - A part has ended: what was handed out for it is given back.
-- - A slot is dropped.
-- - All outputs are to be watched.
-- - The output of a slot is to end, at once or when it is empty.
-- - It was asked whether the logger of a slot has read everything.
-- - It was asked how many bytes of a slot's output were lost, with a logger or without one.
--
-- The other calls are for a maker over a folder:
--
-- - The parts are sought in this folder from now on, or there was no memory for that.
-- - This many descriptors are allowed.
-- - What the outputs of these rows lack was made.
-- - All parts that wait were to be admitted to the door.
-- - It was asked whether any part waits, or which parts were refused.
-- - svscan itself was to be served in the folder at a path, and is or is not.
-- - svscan itself is no longer served.
pub data Call : Type 0 where
  MadePart : (id : PartId) → (name : List ℕ) → (made : Result Opening PartFault) → Call
  MadePair : (slot : ℕ) → (name : List ℕ) → (fault : Option PartFault) → Call
  KeptTrace : (id : PartId) → (text : List ℕ) → (kept : Bool) → Call
  EndedPart : (id : PartId) → Call
  ForgotSlot : (slot : ℕ) → Call
  WatchedOutputs : Call
  EndedOutput : (slot : ℕ) → (at_once : Bool) → Call
  AskedIsRead : (slot : ℕ) → (is_read : Bool) → Call
  CountedLost : (slot : ℕ) → (has_logger : Bool) → (count : ℕ) → Call
  SetFolder : (folder : List ℕ) → (is_set : Bool) → Call
  Allowed : (descriptors : ℕ) → Call
  Prepared : (rows : List Row) → Call
  AdmittedAll : Call
  AskedWaits : (any_waits : Bool) → Call
  AskedRefusals : Call
  ServedOwn : (path : List ℕ) → (is_served : Bool) → Call
  LeftOwn : Call

-- Parts

-- the parts for which resources were handed out in these calls, and those whose resources were given back
abbrev pub given_in : List Call → List PartId
given_in [] = []
given_in (MadePart id name (Ok opening) ∷ calls) = id ∷ given_in calls
given_in (call ∷ calls) = given_in calls

abbrev pub returned_in : List Call → List PartId
returned_in [] = []
returned_in (EndedPart id ∷ calls) = id ∷ returned_in calls
returned_in (call ∷ calls) = returned_in calls

-- From old to new calls, resources were handed out for the first parts, in this order, and those of the second parts
-- were given back. This holds while calls are recorded.
abbrev pub HandsOut : (old new : Option (List Call)) → (given returned : List PartId) → Type 0
HandsOut old None given returned = ⊤
HandsOut None (Some new) given returned = ⊥
HandsOut (Some old) (Some new) given returned =
    (given_in new ≡ given_in old ++ given) × (returned_in new ≡ returned_in old ++ returned)

-- From old to new calls, no resources were handed out or given back.
abbrev pub HandsOutNone : (old new : Option (List Call)) → Type 0
HandsOutNone old new = HandsOut old new [] []

-- A part was asked for, at most once. If it begins, it has its resources. If they were handed out and it could not
-- begin, they were given back. Otherwise this is why they were not handed out, or there was no memory to ask.
abbrev pub AsksPart : PartId → (name : List ℕ) → Result Opening PartFault → (old new : Option (List Call)) → Type 0
AsksPart id name (Ok opening) old new = ExtendedWhileKept old new (MadePart id name (Ok opening) ∷ [])
AsksPart id name (Err fault) old new =
    ExtendedWhileKept old new []
    ⊎ ExtendedWhileKept old new (MadePart id name (Err fault) ∷ [])
    ⊎ ((opening : Opening) × ExtendedWhileKept old new (MadePart id name (Ok opening) ∷ EndedPart id ∷ []))

-- how a part begins, or why there is none
abbrev pub opening_in : Result HostPart PartFault → Result Opening PartFault
opening_in (Ok part) = Ok part.opening
opening_in (Err fault) = Err fault

-- the part whose resources are given back, if its thread was joined
abbrev pub returned_by : (joined : Bool) → PartId → List PartId
returned_by true id = id ∷ []
returned_by false id = []

-- What became of one part that was to begin: it has its resources, or none are left with it.
abbrev pub HandsOutOne : PartId → (fault : Option PartFault) → (old new : Option (List Call)) → Type 0
HandsOutOne id None old new = HandsOut old new (id ∷ []) []
HandsOutOne id (Some fault) old new = HandsOutNone old new ⊎ HandsOut old new (id ∷ []) (id ∷ [])

-- Pairs

-- whether the threads of the pair in this slot run; and the pairs without the one in this slot
abbrev pub has_pair : (slot : ℕ) → List Pair → Bool
has_pair slot pairs = list_any (λ (pair : Pair). pair.slot == slot) pairs

abbrev pub pairs_without : (slot : ℕ) → List Pair → List Pair
pairs_without slot pairs = filter (λ (pair : Pair). not (pair.slot == slot)) pairs

-- A pair was asked for, at most once. If it was not handed out, this is the reason.
abbrev pub AsksPair : (slot : ℕ) → (name : List ℕ) → PartFault → (old new : Option (List Call)) → Type 0
AsksPair slot name fault old new =
    ExtendedWhileKept old new []
    ⊎ ExtendedWhileKept old new (MadePair slot name (Some fault) ∷ [])
    ⊎ ExtendedWhileKept old new (MadePair slot name None ∷ [])

-- The threads of a pair must run. If they run, nothing is asked. Otherwise the pair is asked for, once, and runs then,
-- or no more pairs run than before.
abbrev pub StartsPair : (slot : ℕ) → (name : List ℕ) → (fault : Option PartFault) → (olds news : List Pair)
    → (old new : Option (List Call)) → Type 0
StartsPair slot name None olds news old new =
    ((has_pair slot olds ≡ true) × (news ≡ olds) × ExtendedWhileKept old new [])
    ⊎ ((pair : Pair) × (has_pair slot olds ≡ false) × (pair.slot ≡ slot) × (news ≡ olds ++ pair ∷ [])
    × ExtendedWhileKept old new (MadePair slot name None ∷ []))
StartsPair slot name (Some fault) olds news old new =
    (has_pair slot olds ≡ false) × (news ≡ olds) × AsksPair slot name fault old new

-- The threads of a slot must run if it is a pair. Nothing is asked for any other slot.
abbrev pub StartsWhere : (is_pair : Bool) → (slot : ℕ) → (name : List ℕ) → (fault : Option PartFault)
    → (olds news : List Pair) → (old new : Option (List Call)) → Type 0
StartsWhere true slot name fault olds news old new = StartsPair slot name fault olds news old new
StartsWhere false slot name fault olds news old new = (fault ≡ None) × (news ≡ olds) × (new ≡ old)

-- the same for a slot of this table
abbrev pub StartsIfPair : {A : Type 0} → TableState → (slot : ℕ) → (name : List ℕ) → (fault : Option PartFault)
    → (olds news : Vec Pair A) → (old new : Option (List Call)) → Type 0
StartsIfPair table slot name fault olds news old new =
    StartsWhere (has_log (slot_at table.slots slot)) slot name fault olds.items news.items old new

-- Names

-- the name of the service in a slot
abbrev pub name_at : List SlotState → (slot : ℕ) → Option (List ℕ)
name_at slots slot = option_map name_of (slot_at slots slot)

-- A part or a pair was asked for by the name of its slot.
abbrev pub IsByName : List SlotState → Call → Type 0
IsByName slots (MadePart id name made) = name_at slots id.slot ≡ Some name
IsByName slots (MadePair slot name fault) = name_at slots slot ≡ Some name
IsByName slots call = ⊤

-- From old to new calls, each part and each pair was asked for by the name of its slot. This holds while calls are
-- recorded.
pub record AsksByName (slots : List SlotState) (old new : Option (List Call)) : Type 0 where
  pub calls : List Call
  pub asked : ExtendedWhileKept old new calls
  pub named : AllByRecursion (IsByName slots) calls

-- Traces

-- the text of the trace of a part after its events, as far as the host has read them
abbrev pub text_of : HostPart → List ℕ
text_of part = trace_text (trace_of part.station part.known)

-- The trace of a part was handed to the maker, once, if it has grown since it was last kept and there was memory for
-- its text. `is_kept` says whether its newest trace is kept.
abbrev pub HandsTrace : (kept : Option ℕ) → HostPart → (is_kept : Bool) → (old new : Option (List Call)) → Type 0
HandsTrace kept part true old new =
    ((kept ≡ Some (length part.known)) × ExtendedWhileKept old new [])
    ⊎ ExtendedWhileKept old new (KeptTrace part.id (text_of part) true ∷ [])
HandsTrace kept part false old new =
    ExtendedWhileKept old new [] ⊎ ExtendedWhileKept old new (KeptTrace part.id (text_of part) false ∷ [])

-- A part was joined: its last trace was handed to the maker, and if it is not kept, that is noted as a loss. Then what
-- the part had was given back, once.
pub record GivesBack (old_part new_part : HostPart) (old new : Option (List Call)) : Type 0 where
  pub read : HostPart
  pub goes_on : PartGoesOn old_part read
  pub is_kept : Bool
  pub mid : Option (List Call)
  pub hands : HandsTrace old_part.kept read is_kept old mid
  pub noted : new_part.loss.lacks_trace ≡ not is_kept
  pub returned : ExtendedWhileKept mid new (EndedPart old_part.id ∷ [])
