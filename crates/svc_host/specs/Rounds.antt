-- What a round of a host does to its table and to its parts.
use Rattle.std.specs.Prelude.{◌≡◌, ◌⊎◌, ℕ, Bool, true, false, not, List, [], ◌∷◌, ◌++◌, map, length, Option, Some, None}
use Rattle.std.specs.List.{filter, All}
use Rattle.tai_status.specs.Label.{Tai64n}
use Rattle.scan_table.specs.declared.fault.ScanFault.{ScanFault}
use Rattle.scan_table.specs.declared.fault.ScanFault.TheVariants as fault
use Rattle.scan_table.specs.declared.part.PartId.{PartId}
use Rattle.scan_table.specs.declared.table.ScanOut.{ScanOut}
use Rattle.scan_table.specs.Slots.{Row, SlotState}
use Rattle.scan_table.specs.Order.{scan_refusal}
use Rattle.scan_table.specs.Scan.{starts, restarts, drops, refused}
use Rattle.scan_table.specs.Table.{TableState, after_end, scanned}
use Rattle.svc_host.specs.declared.host.BegunParts.{BegunParts}
use Rattle.svc_host.specs.declared.host.HostOut.{HostOut}
use Rattle.svc_host.specs.declared.host.Unmade.{Unmade}
use Rattle.svc_house.specs.Calls.{ExtendedWhileKept}
use Rattle.svc_host.specs.Parts.{HostPart, GoOn, IsJoined, IsPart, PartGoesOn, history_of, stays}
use Rattle.sup_core.specs.History.{phase_of}
use Rattle.tai_status.specs.declared.phase.Phase.TheVariants as phase
use Rattle.svc_host.specs.Begun.{Begins}
use Rattle.svc_host.specs.Calls.{AsksByName, Call, ForgotSlot, HandsOut, HandsOutNone}

-- the table of slots, the parts that the host has, and what was asked of their maker, while that is recorded
pub record HostState : Type 0 where
  pub table : TableState
  pub parts : List HostPart
  pub calls : Option (List Call)

-- a table after these parts have ended
abbrev pub after_ends : List PartId → TableState → TableState
after_ends [] table = table
after_ends (id ∷ ids) table = after_ends ids (after_end table id)

-- the parts that could not be made
abbrev pub unmade_ids : List Unmade → List PartId
unmade_ids failed = map (λ (unmade : Unmade). unmade.part) failed

-- a part that the host had and that ran
abbrev pub Ran : List HostPart → PartId → Type 0
Ran parts id = (part : HostPart) × IsPart id parts part × (part.has_ended ≡ false)

-- Its thread was joined: it ran, it is gone with its whole history, and the letters left in its mailbox are noted.
pub record IsReaped (old new : HostPart) : Type 0 where
  pub goes_on : PartGoesOn old new
  pub ran : old.has_ended ≡ false
  pub joined : IsJoined new
  pub gone : phase_of (history_of new) ≡ phase.Gone

-- Each of these parts is as it was, or its thread was joined. The joined ones are these, in order.
abbrev pub AreReaped : (joined : List PartId) → (olds news : List HostPart) → Type 0
AreReaped joined [] [] = joined ≡ []
AreReaped joined (old ∷ olds) (new ∷ news) =
    ((new ≡ old) × AreReaped joined olds news)
    ⊎ ((rest : List PartId) × (joined ≡ old.id ∷ rest) × IsReaped old new × AreReaped rest olds news)
AreReaped joined olds news = ⊥

-- Threads of parts that ran were joined: the table notes that these have ended, and what each had is given back, once.
pub record AreCollected (old new : HostState) : Type 0 where
  pub joined : List PartId
  pub ran : All (Ran old.parts) joined
  pub table : new.table ≡ after_ends joined old.table
  pub parts : GoOn old.parts new.parts
  pub each : AreReaped joined old.parts new.parts
  pub returned : HandsOut old.calls new.calls [] joined

-- what a scan of a table returns
pub record IsScan {A : Type 0} (table : TableState) (rows : List Row) (out : ScanOut A) : Type 0 where
  pub starts : out.starts ≡ starts table.slots table.next rows
  pub restarts : out.restarts ≡ restarts table.slots table.next rows
  pub drops : out.drops ≡ drops table.slots rows
  pub refused : out.refused ≡ refused table.slots rows

-- the parts that stay at a scan
abbrev pub staying : {A : Type 0} → ScanOut A → List HostPart → List HostPart
staying out parts = filter (λ (part : HostPart). stays out.drops out.restarts part.id) parts

-- the items whose flags are set
abbrev pub chosen : {A : Type 0} → List Bool → List A → List A
chosen (true ∷ flags) (x ∷ xs) = x ∷ chosen flags xs
chosen (false ∷ flags) (x ∷ xs) = chosen flags xs
chosen flags xs = []

-- Each item is in one of the two lists, in order.
pub record IsParted {A : Type 0} (all ones others : List A) : Type 0 where
  pub flags : List Bool
  pub each : length flags ≡ length all
  pub set : ones ≡ chosen flags all
  pub not_set : others ≡ chosen (map not flags) all

-- what a beginning of parts has come to so far: the parts that the host has, those that failed, and what was asked of
-- the maker
pub record Beginnings : Type 0 where
  pub parts : List HostPart
  pub failed : List PartId
  pub calls : Option (List Call)

abbrev pub beginnings : {R : Type 0} → BegunParts R → Option (List Call) → Beginnings
beginnings begun calls =
    record { parts = begun.parts.items; failed = unmade_ids begun.failed.items; calls = calls }

-- The host now has each part that a scan began, or the part failed. The host has each part for which resources were
-- handed out, or the resources were given back, once. Each was asked for by the name of its slot.
pub record AreBegun (slots : List SlotState) (rows : List Row) (label : Tai64n) (ids : List PartId)
    (old new : Beginnings) : Type 0 where
  pub begun : List HostPart
  pub parts : new.parts ≡ old.parts ++ begun
  pub each : All (Begins slots rows label) begun
  pub parted : IsParted ids (map (λ (part : HostPart). part.id) begun) new.failed
  pub given : List PartId
  pub returned : List PartId
  pub hands : HandsOut old.calls new.calls given returned
  pub given_back : IsParted given (map (λ (part : HostPart). part.id) begun) returned
  pub named : AsksByName slots old.calls new.calls

-- The host now has one more part, with its resources, or the part failed and has none.
abbrev pub IsBegunOne : List SlotState → List Row → Tai64n → PartId → (old new : Beginnings) → Type 0
IsBegunOne slots rows label id old new =
    ((part : HostPart) × (part.id ≡ id) × Begins slots rows label part
    × (new.parts ≡ old.parts ++ part ∷ []) × (new.failed ≡ old.failed)
    × HandsOut old.calls new.calls (id ∷ []) [])
    ⊎ ((new.parts ≡ old.parts) × (new.failed ≡ old.failed ++ id ∷ [])
    × (HandsOutNone old.calls new.calls ⊎ HandsOut old.calls new.calls (id ∷ []) (id ∷ [])))

-- the same for what a scan has begun so far, and for what was asked of its maker
abbrev pub BeginsAll : {R : Type 0} → List SlotState → List Row → Tai64n → List PartId → (old new : BegunParts R)
    → (asked now_asked : Option (List Call)) → Type 0
BeginsAll slots rows label ids old new asked now_asked =
    AreBegun slots rows label ids (beginnings old asked) (beginnings new now_asked)

abbrev pub BeginsOne : {R : Type 0} → List SlotState → List Row → Tai64n → PartId → (old new : BegunParts R)
    → (asked now_asked : Option (List Call)) → Type 0
BeginsOne slots rows label id old new asked now_asked =
    IsBegunOne slots rows label id (beginnings old asked) (beginnings new now_asked)
    × AsksByName slots asked now_asked

-- what was asked of the maker, so that it forgets each slot that was dropped
abbrev pub Forgets : (dropped : List ℕ) → (old new : Option (List Call)) → Type 0
Forgets dropped old new = ExtendedWhileKept old new (map ForgotSlot dropped)

-- A scan: the table accepts the rows, and they are scanned. The host now has each part that starts or restarts, begun
-- by its row or as it was left; if such a part failed, it has ended. The host keeps the other parts that stay. The
-- maker is to forget each slot that is dropped, once, before it is asked for what begins.
pub record IsScanned (old : HostState) (rows : List Row) (label : Tai64n) (out : HostOut) (new : HostState)
    : Type 0 where
  pub accepted : scan_refusal old.table rows ≡ None
  pub scan : IsScan old.table rows out.scan
  pub table : new.table ≡ after_ends (unmade_ids out.failed.items) (scanned old.table rows)
  pub calls : Option (List Call)
  pub forgets : Forgets out.scan.drops old.calls calls
  pub begun : AreBegun (scanned old.table rows).slots rows label (out.scan.starts ++ out.scan.restarts)
      (record { parts = staying out.scan old.parts; failed = []; calls = calls })
      (record { parts = new.parts; failed = unmade_ids out.failed.items; calls = new.calls })

-- Why a scan is refused: what the table says, or out of memory, but only if nothing else is wrong.
abbrev pub IsCause : TableState → List Row → ScanFault → Type 0
IsCause table rows fault.OutOfMemory = scan_refusal table rows ≡ None
IsCause table rows why = scan_refusal table rows ≡ Some why
