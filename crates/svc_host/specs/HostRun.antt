-- A whole run of a host: scans, events that it reads, threads that it joins, and what changes none of these.
use Rattle.std.specs.Prelude.{◌≡◌, ⊤, true, false, List, [], ◌∷◌, ◌++◌, Option}
use Rattle.tai_status.specs.Label.{Tai64n}
use Rattle.tai_status.specs.declared.phase.Phase.TheVariants as phase
use Rattle.sup_core.specs.declared.event.Event.{Event}
use Rattle.sup_core.specs.History.{phase_of}
use Rattle.sup_core.specs.Rules.{IsEvent, takes}
use Rattle.scan_table.specs.declared.part.PartId.{PartId}
use Rattle.scan_table.specs.Slots.{Row}
use Rattle.scan_table.specs.Table.{after_end, new_table}
use Rattle.svc_host.specs.declared.host.HostOut.{HostOut}
use Rattle.svc_host.specs.Calls.{Call}
use Rattle.svc_host.specs.Parts.{AreEach, HostPart, history_of}
use Rattle.svc_host.specs.Rounds.{HostState, IsScanned}

-- One of these parts has changed this way, and the others are as they were.
pub record OneHas (Changed : HostPart → HostPart → Type 0) (olds news : List HostPart) : Type 0 where
  pub before : List HostPart
  pub old : HostPart
  pub new : HostPart
  pub after : List HostPart
  pub olds_are : olds ≡ before ++ old ∷ after
  pub news_are : news ≡ before ++ new ∷ after
  pub changed : Changed old new

-- The host has read one more event of a part. The part took the event when it came.
pub record HasHeard (event : Event) (old new : HostPart) : Type 0 where
  pub id : new.id ≡ old.id
  pub station : new.station ≡ old.station
  pub is : IsEvent event
  pub taken : takes (history_of old) event ≡ true
  pub known : new.known ≡ old.known ++ event ∷ []
  pub has_ended : new.has_ended ≡ old.has_ended

-- The thread of this part was joined. The part is gone, as the host has read.
pub record HasEnded (id : PartId) (old new : HostPart) : Type 0 where
  pub was : old.id ≡ id
  pub is : new.id ≡ id
  pub station : new.station ≡ old.station
  pub known : new.known ≡ old.known
  pub gone : phase_of (history_of old) ≡ phase.Gone
  pub ran : old.has_ended ≡ false
  pub ended : new.has_ended ≡ true

-- What the host knows of the part's events and of its thread is unchanged.
pub record IsAsKnown (old new : HostPart) : Type 0 where
  pub id : new.id ≡ old.id
  pub station : new.station ≡ old.station
  pub known : new.known ≡ old.known
  pub has_ended : new.has_ended ≡ old.has_ended

abbrev pub AreAsKnown : (olds news : List HostPart) → Type 0
AreAsKnown = AreEach IsAsKnown

-- What a host does: it scans these rows; it reads this event of one part; it joins the thread of this part; or it posts
-- bytes, keeps traces, counts losses or forgets them.
pub data Move : Type 0 where
  Scans : (rows : List Row) → (label : Tai64n) → (out : HostOut) → Move
  Hears : (event : Event) → Move
  Ends : (id : PartId) → Move
  Stays : Move

abbrev pub IsMove : Move → (old new : HostState) → Type 0
IsMove (Scans rows label out) old new = IsScanned old rows label out new
IsMove (Hears event) old new = (new.table ≡ old.table) × OneHas (HasHeard event) old.parts new.parts
IsMove (Ends id) old new = (new.table ≡ after_end old.table id) × OneHas (HasEnded id) old.parts new.parts
IsMove Stays old new = (new.table ≡ old.table) × AreAsKnown old.parts new.parts

-- One move is made after the other.
abbrev pub HostRun : List Move → (old new : HostState) → Type 0
HostRun [] old new = new ≡ old
HostRun (move ∷ moves) old new = (next : HostState) × IsMove move old next × HostRun moves next new

-- A run of a host: these moves were made.
pub record Runs (old new : HostState) : Type 0 where
  pub moves : List Move
  pub run : HostRun moves old new

-- The host results from a run of a host that had no part.
pub record CameToBe (host : HostState) : Type 0 where
  pub calls : Option (List Call)
  pub runs : Runs (record { table = new_table 0; parts = []; calls = calls }) host
