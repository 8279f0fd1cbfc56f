-- What a host knows of its parts.
use Rattle.std.specs.Prelude.{◌≡◌, ◌≢◌, ◌<◌, ⊤, Bool, true, false, not, ◌&&◌, ◌||◌, ◌==◌, nat_lt, ℕ, List, [], ◌∷◌}
use Rattle.std.specs.Prelude.{◌++◌, length}
use Rattle.std.specs.Prelude.{map, slice_index_or, slice_set, Option, None}
use Rattle.std.specs.List.{filter, list_any, All}
use Rattle.tai_status.specs.Record.{Status}
use Rattle.sup_core.specs.declared.event.Event.{Event}
use Rattle.tai_status.specs.declared.phase.Phase.TheVariants as phase
use Rattle.sup_core.specs.History.{History, Opened, phase_of, status_of}
use Rattle.sup_core.specs.Runs.{AreTaken, followed_by}
use Rattle.scan_table.specs.declared.part.PartId.{PartId}
use Rattle.scan_table.specs.declared.part.Role.{Role}
use Rattle.scan_table.specs.declared.part.Role.TheVariants.{Main}
use Rattle.scan_table.specs.Table.{is_at}
use Rattle.svc_station.specs.declared.rule.Origin.{Origin}
use Rattle.svc_mail.specs.declared.sender.Sender.{Sender}
use Rattle.svc_station.specs.declared.reader.Reader.{Reader}
use Rattle.svc_station.specs.Ends.{known_to, reader_station}
use Rattle.svc_record.specs.declared.opening.Opening.{Opening}
use Rattle.svc_host.specs.declared.part.Loss.{Loss}
use Rattle.svc_host.specs.Mails.{Mail, WasFull, mail_of}

-- whether the bytes that end a service, `d` and `x`, were posted in the end of all services
pub record EndBytes : Type 0 where
  pub down : Bool
  pub exit : Bool

abbrev pub no_end_bytes : EndBytes
no_end_bytes = record { down = false; exit = false }

-- A part that the host has. The record says how it began, the station to which its thread publishes, and which of its
-- events the host has read. It has the host's end of its mailbox, and says whether its thread was joined.
pub record HostPart : Type 0 where
  pub id : PartId
  pub opening : Opening
  -- the number of the process that an earlier svscan started for it; 0 means none
  pub adopted : ℕ
  pub station : Origin
  pub known : List Event
  pub mail : Mail
  pub end_bytes : EndBytes
  -- the number of events in the trace that was last kept
  pub kept : Option ℕ
  pub has_ended : Bool
  -- the number of letters that its service left in its mailbox, as far as they were taken since
  pub untaken : ℕ
  -- what was lost when it ended, and is not forgotten
  pub loss : Loss

abbrev pub no_loss : Loss
no_loss = record { untaken = 0; lacks_trace = false }

-- a part that runs and began this way, with this adopted process, this reader of its station and this sender of its
-- mailbox
abbrev pub new_part : {A : Type 0} → PartId → Opening → (adopted : ℕ) → Reader → Sender ℕ A → HostPart
new_part id opening adopted reader sender = record {
  id = id;
  opening = opening;
  adopted = adopted;
  station = reader_station reader;
  known = known_to reader;
  mail = mail_of sender;
  end_bytes = no_end_bytes;
  kept = None;
  has_ended = false;
  untaken = 0;
  loss = no_loss;
}

-- the machine with which the part's station was opened, and those of its events that the host has read
abbrev pub history_of : HostPart → History
history_of part = followed_by (Opened part.station.opening) part.known

-- More events of a history are known. Each of them was taken when it came.
pub record Tells (past : History) (old new : List Event) : Type 0 where
  pub more : List Event
  pub known : new ≡ old ++ more
  pub taken : AreTaken past more

-- If a part has ended, all its events were read: it is gone.
abbrev pub IsGoneIfEnded : HostPart → Type 0
IsGoneIfEnded part = part.has_ended ≡ true → phase_of (history_of part) ≡ phase.Gone

-- It is the same part, and its events continue those that the host had read. The host posted nothing to it.
pub record PartGoesOn (old new : HostPart) : Type 0 where
  pub id : new.id ≡ old.id
  pub opening : new.opening ≡ old.opening
  pub adopted : new.adopted ≡ old.adopted
  pub station : new.station ≡ old.station
  pub known : Tells (history_of old) old.known new.known
  pub mail : new.mail ≡ old.mail
  pub end_bytes : new.end_bytes ≡ old.end_bytes

-- The host has read some of its events, and its trace may have been kept. Nothing else of it changed.
pub record IsHeard (old new : HostPart) : Type 0 where
  pub goes_on : PartGoesOn old new
  pub has_ended : new.has_ended ≡ old.has_ended
  pub untaken : new.untaken ≡ old.untaken
  pub loss : new.loss ≡ old.loss

-- The host has read some of its events, and nothing else of it changed.
pub record IsRead (old new : HostPart) : Type 0 where
  pub is_heard : IsHeard old new
  pub kept : new.kept ≡ old.kept

-- The host posted this byte to it, and nothing else of it changed.
pub record HasPosted (old : HostPart) (byte : ℕ) (new : HostPart) : Type 0 where
  pub id : new.id ≡ old.id
  pub opening : new.opening ≡ old.opening
  pub adopted : new.adopted ≡ old.adopted
  pub station : new.station ≡ old.station
  pub known : new.known ≡ old.known
  pub posted : new.mail.posted ≡ old.mail.posted ++ byte ∷ []
  pub end_bytes : new.end_bytes ≡ old.end_bytes
  pub kept : new.kept ≡ old.kept
  pub has_ended : new.has_ended ≡ old.has_ended
  pub untaken : new.untaken ≡ old.untaken
  pub loss : new.loss ≡ old.loss

-- Nothing was posted, because the mailbox was full, and nothing of the part changed.
abbrev pub IsRefused : HostPart → HostPart → Type 0
IsRefused old new = (new ≡ old) × WasFull old.mail

-- The host has no such part.
abbrev pub IsNowhere : PartId → List HostPart → Type 0
IsNowhere id parts = All (λ (part : HostPart). part.id ≢ id) parts

-- The part is at this place.
pub record IsPlace (id : PartId) (parts : List HostPart) (place : ℕ) : Type 0 where
  pub within : place < length parts
  pub here : (d : HostPart) → (slice_index_or parts place d).id ≡ id

-- The host has this part, and this is what it knows of it.
pub record IsPart (id : PartId) (parts : List HostPart) (part : HostPart) : Type 0 where
  pub place : ℕ
  pub within : place < length parts
  pub here : (d : HostPart) → slice_index_or parts place d ≡ part
  pub is : part.id ≡ id

-- The parts are the same, in the same order, and each one changed this way.
abbrev pub AreEach : (HostPart → HostPart → Type 0) → (olds news : List HostPart) → Type 0
AreEach Changed [] [] = ⊤
AreEach Changed (old ∷ olds) (new ∷ news) = Changed old new × AreEach Changed olds news
AreEach Changed olds news = ⊥

-- The events of each part continue.
abbrev pub GoOn : (olds news : List HostPart) → Type 0
GoOn = AreEach PartGoesOn

-- The host may have read more events of each part.
abbrev pub AreHeard : (olds news : List HostPart) → Type 0
AreHeard = AreEach IsHeard

-- One of them changed this way, and the others are as they were.
pub record IsStepOf (Changed : HostPart → HostPart → Type 0) (old : List HostPart) (place : ℕ) (new : List HostPart)
    : Type 0 where
  pub part : HostPart
  pub changed : (d : HostPart) → Changed (slice_index_or old place d) part
  pub parts : new ≡ slice_set old place part

-- The events of one of them continue.
abbrev pub IsStep : (old : List HostPart) → (place : ℕ) → (new : List HostPart) → Type 0
IsStep = IsStepOf PartGoesOn

-- The host may have read more events of one of them.
abbrev pub IsHearing : (old : List HostPart) → (place : ℕ) → (new : List HostPart) → Type 0
IsHearing = IsStepOf IsHeard

-- A control byte was posted to the part, and nothing else of the parts changed.
pub record IsPost (old : List HostPart) (id : PartId) (byte : ℕ) (new : List HostPart) : Type 0 where
  pub place : ℕ
  pub part : HostPart
  pub here : (d : HostPart) → HasPosted (slice_index_or old place d) byte part
  pub is : part.id ≡ id
  pub parts : new ≡ slice_set old place part

-- The mailbox of this part was full.
pub record IsFullAt (id : PartId) (parts : List HostPart) : Type 0 where
  pub place : ℕ
  pub at : IsPlace id parts place
  pub full : (d : HostPart) → WasFull (slice_index_or parts place d).mail

abbrev pub has_loss : Loss → Bool
has_loss loss = loss.lacks_trace || nat_lt 0 loss.untaken

-- what the parts lost when they ended and is not forgotten, in the order of the parts
abbrev pub losses_in : List HostPart → List (PartId × Loss)
losses_in parts =
    map (λ (part : HostPart). (part.id, part.loss)) (filter (λ (part : HostPart). has_loss part.loss) parts)

-- the part, with its loss forgotten
abbrev pub without_loss : HostPart → HostPart
without_loss part = record part { loss = no_loss }

-- The status of the part, after those of its events that the host has read.
pub record IsReading (id : PartId) (parts : List HostPart) (status : Status) : Type 0 where
  pub part : HostPart
  pub is : IsPart id parts part
  pub reading : status ≡ status_of (history_of part)
  -- If the part has ended, all its events were read.
  pub gone : IsGoneIfEnded part

-- Its thread was joined, and the letters left in its mailbox are noted as lost.
pub record IsJoined (part : HostPart) : Type 0 where
  pub ended : part.has_ended ≡ true
  pub untaken : part.loss.untaken ≡ part.untaken

-- Whether a part stays at a scan: its slot is not dropped, and it does not restart.
abbrev pub stays : List ℕ → List PartId → PartId → Bool
stays drops restarts id =
    not (list_any (λ slot. slot == id.slot) drops)
    && not (list_any (λ other. is_at other id.slot id.role) restarts)

-- whether it is the part with this role in a slot, and runs
abbrev pub runs_at : (slot : ℕ) → Role → HostPart → Bool
runs_at slot role part = is_at part.id slot role && not part.has_ended

-- The part with this role in a slot is at this place, and runs.
pub record RunsHere (slot : ℕ) (role : Role) (parts : List HostPart) (place : ℕ) : Type 0 where
  pub within : place < length parts
  pub runs : (d : HostPart) → runs_at slot role (slice_index_or parts place d) ≡ true

-- whether the service itself runs in a slot
abbrev pub service_runs : (slot : ℕ) → List HostPart → Bool
service_runs slot parts = list_any (runs_at slot Main) parts

-- the parts that run
abbrev pub running_ids : List HostPart → List PartId
running_ids parts = map (λ (part : HostPart). part.id) (filter (λ (part : HostPart). not part.has_ended) parts)

-- how many parts run
abbrev pub count_running : List HostPart → ℕ
count_running parts = length (filter (λ (part : HostPart). not part.has_ended) parts)
