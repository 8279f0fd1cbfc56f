-- What a service's world knows between two calls, and what each call does.
use Rattle.std.specs.Prelude.{◌≡◌, ℕ, Bool, true, false, not, ◌||◌, if◌then◌else◌, List, [], ◌∷◌}
use Rattle.std.specs.Prelude.{Option, Some, None, Result}
use Rattle.std.specs.Prelude.{Ok, Err, option_map}
use Rattle.tai_status.specs.Label.{Tai64n}
use Rattle.tai_status.specs.Counted.{Rose}
use Rattle.tai_status.specs.Loading.{loaded_from, status_in}
use Rattle.tai_status.specs.declared.loading.Loaded.{Loaded}
use Rattle.tai_status.specs.declared.record.RecordFault.{RecordFault}
use Rattle.tai_status.specs.declared.record.Want.{Want}
use Rattle.sup_core.specs.declared.asks.Sig.{Sig}
use Rattle.sup_core.specs.declared.asks.Sig.TheVariants as sig
use Rattle.svc_house.specs.declared.call.StartAnswer.{StartAnswer}
use Rattle.svc_house.specs.declared.call.StartAnswer.TheVariants.{Started, Failed}
use Rattle.svc_house.specs.Calls.{ExtendedWhileKept}
use Rattle.svc_record.specs.declared.exit.Exit.{Exit}
use Rattle.svc_record.specs.Exits.{exit_text}
use Rattle.svc_record.specs.Moments.{moment_text}
use Rattle.svc_record.specs.declared.counts.Counts.{Counts}
use Rattle.svc_record.specs.declared.moment.Moment.{Moment}
use Rattle.svc_record.specs.Counts.{counts_text, no_counts, one_started}
use Rattle.svc_record.specs.Process.{is_alive, process_line}
use Rattle.svc_record.specs.Place.{finish_in, intending, occupied, place_line, process_in, vacated, wanting}
use Rattle.svc_record.specs.Leftover.{IsAwaited}
use Rattle.svc_record.specs.Opening.{is_want}
use Rattle.svc_record.specs.declared.process.ProcessId.{ProcessId}
use Rattle.svc_record.specs.declared.place.Place.{Place}
use Rattle.svc_record.specs.declared.leftover.Leftover.{Leftover}
use Rattle.svc_record.specs.declared.leftover.Leftover.TheVariants.{Nobody, Process, Unsure}
use Rattle.svc_world.specs.declared.begin.Death.{Death}
use Rattle.svc_world.specs.declared.begin.LastChild.{LastChild}
use Rattle.svc_world.specs.declared.begin.LastChild.TheVariants.{Gone, Alive, Dead, Held}
use Rattle.svc_world.specs.declared.takeover.Takeover.{Takeover}
use Rattle.svc_world.specs.declared.paper.Owed.{Owed}
use Rattle.svc_world.specs.declared.paper.Paper.{Paper}
use Rattle.svc_world.specs.declared.paper.Paper.TheVariants as paper
use Rattle.svc_world.specs.declared.paper.Remark.{Remark}
use Rattle.svc_world.specs.declared.paper.Remark.TheVariants.{StillRuns, Unwritten, AllWritten}
use Rattle.svc_world.specs.Backoff.{asks_end}
use Rattle.svc_world.specs.Owed.{first_owed, is_owed, nothing_owed, with_owed}
use Rattle.svc_world.specs.Calls.{Call, Spawned, SoughtDeath, Signalled, Wrote, Said, SoughtLeftover, Adopted}
use Rattle.svc_world.specs.Calls.{SoughtTick, ReadTick, ReadClock, ReadSteady, SoughtKillTime, SoughtLate}
use Rattle.svc_world.specs.Calls.{SoughtReady}

pub record Watch : Type 0 where
  -- what was asked of the system, while that is recorded
  pub calls : Option (List Call)
  -- the session of this svscan
  pub session : ℕ
  -- the place of the service, as it is to be on disk
  pub place : Place
  -- whether that place is the intent of an earlier svscan, whose start may have left something over
  pub is_open : Bool
  -- how the last start ended, until that is reported
  pub answer : Option StartAnswer
  -- the last child, or the adopted process
  pub child : LastChild
  -- the last status record that was to be written
  pub status : Option (List ℕ)
  -- how the last child ended
  pub exit : Option Exit
  -- how many children began and ended
  pub counts : Counts
  -- when the last child said that it is ready, if it did
  pub ready : Option Moment
  -- until when the next start waits, if it does
  pub backoff : Option Moment
  -- when processes ended and nobody asked for it: the last four of these ticks
  pub ends : List ℕ
  -- whether a signal asked the last child to end
  pub is_asked : Bool
  -- which papers are still to be written, and whether that was said
  pub owed : Owed
  pub is_said : Bool
  -- how many status records could not be written when they were new
  pub unwritten : ℕ

-- the last child, after a start that made this one, or none
abbrev pub child_of : (child : Option ℕ) → LastChild
child_of None = Gone
child_of (Some pid) = Alive pid

-- A world that begins in this session with what it takes over. Its place is still to be written.
abbrev pub begun : Option (List Call) → (session : ℕ) → Takeover → Watch
begun calls session taken = record {
  calls = calls;
  session = session;
  place = taken.place;
  is_open = taken.is_open;
  answer = None;
  child = child_of (option_map (λ process. process.pid) taken.adopted);
  status = None;
  exit = None;
  counts = no_counts;
  ready = None;
  backoff = None;
  ends = [];
  is_asked = false;
  owed = with_owed paper.Place true nothing_owed;
  is_said = false;
  unwritten = 0;
}

-- A world has this taken over, and nothing else.
abbrev pub HasTaken : Watch → Takeover → Type 0
HasTaken w taken = w ≡ begun w.calls w.session taken

-- Papers

-- A paper with this content was to be written, once, and was or was not. It is owed exactly if it was not.
pub record WritesAs (paper : Paper) (content : List ℕ) (written : Bool) (old new : Watch) : Type 0 where
  pub calls : ExtendedWhileKept old.calls new.calls (Wrote paper content written ∷ [])
  pub stands : new ≡ record old { calls = new.calls; owed = with_owed paper (not written) old.owed }

abbrev pub Writes : (paper : Paper) (content : List ℕ) (old new : Watch) → Type 0
Writes paper content old new = (written : Bool) × WritesAs paper content written old new

-- A paper was to be written, once, if there is content for it.
abbrev pub WritesIfSome : (paper : Paper) (content : Option (List ℕ)) (old new : Watch) → Type 0
WritesIfSome paper None old new = new ≡ old
WritesIfSome paper (Some content) old new = Writes paper content old new

-- the line about a process and a time; nothing if there is none
abbrev pub notice : Option Moment → List ℕ
notice None = []
notice (Some moment) = moment_text moment

-- the present content of a paper
abbrev pub content_of : Paper → Watch → Option (List ℕ)
content_of paper.Place w = Some (place_line w.place)
content_of paper.Process w = option_map process_line (process_in w.place)
content_of paper.Status w = w.status
content_of paper.Exit w = option_map exit_text w.exit
content_of paper.Counts w = Some (counts_text w.counts)
content_of paper.Ready w = Some (notice w.ready)
content_of paper.Backoff w = Some (notice w.backoff)

-- This was said, once.
pub record Says (remark : Remark) (old new : Watch) : Type 0 where
  pub calls : ExtendedWhileKept old.calls new.calls (Said remark ∷ [])
  pub stands : new ≡ record old { calls = new.calls }

-- Mending

-- A paper was to be written again, with its present content, if this holds.
abbrev pub WritesIf : (owed : Bool) (paper : Paper) (old new : Watch) → Type 0
WritesIf false paper old new = new ≡ old
WritesIf true paper old new = WritesIfSome paper (content_of paper old) old new

-- A paper was to be written again, with its present content, if it is owed.
abbrev pub WritesAgain : (paper : Paper) (old new : Watch) → Type 0
WritesAgain paper old new = WritesIf (is_owed paper old.owed) paper old new

-- It is said once that a paper can't be written, and once that all is written again.
abbrev pub SaysChange : (first : Option Paper) (is_said : Bool) (old new : Watch) → Type 0
SaysChange (Some paper) false old new = Says (Unwritten paper) (record old { is_said = true }) new
SaysChange None true old new = Says AllWritten (record old { is_said = false }) new
SaysChange first is_said old new = new ≡ old

-- These papers were to be written again, one after the other, if they are owed.
abbrev pub WritesEach : List Paper → (old new : Watch) → Type 0
WritesEach [] old new = new ≡ old
WritesEach (paper ∷ papers) old new = (mid : Watch) × WritesAgain paper old mid × WritesEach papers mid new

-- all papers, in the order in which they are written again
abbrev pub papers : List Paper
papers = (
    paper.Place ∷ paper.Process ∷ paper.Status ∷ paper.Exit ∷ paper.Counts ∷ paper.Ready ∷ paper.Backoff ∷ [])

-- Readiness

-- It was sought when the last child said that it is ready.
pub record SeeksReady (ready : Option Tai64n) (old new : Watch) : Type 0 where
  pub calls : ExtendedWhileKept old.calls new.calls (SoughtReady ready ∷ [])
  pub stands : new ≡ record old { calls = new.calls }

-- a world whose last child is ready, or is not
abbrev pub with_ready : Option Moment → Watch → Watch
with_ready ready w = record w { ready = ready }

-- It was noted that the child with this number is ready, if it said so.
abbrev pub NotesReady : (pid : ℕ) (ready : Option Tai64n) (old new : Watch) → Type 0
NotesReady pid None old new = new ≡ old
NotesReady pid (Some label) old new =
    Writes paper.Ready (moment_text (record { pid = pid; label = label }))
    (with_ready (Some (record { pid = pid; label = label })) old) new

-- It was asked whether the child with this number said that it is ready, and noted if it did.
pub record AsksReady (pid : ℕ) (old new : Watch) : Type 0 where
  pub ready : Option Tai64n
  pub sought : Watch
  pub seeks : SeeksReady ready old sought
  pub notes : NotesReady pid ready sought new

-- That is asked of a child whose death is not known, until it is ready.
abbrev pub LooksReady : LastChild → Option Moment → (old new : Watch) → Type 0
LooksReady (Alive pid) None old new = AsksReady pid old new
LooksReady child ready old new = new ≡ old

-- Each owed paper was to be written again, once, with its present content. After that, it is said if something changed,
-- and it is asked whether the child is ready.
pub record Mends (old new : Watch) : Type 0 where
  pub all : Watch
  pub said : Watch
  pub papers : WritesEach papers old all
  pub says : SaysChange (first_owed all.owed) all.is_said all said
  pub looks : LooksReady said.child said.ready said new

-- Starts

-- What is left over from the start that an earlier svscan intended was sought, if that is open. It stays open while it
-- is not sure what is left over. If that start was of the service's `finish`, no process is adopted.
abbrev pub stays_open : Leftover → Bool
stays_open (Unsure pid) = true
stays_open other = false

pub record SoughtOpen (found : Leftover) (old new : Watch) : Type 0 where
  pub awaited : old.place.is_finish ≡ true → IsAwaited found
  pub calls : ExtendedWhileKept old.calls new.calls (SoughtLeftover old.place found ∷ [])
  pub stands : new ≡ record old { calls = new.calls; is_open = stays_open found }

abbrev pub SeeksLeftover : (is_open : Bool) (found : Leftover) (old new : Watch) → Type 0
SeeksLeftover false found old new = (found ≡ Nobody) × (new ≡ old)
SeeksLeftover true found old new = SoughtOpen found old new

-- The clock was read, once.
pub record ReadsClock (label : Tai64n) (old new : Watch) : Type 0 where
  pub calls : ExtendedWhileKept old.calls new.calls (ReadClock label ∷ [])
  pub stands : new ≡ record old { calls = new.calls }

-- The time was read that does not go back with the clock, once.
pub record ReadsSteady (label : Tai64n) (old new : Watch) : Type 0 where
  pub calls : ExtendedWhileKept old.calls new.calls (ReadSteady label ∷ [])
  pub stands : new ≡ record old { calls = new.calls }

-- The present tick was read, once.
pub record ReadsTick (tick : ℕ) (old new : Watch) : Type 0 where
  pub calls : ExtendedWhileKept old.calls new.calls (ReadTick tick ∷ [])
  pub stands : new ≡ record old { calls = new.calls }

-- how a start ended that made this child, or none
abbrev pub answer_of : (child : Option ℕ) (label : Tai64n) → StartAnswer
answer_of None label = Failed label
answer_of (Some pid) label = Started pid label

-- a world with this place
abbrev pub with_place : Place → Watch → Watch
with_place place w = record w { place = place }

-- The intent of a start was to be written into the place, once, and was or was not.
pub record Intends (written : Bool) (old new : Watch) : Type 0 where
  pub tick : ℕ
  pub timed : Watch
  pub reads : ReadsTick tick old timed
  pub writes : WritesAs paper.Place (place_line (intending timed.place tick timed.session)) written
      (with_place (intending timed.place tick timed.session) timed) new

-- One child was spawned if the intent is in the place, and none otherwise.
pub record Spawns (child : Option ℕ) (old new : Watch) : Type 0 where
  pub calls : ExtendedWhileKept old.calls new.calls (Spawned child ∷ [])
  pub stands : new ≡ record old { calls = new.calls }

abbrev pub SpawnsIf : (intended : Bool) (child : Option ℕ) (old new : Watch) → Type 0
SpawnsIf false child old new = (child ≡ None) × (new ≡ old)
SpawnsIf true child old new = Spawns child old new

-- The process with this number was recorded in the place, and then as the process of the service, if the tick at which
-- it began was found. If it was not found, the intent stays in the place.
abbrev pub RecordsAt : (tick : Option ℕ) (pid : ℕ) (old new : Watch) → Type 0
RecordsAt None pid old new = new ≡ old
RecordsAt (Some tick) pid old new =
    (mid : Watch)
    × Writes paper.Place (place_line (occupied old.place pid tick)) (with_place (occupied old.place pid tick) old) mid
    × WritesIfSome paper.Process (content_of paper.Process mid) mid new

-- The tick at which a process began was sought.
pub record SeeksTick (pid : ℕ) (tick : Option ℕ) (old new : Watch) : Type 0 where
  pub calls : ExtendedWhileKept old.calls new.calls (SoughtTick pid tick ∷ [])
  pub stands : new ≡ record old { calls = new.calls }

pub record RecordsProcess (pid : ℕ) (old new : Watch) : Type 0 where
  pub tick : Option ℕ
  pub sought : Watch
  pub seeks : SeeksTick pid tick old sought
  pub records : RecordsAt tick pid sought new

-- a world in which one more child has begun
abbrev pub with_start : Watch → Watch
with_start w = record w { counts = one_started w.counts }

-- A start that made this child was recorded: its process first, and then the counts, which have one more.
pub record RecordsChild (pid : ℕ) (old new : Watch) : Type 0 where
  pub mid : Watch
  pub process : RecordsProcess pid old mid
  pub counts : Writes paper.Counts (counts_text (one_started mid.counts)) (with_start mid) new

-- No start is intended any more: the place was to be written accordingly, once.
abbrev pub Vacates : (old new : Watch) → Type 0
Vacates old new = Writes paper.Place (place_line (vacated old.place)) (with_place (vacated old.place) old) new

abbrev pub RecordsStart : (child : Option ℕ) (old new : Watch) → Type 0
RecordsStart None old new = Vacates old new
RecordsStart (Some pid) old new = RecordsChild pid old new

-- a world in which this child, or none, is the answer to a start at this time
abbrev pub answered : (child : Option ℕ) (label : Tai64n) → Watch → Watch
answered child label w =
    record w { answer = Some (answer_of child label); child = child_of child; is_asked = false }

-- The service was run: the intent was written into its place, and only if that was written, one child was then spawned.
-- If there is a child, its process was recorded. If there is none, it was recorded that no start is intended any more.
pub record Runs (label : Tai64n) (old new : Watch) : Type 0 where
  pub written : Bool
  pub child : Option ℕ
  pub intended : Watch
  pub spawned : Watch
  pub intends : Intends written old intended
  pub spawns : SpawnsIf written child intended spawned
  pub records : RecordsStart child (answered child label spawned) new

-- The process that was left over was adopted, as the one that the start made, and recorded. None was spawned.
pub record Adopts (pid tick : ℕ) (old new : Watch) : Type 0 where
  pub calls : ExtendedWhileKept old.calls new.calls (Adopted pid tick ∷ [])
  pub stands : new ≡ record old { calls = new.calls }

pub record TakesUp (pid tick : ℕ) (label : Tai64n) (old new : Watch) : Type 0 where
  pub adopted : Watch
  pub adopts : Adopts pid tick old adopted
  pub records : RecordsStart (Some pid) (answered (Some pid) label adopted) new

-- What is asked to bound a `finish`. It is sought whether its time is over. If it is, the tick is sought at which the
-- process with its number began. Only if that is its own tick, KILL is sent, right after that.
abbrev pub bound_calls : ProcessId → (late : Bool) → (tick : Option ℕ) → List Call
bound_calls process false tick = SoughtLate process.tick false ∷ []
bound_calls process true tick =
    SoughtLate process.tick true ∷ SoughtTick process.pid tick
    ∷ (if is_alive process tick then Signalled sig.KILL process.pid ∷ [] else [])

-- This `finish` was bounded. Nothing else was done.
pub record BoundsOne (process : ProcessId) (old new : Watch) : Type 0 where
  pub late : Bool
  pub tick : Option ℕ
  pub calls : ExtendedWhileKept old.calls new.calls (bound_calls process late tick)
  pub stands : new ≡ record old { calls = new.calls }

-- The `finish` in the place gets KILL if its time is over.
abbrev pub Bounds : (finish : Option ProcessId) (old new : Watch) → Type 0
Bounds None old new = new ≡ old
Bounds (Some process) old new = BoundsOne process old new

-- No process is spawned, since this one may still run: this is said, and the start fails. If it is a `finish`, it gets
-- KILL if its time is over.
pub record Waits (pid : ℕ) (label : Tai64n) (old new : Watch) : Type 0 where
  pub said : Watch
  pub says : Says (StillRuns pid) (answered None label old) said
  pub bounds : Bounds (finish_in old.place) said new

-- How a start continues, by what is left over: the service is run; or the process left over is adopted; or the start
-- fails, since this process may still run.
abbrev pub StartsBy : Leftover → (label : Tai64n) (old new : Watch) → Type 0
StartsBy Nobody label old new = Runs label old new
StartsBy (Process pid tick) label old new = TakesUp pid tick label old new
StartsBy (Unsure pid) label old new = Waits pid label old new

-- A start: what is left over from an earlier one is sought, if that is open; the clock is read; and the start continues
-- by what was found.
pub record Starts (old new : Watch) : Type 0 where
  pub found : Leftover
  pub label : Tai64n
  pub sought : Watch
  pub timed : Watch
  pub seeks : SeeksLeftover old.is_open found old sought
  pub reads : ReadsClock label sought timed
  pub starts : StartsBy found label timed new

-- Signals

-- the exit of the child with this number that died this way
abbrev pub exit_of : (pid : ℕ) → Death → Exit
exit_of pid death = record { pid = pid; ending = death.ending; label = death.label }

-- what is sent to a child for which this death, or none, was found
abbrev pub sent : Sig → (pid : ℕ) → (death : Option Death) → List Call
sent sig pid None = Signalled sig pid ∷ []
sent sig pid (Some death) = []

-- the child, after its death was sought and before it is reported
abbrev pub found : (pid : ℕ) (death : Option Death) → LastChild
found pid None = Alive pid
found pid (Some death) = Dead (exit_of pid death)

-- A signal to the last child, whose death is not known: its death is sought, and the signal is sent only if there is
-- none. A death that is found is kept, to be reported. It is noted that the child is asked to end, if the signal does
-- that.
pub record SignalsChild (sig : Sig) (pid : ℕ) (old new : Watch) : Type 0 where
  pub death : Option Death
  pub calls : ExtendedWhileKept old.calls new.calls (SoughtDeath death ∷ sent sig pid death)
  pub stands : new ≡ record old {
    calls = new.calls;
    child = found pid death;
    is_asked = old.is_asked || asks_end sig;
  }

-- The seconds after which a service that was asked to go gets KILL were sought, once.
pub record AsksKillTime (seconds : Option ℕ) (old new : Watch) : Type 0 where
  pub calls : ExtendedWhileKept old.calls new.calls (SoughtKillTime seconds ∷ [])
  pub stands : new ≡ record old { calls = new.calls }

-- The same for the last child: a child whose death is known, or none, never gets KILL.
abbrev pub SeeksKillTime : LastChild → (seconds : Option ℕ) → (old new : Watch) → Type 0
SeeksKillTime (Alive pid) seconds old new = AsksKillTime seconds old new
SeeksKillTime child seconds old new = (seconds ≡ None) × (new ≡ old)

-- Records

-- what a status record that was read says is wanted, or what was wanted before if it could not be read
abbrev pub want_loaded : Result Loaded RecordFault → (before : Want) → Want
want_loaded (Ok loaded) before = (status_in loaded).want
want_loaded (Err fault) before = before

-- The count rises if a record was not written.
abbrev pub CountsUnwritten : (written : Bool) → ℕ → ℕ → Type 0
CountsUnwritten true old new = new ≡ old
CountsUnwritten false old new = Rose old new

-- the papers that are owed once this is wanted: the place too, if that is not what was wanted before
abbrev pub owed_wanting : (want before : Want) → Owed → Owed
owed_wanting want before owed = if is_want want before then owed else with_owed paper.Place true owed

-- a world in which this is wanted
abbrev pub wanted : Want → Watch → Watch
wanted want w = record w { place = wanting w.place want; owed = owed_wanting want w.place.want w.owed }

-- a world in which this status record says what is wanted
abbrev pub with_want : (bytes : List ℕ) → Watch → Watch
with_want bytes w = wanted (want_loaded (loaded_from bytes) w.place.want) w

-- the last child, if the start after it waits no longer
abbrev pub released : LastChild → LastChild
released (Held exit until) = Held exit 0
released child = child

-- a world with this status record; a new record ends the wait of a start
abbrev pub with_status : (bytes : List ℕ) → Watch → Watch
with_status bytes w = record w { status = Some bytes; child = released w.child }

-- A record that was not written when it was new is counted.
pub record CountsRecord (written : Bool) (old new : Watch) : Type 0 where
  pub counts : CountsUnwritten written old.unwritten new.unwritten
  pub stands : new ≡ record old { unwritten = new.unwritten }

-- A status record is to be written, once, and before it the place, if it is owed: what is wanted is new, or an earlier
-- write failed. A record that can't be written is counted and owed, and has no other effect.
pub record Records (bytes : List ℕ) (old new : Watch) : Type 0 where
  pub placed : Watch
  pub done : Watch
  pub written : Bool
  pub place : WritesAgain paper.Place (with_want bytes old) placed
  pub status : WritesAs paper.Status bytes written (with_status bytes placed) done
  pub counts : CountsRecord written done new
