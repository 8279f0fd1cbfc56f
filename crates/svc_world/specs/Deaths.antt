-- How the world of a service learns of a death, and when it reports it.
use Rattle.std.specs.Prelude.{◌≡◌, ◌⊎◌, ℕ, nat_le, Bool, true, false, not, [], ◌∷◌, ◌++◌}
use Rattle.std.specs.Prelude.{Option, Some, None}
use Rattle.tai_status.specs.Label.{Tai64n}
use Rattle.tai_status.specs.declared.record.Want.{Want}
use Rattle.tai_status.specs.declared.record.Want.TheVariants.{Up}
use Rattle.svc_house.specs.Calls.{ExtendedWhileKept}
use Rattle.svc_record.specs.declared.exit.Exit.{Exit}
use Rattle.svc_record.specs.Exits.{exit_text}
use Rattle.svc_record.specs.Moments.{moment_text}
use Rattle.svc_record.specs.declared.moment.Moment.{Moment}
use Rattle.svc_record.specs.Counts.{counts_text, one_ended}
use Rattle.svc_record.specs.Place.{finish_in, finishing, place_line}
use Rattle.svc_world.specs.declared.begin.Death.{Death}
use Rattle.svc_world.specs.declared.begin.LastChild.{LastChild}
use Rattle.svc_world.specs.declared.begin.LastChild.TheVariants.{Gone, Alive, Dead, Finishing, Ended, Held}
use Rattle.svc_world.specs.declared.paper.Paper.TheVariants as paper
use Rattle.svc_world.specs.Backoff.{is_fifth, last_four, seconds_after, tick_after}
use Rattle.svc_world.specs.Calls.{Lingered, SoughtBackoff, SoughtDeath, SoughtFinish, SpawnedFinish}
use Rattle.svc_world.specs.Watch.{Bounds, ReadsClock, ReadsTick, RecordsProcess, Vacates, Watch, Writes, WritesAs}
use Rattle.svc_world.specs.Watch.{exit_of, with_place, with_ready}

-- a world whose child ended this way
abbrev pub with_exit : Exit → Watch → Watch
with_exit exit w = record w { exit = Some exit }

-- a world in which a child has ended this way
abbrev pub bereft : Exit → Watch → Watch
bereft exit w = record w { child = Gone; exit = Some exit; counts = one_ended w.counts }

-- A death is reported, and no longer kept. How the child ended is to be written, once, and then the counts, in which
-- one more has ended.
pub record ReportsDeath (exit : Exit) (old new : Watch) : Type 0 where
  pub mid : Watch
  pub exit_written : Writes paper.Exit (exit_text exit) (bereft exit old) mid
  pub counts_written : Writes paper.Counts (counts_text (one_ended old.counts)) mid new

-- Many ends

-- It was sought for how many seconds the next start waits after many ends.
pub record AsksBackoff (seconds : Option ℕ) (old new : Watch) : Type 0 where
  pub calls : ExtendedWhileKept old.calls new.calls (SoughtBackoff seconds ∷ [])
  pub stands : new ≡ record old { calls = new.calls }

-- No start waits after an end that somebody asked for, nor if the service is not to be up.
abbrev pub SeeksBackoff : (is_asked : Bool) → Want → (seconds : Option ℕ) → (old new : Watch) → Type 0
SeeksBackoff false Up seconds old new = AsksBackoff seconds old new
SeeksBackoff is_asked want seconds old new = (seconds ≡ None) × (new ≡ old)

-- a world in which one more process ended at this tick, and nobody asked for it
abbrev pub with_unasked : (tick : ℕ) → Watch → Watch
with_unasked tick w = record w { ends = last_four (w.ends ++ tick ∷ []) }

-- a world in which the death of a process is kept until a tick, and the start after it until a time
abbrev pub with_hold : Exit → (until : ℕ) → (label : Tai64n) → Watch → Watch
with_hold exit until label w =
    record w { child = Held exit until; backoff = Some (record { pid = exit.pid; label = label }) }

-- A death is kept for this many seconds from this tick on, and it was to be written until when the next start waits.
pub record KeepsUntil (tick seconds : ℕ) (exit : Exit) (old new : Watch) : Type 0 where
  pub label : Tai64n
  pub timed : Watch
  pub reads : ReadsClock label old timed
  pub writes : Writes paper.Backoff (moment_text (record { pid = exit.pid; label = seconds_after seconds label }))
      (with_hold exit (tick_after seconds tick) (seconds_after seconds label) timed) new

-- The start after this end waits for this many seconds from this tick on. How the child ended was to be written first.
pub record Holds (tick seconds : ℕ) (exit : Exit) (old new : Watch) : Type 0 where
  pub noted : Watch
  pub notes : Writes paper.Exit (exit_text exit) (with_exit exit old) noted
  pub keeps : KeepsUntil tick seconds exit noted new

-- A death that nobody asked for: after the fifth within a minute, the next start waits. Otherwise the death is
-- reported.
abbrev pub HoldsOrReports : (is_fifth : Bool) (tick seconds : ℕ) → Exit → (death : Option Tai64n) (old new : Watch)
    → Type 0
HoldsOrReports true tick seconds exit death old new = (death ≡ None) × Holds tick seconds exit old new
HoldsOrReports false tick seconds exit death old new = (death ≡ Some exit.label) × ReportsDeath exit old new

-- The present tick was read, and the end was counted.
pub record CountsEnd (seconds : ℕ) (exit : Exit) (death : Option Tai64n) (old new : Watch) : Type 0 where
  pub tick : ℕ
  pub timed : Watch
  pub reads : ReadsTick tick old timed
  pub does : HoldsOrReports (is_fifth tick timed.ends) tick seconds exit death (with_unasked tick timed) new

abbrev pub CountsIfSome : (seconds : Option ℕ) → Exit → (death : Option Tai64n) (old new : Watch) → Type 0
CountsIfSome None exit death old new = (death ≡ Some exit.label) × ReportsDeath exit old new
CountsIfSome (Some seconds) exit death old new = CountsEnd seconds exit death old new

-- A death that no longer waits for control bytes: it is reported, or the next start waits.
pub record PassesDeath (exit : Exit) (death : Option Tai64n) (old new : Watch) : Type 0 where
  pub seconds : Option ℕ
  pub sought : Watch
  pub seeks : SeeksBackoff old.is_asked old.place.want seconds old sought
  pub counts : CountsIfSome seconds exit death sought new

-- a world in which no start waits
abbrev pub with_no_backoff : Watch → Watch
with_no_backoff w = record w { backoff = None }

-- The wait of a start is over: its file was to be removed, and then the death was reported.
pub record EndsHold (exit : Exit) (death : Option Tai64n) (old new : Watch) : Type 0 where
  pub mid : Watch
  pub reported : death ≡ Some exit.label
  pub removes : Writes paper.Backoff [] (with_no_backoff old) mid
  pub reports : ReportsDeath exit mid new

-- The wait of a start goes on before its tick, and ends at it.
abbrev pub HoldsOn : (is_over : Bool) → Exit → (death : Option Tai64n) (old new : Watch) → Type 0
HoldsOn false exit death old new = (death ≡ None) × (new ≡ old)
HoldsOn true exit death old new = EndsHold exit death old new

-- The present tick was read, to find whether a start still waits.
pub record LooksHeld (exit : Exit) (until : ℕ) (death : Option Tai64n) (old new : Watch) : Type 0 where
  pub tick : ℕ
  pub timed : Watch
  pub reads : ReadsTick tick old timed
  pub does : HoldsOn (nat_le until tick) exit death timed new

-- a world whose child has ended, with its `finish`, and the death is not reported yet
abbrev pub with_end : Exit → Watch → Watch
with_end exit w = record w { child = Ended exit }

-- A death whose `finish` is over is kept while control bytes come, and otherwise passed on.
abbrev pub KeepsOrReports : (waits : Bool) → Exit → (death : Option Tai64n) (old new : Watch) → Type 0
KeepsOrReports true exit death old new = (death ≡ None) × (new ≡ with_end exit old)
KeepsOrReports false exit death old new = PassesDeath exit death old new

-- It was asked once whether a death waits.
pub record AsksLinger (waits : Bool) (old new : Watch) : Type 0 where
  pub calls : ExtendedWhileKept old.calls new.calls (Lingered waits ∷ [])
  pub stands : new ≡ record old { calls = new.calls }

-- A death is known, and its `finish` is over: it is asked once whether it waits.
pub record KnowsDeath (exit : Exit) (death : Option Tai64n) (old new : Watch) : Type 0 where
  pub waits : Bool
  pub asked : Watch
  pub asks : AsksLinger waits old asked
  pub does : KeepsOrReports waits exit death asked new

-- Finishes

-- It was sought once whether the service has a `finish`.
pub record SeeksFinish (has : Bool) (old new : Watch) : Type 0 where
  pub calls : ExtendedWhileKept old.calls new.calls (SoughtFinish has ∷ [])
  pub stands : new ≡ record old { calls = new.calls }

-- The intent to start a `finish` was to be written into the place, once, and was or was not.
pub record IntendsFinish (written : Bool) (old new : Watch) : Type 0 where
  pub tick : ℕ
  pub timed : Watch
  pub reads : ReadsTick tick old timed
  pub writes : WritesAs paper.Place (place_line (finishing timed.place tick timed.session)) written
      (with_place (finishing timed.place tick timed.session) timed) new

-- One `finish` was spawned, with how the child ended, if the intent is in the place, and none otherwise.
pub record SpawnsFinish (exit : Exit) (child : Option ℕ) (old new : Watch) : Type 0 where
  pub calls : ExtendedWhileKept old.calls new.calls (SpawnedFinish exit child ∷ [])
  pub stands : new ≡ record old { calls = new.calls }

abbrev pub SpawnsFinishIf : (intended : Bool) (exit : Exit) (child : Option ℕ) (old new : Watch) → Type 0
SpawnsFinishIf false exit child old new = (child ≡ None) × (new ≡ old)
SpawnsFinishIf true exit child old new = SpawnsFinish exit child old new

-- The death of the last child was sought, once.
pub record AsksDeath (death : Option Death) (old new : Watch) : Type 0 where
  pub calls : ExtendedWhileKept old.calls new.calls (SoughtDeath death ∷ [])
  pub stands : new ≡ record old { calls = new.calls }

-- A `finish` is over: the place says so, and from then on the death is as one without a `finish`.
pub record EndsFinish (exit : Exit) (death : Option Tai64n) (old new : Watch) : Type 0 where
  pub vacant : Watch
  pub vacates : Vacates old vacant
  pub knows : KnowsDeath exit death vacant new

-- a world whose child ended this way, and whose `finish` runs
abbrev pub with_finish : Exit → Watch → Watch
with_finish exit w = record w { child = Finishing exit }

-- How a death continues, by the `finish` that was made: without one, it is over; otherwise its process was recorded,
-- and no death is reported.
abbrev pub FinishesBy : (child : Option ℕ) → Exit → (death : Option Tai64n) (old new : Watch) → Type 0
FinishesBy None exit death old new = EndsFinish exit death old new
FinishesBy (Some pid) exit death old new = (death ≡ None) × RecordsProcess pid (with_finish exit old) new

-- A `finish` begins: how the child ended was to be written first, then the intent, and only if that was written, one
-- child was spawned.
pub record BeginsFinish (exit : Exit) (death : Option Tai64n) (old new : Watch) : Type 0 where
  pub written : Bool
  pub child : Option ℕ
  pub noted : Watch
  pub intended : Watch
  pub spawned : Watch
  pub notes : Writes paper.Exit (exit_text exit) (with_exit exit old) noted
  pub intends : IntendsFinish written noted intended
  pub spawns : SpawnsFinishIf written exit child intended spawned
  pub finishes : FinishesBy child exit death spawned new

abbrev pub FinishesIf : (has : Bool) → Exit → (death : Option Tai64n) (old new : Watch) → Type 0
FinishesIf false exit death old new = KnowsDeath exit death old new
FinishesIf true exit death old new = BeginsFinish exit death old new

-- A dead child is not ready: if it was, the file of that was to be removed.
abbrev pub ForgetsReady : Option Moment → (old new : Watch) → Type 0
ForgetsReady None old new = new ≡ old
ForgetsReady (Some moment) old new = Writes paper.Ready [] (with_ready None old) new

-- A death was found: the child is no longer ready, and it was sought once whether the service has a `finish`, which
-- then begins.
pub record LearnsDeath (exit : Exit) (death : Option Tai64n) (old new : Watch) : Type 0 where
  pub has : Bool
  pub forgot : Watch
  pub sought : Watch
  pub forgets : ForgetsReady old.ready old forgot
  pub seeks : SeeksFinish has forgot sought
  pub finishes : FinishesIf has exit death sought new

-- The end of a `finish` was sought, and it still runs. It gets KILL if its time is over.
pub record FinishRuns (death : Option Tai64n) (old new : Watch) : Type 0 where
  pub sought : Watch
  pub reported : death ≡ None
  pub asks : AsksDeath None old sought
  pub bounds : Bounds (finish_in sought.place) sought new

-- The end of a `finish` was sought and found.
pub record FinishEnded (exit : Exit) (death : Option Tai64n) (old new : Watch) : Type 0 where
  pub ended : Death
  pub sought : Watch
  pub asks : AsksDeath (Some ended) old sought
  pub ends : EndsFinish exit death sought new

-- The end of a `finish` was sought: it still runs, or it has ended.
abbrev pub SeeksEnd : Exit → (death : Option Tai64n) (old new : Watch) → Type 0
SeeksEnd exit death old new = FinishRuns death old new ⊎ FinishEnded exit death old new

-- The death of the child was sought, and there was none.
pub record LivesOn (death : Option Tai64n) (old new : Watch) : Type 0 where
  pub reported : death ≡ None
  pub asks : AsksDeath None old new

-- The death of the child with this number was sought and found.
pub record FindsDeath (pid : ℕ) (death : Option Tai64n) (old new : Watch) : Type 0 where
  pub died : Death
  pub sought : Watch
  pub asks : AsksDeath (Some died) old sought
  pub learns : LearnsDeath (exit_of pid died) death sought new

-- The death of a child was sought: there was none, or it was found.
abbrev pub SeeksDeath : (pid : ℕ) (death : Option Tai64n) (old new : Watch) → Type 0
SeeksDeath pid death old new = LivesOn death old new ⊎ FindsDeath pid death old new

-- What a poll for a death reports: one that was found already, or otherwise what the system finds for a child that
-- lives. Each death is reported once, only after the service's `finish` is over, only when it no longer waits for
-- control bytes, and only when the start after it no longer waits.
abbrev pub PollsDeath : LastChild → (death : Option Tai64n) → (old new : Watch) → Type 0
PollsDeath Gone death old new = (death ≡ None) × (new ≡ old)
PollsDeath (Alive pid) death old new = SeeksDeath pid death old new
PollsDeath (Dead exit) death old new = LearnsDeath exit death old new
PollsDeath (Finishing exit) death old new = SeeksEnd exit death old new
PollsDeath (Ended exit) death old new = KnowsDeath exit death old new
PollsDeath (Held exit until) death old new = LooksHeld exit until death old new
