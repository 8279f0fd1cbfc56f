-- When a service that was asked to go gets the control byte `k`.
use Rattle.std.specs.Prelude.{◌≡◌, ◌≤◌, ◌⊎◌, ℕ, length, ◌+◌, ◌*◌, ◌-◌, ◌^◌, ◌&&◌, ◌||◌, min, nat_le, nat_lt}
use Rattle.std.specs.Prelude.{Bool, true, false}
use Rattle.std.specs.Prelude.{if◌then◌else◌, List, [], ◌∷◌, ◌++◌, codes, is_none, Option, None, Some, MatchBool}
use Rattle.svc_mail.specs.declared.sender.Sender.{Sender}
use Rattle.tai_status.specs.declared.record.Want.{Want}
use Rattle.tai_status.specs.declared.record.Want.TheVariants as want
use Rattle.sup_core.specs.declared.event.Event.{Event}
use Rattle.sup_core.specs.declared.event.Event.TheVariants.{Byte, Started, Death}
use Rattle.sup_core.specs.History.{is_among}
use Rattle.sup_core.specs.State.{State}
use Rattle.svc_host.specs.declared.kill.Asking.{Asking}
use Rattle.svc_host.specs.Mails.{Mail, WasFull, mail_of}

-- Askings

-- The bytes `d` and `x` ask a service to go.
abbrev pub asks_to_go : Event → Bool
asks_to_go (Byte byte) = is_among (codes "dx") byte
asks_to_go event = false

-- It is no longer asked to go after `u` or `o`, and after its process has ended.
abbrev pub ends_asking : Event → Bool
ends_asking (Byte byte) = is_among (codes "uo") byte
ends_asking (Started pid label) = true
ends_asking (Death label) = true
ends_asking event = false

-- whether an event asks a service that is not asked yet
abbrev pub begins_asking : Option Asking → Event → Bool
begins_asking asking event = asks_to_go event && is_none asking

-- an asking that begins now, in milliseconds of the running clock; the service gets `k` after these seconds, or never
abbrev pub asked : (now : ℕ) → (seconds : Option ℕ) → Asking
asked now seconds = record { since = now; seconds = seconds; is_over = false }

-- what a service is asked after an event that does not begin an asking
abbrev pub still_asked : Event → Option Asking → Option Asking
still_asked event asking = if ends_asking event then None else asking

-- whether a service with this machine has a process that is asked to go
abbrev pub is_not_wanted : Want → Bool
is_not_wanted want.Down = true
is_not_wanted other = false

abbrev pub is_asked : State → Bool
is_asked machine = nat_lt 0 machine.status.pid && (is_not_wanted machine.status.want || machine.exiting)

-- Times

abbrev pub after_seconds : (since : ℕ) → (seconds : Option ℕ) → Option ℕ
after_seconds since None = None
after_seconds since (Some seconds) = Some (since + seconds * 1000)

-- When `k` is due, in milliseconds of the running clock: once for each asking, and never without a number of seconds.
abbrev pub due_at : Option Asking → Option ℕ
due_at None = None
due_at (Some asking) = if asking.is_over then None else after_seconds asking.since asking.seconds

abbrev pub is_reached : (time : Option ℕ) → (now : ℕ) → Bool
is_reached None now = false
is_reached (Some time) now = nat_le time now

-- whether a service is to get `k` now
abbrev pub is_due : Option Asking → (now : ℕ) → Bool
is_due asking now = is_reached (due_at asking) now

-- the nanoseconds until a millisecond after that time
abbrev pub rest_until : (time : Option ℕ) → (now : ℕ) → Option ℕ
rest_until None now = None
rest_until (Some time) now = Some (min ((time - now + 1) * 1000000) (2 ^ 64 - 1))

-- What is done

-- what a service is asked, and the mailbox through which it gets `k`
pub record Timer : Type 0 where
  pub asking : Option Asking
  pub mail : Mail

abbrev pub new_timer : {A : Type 0} → Sender ℕ A → Timer
new_timer sender = record { asking = None; mail = mail_of sender }

abbrev pub with_asking : Option Asking → Timer → Timer
with_asking asking timer = record timer { asking = asking }

-- an asking that is over
abbrev pub over : Option Asking → Option Asking
over None = None
over (Some asking) = Some (record asking { is_over = true })

-- A service is asked to go.
pub record BeginsAsking (old new : Timer) : Type 0 where
  pub now : ℕ
  pub seconds : Option ℕ
  pub stands : new ≡ with_asking (Some (asked now seconds)) old

-- The timer of a service begins: only a process that is asked to go is asked anew.
abbrev pub Begins : (machine : State) → (old new : Timer) → Type 0
Begins machine old new = MatchBool (is_asked machine) (BeginsAsking old new) (new ≡ old)

-- An event was heeded, and nothing was posted.
abbrev pub Heeds : (event : Event) → (old new : Timer) → Type 0
Heeds event old new =
    MatchBool (begins_asking old.asking event) (BeginsAsking old new)
    (new ≡ with_asking (still_asked event old.asking) old)

-- An asking is over. If the process runs, `k` was posted, once, unless the mailbox was full.
abbrev pub Concludes : (runs : Bool) → (old new : Timer) → Type 0
Concludes false old new = new ≡ with_asking (over old.asking) old
Concludes true old new =
    ((new.asking ≡ over old.asking) × (new.mail.posted ≡ old.mail.posted ++ codes "k"))
    ⊎ ((new ≡ old) × WasFull old.mail)

-- It was looked at some time whether `k` is due, and only if it was, the asking was concluded.
abbrev pub ConcludesOne : (old new : Timer) → Type 0
ConcludesOne old new = (runs : Bool) × Concludes runs old new

abbrev pub LooksAt : (now : ℕ) → (old new : Timer) → Type 0
LooksAt now old new = MatchBool (is_due old.asking now) (ConcludesOne old new) (new ≡ old)

abbrev pub Looks : (old new : Timer) → Type 0
Looks old new = (now : ℕ) × LooksAt now old new

-- What happens to a timer: it heeds an event, or it is looked whether `k` is due.
pub data Moment : Type 0 where
  Heeded : (event : Event) → Moment
  Looked : Moment

abbrev pub IsMoment : Moment → (old new : Timer) → Type 0
IsMoment (Heeded event) old new = Heeds event old new
IsMoment Looked old new = Looks old new

-- One moment came after the other.
abbrev pub TimerRun : List Moment → (old new : Timer) → Type 0
TimerRun [] old new = new ≡ old
TimerRun (moment ∷ moments) old new = (next : Timer) × IsMoment moment old next × TimerRun moments next new

-- the events that were heeded in these moments
abbrev pub events_of : List Moment → List Event
events_of [] = []
events_of (Heeded event ∷ moments) = event ∷ events_of moments
events_of (Looked ∷ moments) = events_of moments

-- A timer heeded these events, each once and in order.
pub record HeedsAll (events : List Event) (old new : Timer) : Type 0 where
  pub moments : List Moment
  pub run : TimerRun moments old new
  pub each : events_of moments ≡ events

-- From old to new events of a service, its timer heeded all that came.
pub record KeepsTime (old_events new_events : List Event) (old new : Timer) : Type 0 where
  pub more : List Event
  pub events : new_events ≡ old_events ++ more
  pub heeds : HeedsAll more old new

-- Laws

-- how many of these events ask a service to go
abbrev pub count_askings : List Event → ℕ
count_askings [] = 0
count_askings (event ∷ events) = (if asks_to_go event then 1 else 0) + count_askings events

-- how many askings are open: one or none
abbrev pub count_open : Option Asking → ℕ
count_open None = 0
count_open (Some asking) = if asking.is_over then 0 else 1

-- A service gets `k` at most once for each time that it is asked to go.
abbrev pub OnceForEachAsking : Type 0
OnceForEachAsking = (events : List Event) (old new : Timer) → HeedsAll events old new
    → length new.mail.posted ≤ length old.mail.posted + count_open old.asking + count_askings events

-- Without a number of seconds `k` is never due.
abbrev pub NeverWithoutSeconds : Type 0
NeverWithoutSeconds = (asking : Asking) (now : ℕ) → asking.seconds ≡ None → is_due (Some asking) now ≡ false
