-- What a timer knows of its mailbox after a post that was refused, and how its moments follow one another.
use Rattle.std.proofs.Common.{◌≡◌, ◌≤◌, ℕ, ◌+◌, Bool, true, false, List, [], ◌∷◌, ◌++◌, refl, sym, ap, subst}
use Rattle.std.proofs.Common.{◌∙◌, inl, inr}
use Rattle.std.specs.Prelude.{Result, Ok, Err, OnErr, IfErr, Option, None, Some, length, is_none, ◌&&◌, codes}
use Rattle.std.specs.Prelude.{MatchBool, if◌then◌else◌}
use Rattle.std.specs.Result.{is_err}
use Rattle.sup_core.specs.declared.event.Event.{Event}
use Rattle.svc_mail.specs.declared.sender.Sender.{Sender}
use Rattle.svc_mail.specs.Ends.{IsSameSender, heard_by, posted, seen_by}
use Rattle.svc_mail.specs.Ends.{WasFull as SenderWasFull}
use Rattle.svc_host.specs.Kills.{Concludes, Heeds, HeedsAll, KeepsTime, Looks, Moment, Timer, TimerRun, events_of}
use Rattle.svc_host.specs.Kills.{Heeded, Looked, LooksAt, asks_to_go, begins_asking, count_askings, count_open, is_due}
use Rattle.svc_host.specs.Kills.{BeginsAsking, ConcludesOne, OnceForEachAsking, after_seconds, ends_asking}
use Rattle.svc_host.specs.Kills.{is_reached, with_asking}
use Rattle.svc_host.specs.declared.kill.Asking.{Asking}
use Rattle.std.proofs.lemmas.List.{append-nil, append_assoc, length-append}
use native.Mathlib.Omega.{arith}
use Rattle.svc_host.specs.Mails.{Mail, WasFull, mail_of}
use Rattle.svc_house.specs.Standing.{Standing}
use Rattle.svc_house.specs.Turn.{IsTurn}
use Rattle.svc_house.specs.declared.turned.Turned.{Turned}
use Rattle.svc_house.specs.declared.turned.Turned.TheVariants.{Idle, Took}
use Rattle.svc_host.proofs.Stepping.{mail_same}

abbrev with_mail : Timer → Mail → Timer
with_mail timer mail = record timer { mail = mail }

-- The mailbox was full, and nothing was posted.
pub refused : {A X Y : Type 0} (Same : Y → Type 0) (timer : Timer) (old new : Sender ℕ A) (result : Result X Y)
    → is_err result ≡ true → timer.mail ≡ mail_of old → IsSameSender old new
    → OnErr result (posted new ≡ posted old) → OnErr result (seen_by new ≡ seen_by old) → heard_by new ≡ heard_by old
    → IfErr result (λ full. Same full × SenderWasFull old)
    → Concludes true timer (with_mail timer (mail_of new))
refused Same timer old new (Ok x) fails is same post see hear full = grind (arith, fails)
refused Same timer old new (Err fault) fails is same post see hear full =
    inr (ap (with_mail timer) (mail_same old new same post see hear ∙ sym is), subst WasFull (sym is) full.1)

-- what a turn adds to the events of a service
pub took : {I : Type 0} (old new : Standing I) (turned : Turned) (event : Event) → turned ≡ Took event
    → IsTurn old turned new → new.events ≡ old.events ++ event ∷ []
took old new turned event is turn = (subst (λ (turned : Turned). IsTurn old turned new) is turn).events

pub idled : {I : Type 0} (old new : Standing I) (turned : Turned) → turned ≡ Idle → IsTurn old turned new
    → new.events ≡ old.events
idled old new turned is turn = (subst (λ (turned : Turned). IsTurn old turned new) is turn).events

-- Nothing happened.
pub nothing : (events : List Event) (timer : Timer) → KeepsTime events events timer timer
nothing events timer = record {
  more = [];
  events = sym (append-nil events);
  heeds = record { moments = []; run = refl; each = refl };
}

-- An event was heeded.
pub one_event : (events more : List Event) (event : Event) (old new : Timer) → more ≡ events ++ event ∷ []
    → Heeds event old new → KeepsTime events more old new
one_event events more event old new is heeds = record {
  more = event ∷ [];
  events = is;
  heeds = record { moments = Heeded event ∷ []; run = (new, heeds, refl); each = refl };
}

-- It was looked whether `k` is due.
pub one_look : (events : List Event) (old new : Timer) → Looks old new → KeepsTime events events old new
one_look events old new looks = record {
  more = [];
  events = sym (append-nil events);
  heeds = record { moments = Looked ∷ []; run = (new, looks, refl); each = refl };
}

run_along : (first second : List Moment) (old mid new : Timer) → TimerRun first old mid → TimerRun second mid new
    → TimerRun (first ++ second) old new
run_along [] second old mid new is run = subst (λ (timer : Timer). TimerRun second timer new) is run
run_along (moment ∷ first) second old mid new is run =
    (is.0, is.1, run_along first second is.0 mid new is.2 run)

events_along : (first second : List Moment) → events_of (first ++ second) ≡ events_of first ++ events_of second
events_along [] second = refl
events_along (Heeded event ∷ first) second = ap (λ (events : List Event). event ∷ events) (events_along first second)
events_along (Looked ∷ first) second = events_along first second

-- One part of a run came after the other.
pub along : (a b c : List Event) (old mid new : Timer) → KeepsTime a b old mid → KeepsTime b c mid new
    → KeepsTime a c old new
along a b c old mid new first second =
    let each = events_along first.heeds.moments second.heeds.moments in
    record {
      more = first.more ++ second.more;
      events =
          second.events
          ∙ ap (λ (events : List Event). events ++ second.more) first.events
          ∙ append_assoc a first.more second.more;
      heeds = record {
        moments = first.heeds.moments ++ second.heeds.moments;
        run = run_along first.heeds.moments second.heeds.moments old mid new first.heeds.run second.heeds.run;
        each =
            each
            ∙ ap (λ (events : List Event). events ++ events_of second.heeds.moments) first.heeds.each
            ∙ ap (λ (events : List Event). first.more ++ events) second.heeds.each;
      };
    }

-- At most once

-- an asking that goes on, or not, opens none
stays_open : (ends : Bool) (asking : Option Asking) → count_open (if ends then None else asking) ≤ count_open asking
stays_open true asking = grind (arith)
stays_open false asking = grind (arith)

asks_by : (asks : Bool) (asking : Option Asking) (event : Event) (old new : Timer) → old.asking ≡ asking
    → MatchBool (asks && is_none asking) (BeginsAsking old new)
    (new ≡ with_asking (if ends_asking event then None else old.asking) old)
    → length new.mail.posted + count_open new.asking
    ≤ length old.mail.posted + count_open old.asking + (if asks then 1 else 0)
asks_by true None event old new is begins = grind (arith, is, begins.stands)
asks_by true (Some asking) event old new is stands =
    let less = stays_open (ends_asking event) old.asking in
    grind (arith, is, stands, less)
asks_by false asking event old new is stands =
    let less = stays_open (ends_asking event) old.asking in
    grind (arith, is, stands, less)

-- An event opens at most one asking, and posts nothing.
heeds_few : (event : Event) (old new : Timer) → Heeds event old new
    → length new.mail.posted + count_open new.asking
    ≤ length old.mail.posted + count_open old.asking + (if asks_to_go event then 1 else 0)
heeds_few event old new heeds = asks_by (asks_to_go event) old.asking event old new refl heeds

-- what is due is not over
open_if_due : (is_over : Bool) (time : Option ℕ) (now : ℕ) → is_reached (if is_over then None else time) now ≡ true
    → is_over ≡ false
open_if_due false time now due = refl
open_if_due true time now due = grind (arith, due)

-- An asking that is concluded is no longer open.
concludes_few : (runs : Bool) (asking : Asking) (old new : Timer) → old.asking ≡ Some asking → asking.is_over ≡ false
    → Concludes runs old new
    → length new.mail.posted + count_open new.asking ≤ length old.mail.posted + count_open old.asking
concludes_few false asking old new is is_open stands = grind (arith, is, is_open, stands)
concludes_few true asking old new is is_open (inl done) =
    let posted = ap (λ (bytes : List ℕ). length bytes) done.1 ∙ length-append old.mail.posted (codes "k") in
    grind (arith, is, is_open, done.0, posted)
concludes_few true asking old new is is_open (inr full) = grind (arith, full.0)

looks_by : (due : Bool) (asking : Option Asking) (now : ℕ) (old new : Timer) → old.asking ≡ asking
    → is_due asking now ≡ due → MatchBool due (ConcludesOne old new) (new ≡ old)
    → length new.mail.posted + count_open new.asking ≤ length old.mail.posted + count_open old.asking
looks_by false asking now old new is due stands = grind (arith, stands)
looks_by true None now old new is due concludes = grind (arith, due)
looks_by true (Some asking) now old new is due concludes =
    let is_open = open_if_due asking.is_over (after_seconds asking.since asking.seconds) now due in
    concludes_few concludes.0 asking old new is is_open concludes.1

looks_few : (old new : Timer) → Looks old new
    → length new.mail.posted + count_open new.asking ≤ length old.mail.posted + count_open old.asking
looks_few old new looks = looks_by (is_due old.asking looks.0) old.asking looks.0 old new refl refl looks.1

moments_few : (moments : List Moment) (old new : Timer) → TimerRun moments old new
    → length new.mail.posted + count_open new.asking
    ≤ length old.mail.posted + count_open old.asking + count_askings (events_of moments)
moments_few [] old new is = grind (arith, is)
moments_few (Heeded event ∷ moments) old new run =
    let step = heeds_few event old run.0 run.1 in
    let rest = moments_few moments run.0 new run.2 in
    grind (arith, step, rest)
moments_few (Looked ∷ moments) old new run =
    let step = looks_few old run.0 run.1 in
    let rest = moments_few moments run.0 new run.2 in
    grind (arith, step, rest)

pub once : OnceForEachAsking
once events old new heeds =
    let few = moments_few heeds.moments old new heeds.run in
    grind (arith, few, heeds.each)
