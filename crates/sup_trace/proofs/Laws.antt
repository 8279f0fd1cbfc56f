-- Laws of traces when events are taken.
use Rattle.std.proofs.Common.{◌≡◌, ℕ, ◌+◌, ◌-◌, ◌^◌, ◌<◌, ◌≤◌, true, false, List, [], ◌∷◌, ◌++◌, length, take, drop}
use Rattle.std.proofs.Common.{min, nat_lt, refl, sym, subst, ap, ◌∙◌, arith, length-append, length-drop, lit≤}
use Rattle.std.proofs.Common.{append_assoc, if◌then◌else◌, Option, Some, None, slice_get}
use Rattle.std.proofs.lemmas.List.{append-nil, take-append-drop, drop-drop, drop-append-le, take-append-le}
use Rattle.std.proofs.Math.Seq.{take-add}
use Rattle.std.proofs.lemmas.Bool.Decides.{nat_tests}
use Rattle.std.specs.List.{AllByRecursion}
use Rattle.sup_core.specs.declared.event.Event.{Event}
use Rattle.sup_core.specs.declared.asks.Ask.{Ask}
use Rattle.sup_core.specs.declared.asks.Reply.{Reply}
use Rattle.sup_core.specs.declared.asks.Reply.TheVariants.{Took, Held}
use Rattle.sup_core.specs.State.{State}
use Rattle.sup_core.specs.History.{History, Opened, Then, state_of}
use Rattle.sup_core.specs.Rules.{IsEvent, takes, next, asks_of, reply_to}
use Rattle.sup_core.specs.Runs.{followed_by, AreTaken, after, taken_of}
use Rattle.sup_core.proofs.Laws.{AreTaken-concat, AreTaken-drop, AreTaken-state, after-state, followed_by-append}
use Rattle.sup_core.proofs.Laws.{followed_by-state, next-taken, reply_to-took, state_of-cut}
use Rattle.sup_core.proofs.Laws.{taken_of-state, takes-state}
use Rattle.sup_trace.specs.Trace.{Kept, IsTrace, IsKeptUp, history_of, replay, folded_into, cut, noted}
use Rattle.sup_trace.specs.Trace.{noted_if_taken, noted_along, new_trace}

-- A base with the first events folded into it, followed by the other events, replays to what the whole replays to.
pub replay-cut : (base : State) (events : List Event) (n : ℕ)
    → state_of (followed_by (Opened (folded_into base (take n events))) (drop n events))
    ≡ state_of (followed_by (Opened base) events)
replay-cut base events n =
    let first = followed_by (Opened base) (take n events) in
    followed_by-state (Opened (state_of first)) first (drop n events) refl
    ∙ ap state_of (sym (followed_by-append (Opened base) (take n events) (drop n events)))
    ∙ ap (λ (all : List Event). state_of (followed_by (Opened base) all)) (take-append-drop n events)

-- When a trace takes events, it replays to the machine after its history and these events.
pub replay-noted : (kept : Kept) (events : List Event)
    → replay (noted kept events) ≡ state_of (followed_by (history_of kept) events)
replay-noted kept events =
    replay-cut kept.base (kept.entries ++ events) (cut kept events)
    ∙ ap state_of (followed_by-append (Opened kept.base) kept.entries events)

pub IsTrace-noted : (kept : Kept) (events : List Event) → IsTrace kept → AreTaken (history_of kept) events
    → IsTrace (noted kept events)
IsTrace-noted kept events trace taken =
    let all = kept.entries ++ events in
    let n = cut kept events in
    let base = Opened kept.base in
    record {
      room = trace.room;
      limit = trace.limit;
      fits = omega (arith, length-drop n all);
      taken = AreTaken-state (followed_by base (take n all)) (Opened (folded_into kept.base (take n all))) (drop n all)
          refl
          (AreTaken-drop base n all (AreTaken-concat base kept.entries events trace.taken taken));
      count = omega (arith);
    }

-- If they are full, the oldest one is folded into the base.
pub full-cut : (base : State) (entries : List Event) (event oldest : Event) → AreTaken (Opened base) entries
    → IsEvent event → takes (followed_by (Opened base) entries) event ≡ true
    → Some oldest ≡ slice_get (entries ++ event ∷ []) 0
    → IsEvent oldest × (folded_into base (take 1 (entries ++ event ∷ [])) ≡ state_of (next (Opened base) oldest))
full-cut base [] event oldest taken condition takes at =
    let same : oldest ≡ event = cc in (
      subst IsEvent (sym same) condition,
      ap state_of (sym (next-taken (Opened base) event takes))
          ∙ ap (λ (x : Event). state_of (next (Opened base) x)) (sym same),
    )
full-cut base (e ∷ es) event oldest taken condition takes at =
    let same : oldest ≡ e = cc in (
      subst IsEvent (sym same) taken.0,
      ap state_of (sym (next-taken (Opened base) e taken.1))
          ∙ ap (λ (x : Event). state_of (next (Opened base) x)) (sym same),
    )

-- what comes out of a full ring
full-length : (n c : ℕ) (oldest : Event) (first : Option Event) → Some oldest ≡ (if nat_lt n c then None else first)
    → (c ≤ n) × (Some oldest ≡ first)
full-length n c oldest first at =
    elim (nat_lt n c) as (λ b. nat_lt n c ≡ b → Some oldest ≡ (if b then None else first)
    → (c ≤ n) × (Some oldest ≡ first)) [
      | true ↦ λ is at. absurd (cc)
      | false ↦ λ is at. (grind (arith, nat_tests), at)
    ] refl at

pub noted-full : (kept : Kept) (event oldest : Event) (after : State) (count : ℕ) → IsTrace kept → IsEvent event
    → takes (history_of kept) event ≡ true
    → Some oldest ≡ (if nat_lt (length kept.entries) kept.capacity then None else slice_get (kept.entries ++ event ∷ [])
    0)
    → after ≡ state_of (next (Opened kept.base) oldest)
    → count ≡ min (kept.folded + 1) (2 ^ 63)
    → record {
      base = after;
      entries = drop (cut kept (event ∷ [])) (kept.entries ++ event ∷ []);
      capacity =
          kept.capacity;
      folded = count;
    }
    ≡ noted kept (event ∷ [])
noted-full kept event oldest after count trace condition taken out stepped counted =
    let full = full-length (length kept.entries) kept.capacity oldest _ out in
    let one : cut kept (event ∷ []) ≡ 1 = omega (arith, length-append kept.entries (event ∷ []), trace.fits, full.0) in
    rw one (rw (
      (full-cut kept.base kept.entries event oldest trace.taken condition taken full.1).1,
      ← stepped,
      ← counted,
    ) refl)

-- The machine that took the event is the one that the new trace replays to.
pub IsKeptUp-noted : (kept : Kept) (event : Event) (after : State) → IsTrace kept → IsEvent event
    → takes (history_of kept) event ≡ true → after ≡ state_of (next (history_of kept) event)
    → IsKeptUp (noted kept (event ∷ [])) after
IsKeptUp-noted kept event after trace condition taken stepped = record {
  trace = IsTrace-noted kept (event ∷ []) trace (condition, taken, tt);
  replayed = stepped ∙ ap state_of (next-taken (history_of kept) event taken) ∙ sym (replay-noted kept (event ∷ []));
}

base-cut : (base : State) (all whole ys : List Event) (n m c : ℕ) → take n all ≡ take n whole
    → drop n all ++ ys ≡ drop n whole
    → n + m ≡ c → folded_into (folded_into base (take n all)) (take m (drop n all ++ ys))
    ≡ folded_into base (take c whole)
base-cut base all whole ys n m c first same sum =
    ap (λ (l : List Event). folded_into (folded_into base l) (take m (drop n all ++ ys))) first
    ∙ ap (λ (l : List Event). folded_into (folded_into base (take n whole)) (take m l)) same
    ∙ sym (state_of-cut (Opened base) (take n whole) (take m (drop n whole)))
    ∙ ap (λ (l : List Event). folded_into base l) (sym (take-add n m whole) ∙ ap (λ (k : ℕ). take k whole) sum)

-- Taking events in two groups is the same as taking them in one.
pub noted-noted : (kept : Kept) (xs ys : List Event) → noted (noted kept xs) ys ≡ noted kept (xs ++ ys)
noted-noted kept xs ys =
    let all = kept.entries ++ xs in
    let n = cut kept xs in
    let m = cut (noted kept xs) ys in
    let whole = kept.entries ++ (xs ++ ys) in
    let same : drop n all ++ ys ≡ drop n whole = sym (drop-append-le n all ys (omega arith))
    ∙ ap (λ (l : List Event). drop n l) (append_assoc kept.entries xs ys) in
    let more : m ≡ length whole - kept.capacity - n = omega (arith, ap length same, length-drop n whole) in
    let sum : n + m ≡ cut kept (xs ++ ys) =
    omega (arith, length-append all ys, ap length (append_assoc kept.entries xs ys)) in
    let below : n ≤ length all = omega (arith) in
    let entries : drop m (drop n all ++ ys) ≡ drop (cut kept (xs ++ ys)) whole =
    ap (λ (l : List Event). drop m l) same ∙ drop-drop m n whole ∙ ap (λ (k : ℕ). drop k whole) sum in
    let first : take n all ≡ take n whole = sym (take-append-le n all ys below)
    ∙ ap (λ (l : List Event). take n l) (append_assoc kept.entries xs ys) in
    let base : folded_into (folded_into kept.base (take n all)) (take m (drop n all ++ ys))
    ≡ folded_into kept.base (take (cut kept (xs ++ ys)) whole) =
    base-cut kept.base all whole ys n m (cut kept (xs ++ ys)) first same sum in
    let count : min (min (kept.folded + n) (2 ^ 63) + m) (2 ^ 63) ≡ min (kept.folded + cut kept (xs ++ ys)) (2 ^ 63) =
    omega (arith) in
    rw (base, entries, count) refl

pub noted-none : (kept : Kept) → IsTrace kept → noted kept [] ≡ kept
noted-none kept trace =
    let same : kept.entries ++ [] ≡ kept.entries = append-nil kept.entries in
    let none : cut kept [] ≡ 0 = omega (arith, ap length same, trace.fits) in
    let count : min (kept.folded + 0) (2 ^ 63) ≡ kept.folded = omega (arith, trace.count) in
    rw none (rw (same, count) refl)

-- A trace after events is the trace after those of them that are taken.
pub noted_along-taken : (kept : Kept) (events : List Event) → IsTrace kept → AllByRecursion IsEvent events
    → noted_along kept events ≡ noted kept (taken_of (history_of kept) events)
noted_along-taken kept [] trace conditions = sym (noted-none kept trace)
noted_along-taken kept (event ∷ events) trace conditions =
    let past = history_of kept in
    let grown = noted kept (event ∷ []) in
    elim (takes past event) as (λ b. takes past event ≡ b → noted_along (if b then grown else kept) events
    ≡ noted kept (if b then event ∷ taken_of (Then past event) events else taken_of past events)) [
      | true ↦ λ is. noted_along-taken grown events (IsTrace-noted kept (event ∷ []) trace (conditions.0, is, tt))
          conditions.1
          ∙ ap (λ (l : List Event). noted grown l)
          (taken_of-state (history_of grown) (Then past event) events (replay-noted kept (event ∷ [])))
          ∙ noted-noted kept (event ∷ []) (taken_of (Then past event) events)
      | false ↦ λ is. noted_along-taken kept events trace conditions.1
    ] refl

-- A trace continues the history that it began with.
pub replay-noted_along : (kept : Kept) (events : List Event) → replay (noted_along kept events)
    ≡ state_of (after (history_of kept) events)
replay-noted_along kept [] = refl
replay-noted_along kept (event ∷ events) =
    let past = history_of kept in
    let grown = noted kept (event ∷ []) in
    elim (takes past event) as (λ b. replay (noted_along (if b then grown else kept) events)
    ≡ state_of (after (if b then Then past event else past) events)) [
      | true ↦ replay-noted_along grown events
          ∙ after-state (history_of grown) (Then past event) events (replay-noted kept (event ∷ []))
      | false ↦ replay-noted_along kept events
    ]

pub IsTrace-noted_if_taken : (kept : Kept) (event : Event) → IsTrace kept → IsEvent event
    → IsTrace (noted_if_taken kept event)
IsTrace-noted_if_taken kept event trace condition =
    elim (takes (history_of kept) event) as (λ b. takes (history_of kept) event ≡ b
    → IsTrace (if b then noted kept (event ∷ []) else kept)) [
      | true ↦ λ is. IsTrace-noted kept (event ∷ []) trace (condition, is, tt)
      | false ↦ λ is. trace
    ] refl

pub IsTrace-new : (base : State) (capacity : ℕ) → 0 < capacity → capacity ≤ 65536 → IsTrace (new_trace base capacity)
IsTrace-new base capacity room limit = record {
  room = room;
  limit = limit;
  fits = omega arith;
  taken = tt;
  count = lit≤ tt;
}

-- A trace after an event that is taken, and after one that is not.
pub noted_if_taken-taken : (kept : Kept) (event : Event) → takes (history_of kept) event ≡ true
    → noted_if_taken kept event ≡ noted kept (event ∷ [])
noted_if_taken-taken kept event taken = rw taken refl

pub noted_if_taken-held : (kept : Kept) (event : Event) → takes (history_of kept) event ≡ false
    → noted_if_taken kept event ≡ kept
noted_if_taken-held kept event held = rw held refl

-- It replays to the machine after that event.
pub replay-noted_if_taken : (kept : Kept) (event : Event) → replay (noted_if_taken kept event)
    ≡ state_of (next (history_of kept) event)
replay-noted_if_taken kept event =
    let past = history_of kept in
    elim (takes past event) as (λ b. replay (if b then noted kept (event ∷ []) else kept)
    ≡ state_of (if b then Then past event else past)) [
      | true ↦ replay-noted kept (event ∷ [])
      | false ↦ refl
    ]

-- What is taken, and the reply to it, are the same after a trace as after its whole history.
pub takes-noted : (kept : Kept) (events : List Event) (event : Event)
    → takes (history_of (noted kept events)) event ≡ takes (followed_by (history_of kept) events) event
takes-noted kept events event =
    takes-state (history_of (noted kept events)) (followed_by (history_of kept) events) event (replay-noted kept events)

-- What the reply to an event shows about the trace
pub taken-answered : (kept : Kept) (event : Event) (machine : State) (reply : Reply) (asks : List Ask)
    → machine ≡ replay kept
    → ((past : History) → state_of past ≡ machine → reply ≡ reply_to past event) → reply ≡ Took asks
    → takes (history_of kept) event ≡ true
taken-answered kept event machine reply asks replayed answered is =
    reply_to-took (history_of kept) event asks (sym is ∙ answered (history_of kept) (sym replayed))

reply_to-held : (past : History) (event : Event) → Held ≡ reply_to past event → takes past event ≡ false
reply_to-held past event said =
    elim (takes past event) as (λ b. Held ≡ (if b then Took (asks_of past event) else Held) → b ≡ false) [
      | true ↦ λ said. absurd (cc)
      | false ↦ λ said. refl
    ] said

pub held-answered : (kept : Kept) (event : Event) (machine : State) (reply : Reply) → machine ≡ replay kept
    → ((past : History) → state_of past ≡ machine → reply ≡ reply_to past event) → reply ≡ Held
    → takes (history_of kept) event ≡ false
held-answered kept event machine reply replayed answered is =
    reply_to-held (history_of kept) event (sym is ∙ answered (history_of kept) (sym replayed))

-- The machine that held the event is the one that the trace replays to.
pub IsKeptUp-held : (kept : Kept) (event : Event) (after : State) → IsTrace kept → takes (history_of kept) event ≡ false
    → after ≡ state_of (next (history_of kept) event) → IsKeptUp kept after
IsKeptUp-held kept event after trace held stepped =
    record { trace = trace; replayed = stepped ∙ rw held refl }

-- what a trace keeps, if it is known by an equal one
pub noted-seen : (kept seen : Kept) (event : Event) → kept ≡ seen → takes (history_of kept) event ≡ true
    → noted kept (event ∷ []) ≡ noted_if_taken seen event
noted-seen kept seen event same taken =
    sym (noted_if_taken-taken kept event taken) ∙ ap (λ (k : Kept). noted_if_taken k event) same

pub held-seen : (kept seen : Kept) (event : Event) → kept ≡ seen → takes (history_of kept) event ≡ false
    → kept ≡ noted_if_taken seen event
held-seen kept seen event same held =
    sym (noted_if_taken-held kept event held) ∙ ap (λ (k : Kept). noted_if_taken k event) same

pub reply-seen : (kept seen : Kept) (event : Event) (machine : State) (reply : Reply) → kept ≡ seen
    → machine ≡ replay kept
    → ((past : History) → state_of past ≡ machine → reply ≡ reply_to past event)
    → reply ≡ reply_to (history_of seen) event
reply-seen kept seen event machine reply same replayed answered =
    answered (history_of kept) (sym replayed) ∙ ap (λ (k : Kept). reply_to (history_of k) event) same
