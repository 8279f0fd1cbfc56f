-- A step writes the record of the state after it, or does not change what the record says.
use Rattle.std.proofs.Common.{◌≡◌, ◌≢◌, ℕ, Bool, true, false, List, [], ◌∷◌, ◌++◌, map, refl, sym, ap, ◌∙◌, arith}
use Rattle.std.proofs.Common.{append-nil, codes}
use Rattle.std.specs.Prelude.{if◌then◌else◌}
use Rattle.tai_status.specs.Record.{Status}
use Rattle.tai_status.specs.Full.{StandsIn, full_record, full_with}
use Rattle.tai_status.specs.declared.phase.Phase.{Phase}
use Rattle.tai_status.specs.declared.phase.Phase.TheVariants as phase
use Rattle.sup_core.specs.declared.asks.Sig.{Sig}
use Rattle.sup_core.specs.declared.asks.Ask.{Ask}
use Rattle.sup_core.specs.declared.asks.Ask.TheVariants.{Signal, Start, Write}
use Rattle.sup_core.specs.declared.asks.Reply.TheVariants.{Took, Held}
use Rattle.sup_core.specs.declared.event.Event.{Event}
use Rattle.sup_core.specs.declared.event.Event.TheVariants.{Byte, Started, StartFailed, Death, Clock}
use Rattle.sup_core.specs.Asks.{records_of, records_in}
use Rattle.sup_core.specs.History.{History, Then, is_among, runs, pid_of, status_of, exiting_of, phase_of, until_of}
use Rattle.sup_core.specs.History.{full_of, calls_for_start}
use Rattle.sup_core.specs.Rules.{signals_of, signals_after, writes, record_of, start_of, asks_of, asks_of_begin}
use Rattle.sup_core.specs.Rules.{is_taken, takes, next, reply_to}

records_of-append : (xs ys : List Ask) → records_of (xs ++ ys) ≡ records_of xs ++ records_of ys
records_of-append [] ys = refl
records_of-append (Write bytes ∷ xs) ys = ap (λ records. bytes ∷ records) (records_of-append xs ys)
records_of-append (Signal sig pid ∷ xs) ys = records_of-append xs ys
records_of-append (Start ∷ xs) ys = records_of-append xs ys

records_of-signals : (pid : ℕ) (sigs : List Sig) → records_of (map (λ sig. Signal sig pid) sigs) ≡ []
records_of-signals pid [] = refl
records_of-signals pid (sig ∷ sigs) = records_of-signals pid sigs

signals_none : (past : History) (event : Event) → records_of (signals_after past event) ≡ []
signals_none past (Byte byte) =
    elim (runs past) as (λ b. records_of (if b then map (λ sig. Signal sig (pid_of past)) (signals_of byte) else [])
    ≡ []) [
      | true ↦ records_of-signals (pid_of past) (signals_of byte)
      | false ↦ refl
    ]
signals_none past (Started pid label) = refl
signals_none past (StartFailed label) = refl
signals_none past (Death label) = refl
signals_none past (Clock label) = refl

start_none : (past : History) → records_of (start_of past) ≡ []
start_none past =
    elim (calls_for_start past) as (λ b. records_of (if b then Start ∷ [] else []) ≡ []) [ true ↦ refl | false ↦ refl ]

abbrev record_at : Bool → History → List (List ℕ)
record_at b past = if b then full_record (full_of past) ∷ [] else []

written : (b : Bool) (past : History) → records_of (if b then record_of past else []) ≡ record_at b past
written true past = refl
written false past = refl

between : {A : Type 0} (x y z : List A) → x ≡ [] → z ≡ [] → (x ++ y) ++ z ≡ y
between x y z e f = rw (e, f) (append-nil y)

-- the records that an event asks for
pub records_of-asks_of : (past : History) (event : Event) → records_of (asks_of past event)
    ≡ record_at (writes event) (Then past event)
records_of-asks_of past event =
    let record_asks = if writes event then record_of (Then past event) else [] in
    let start = start_of (Then past event) in
    records_of-append (signals_after past event ++ record_asks) start
    ∙ ap (λ records. records ++ records_of start) (records_of-append (signals_after past event) record_asks)
    ∙ between _ _ _ (signals_none past event) (start_none (Then past event))
    ∙ written (writes event) (Then past event)

-- The one record that is asked for when supervise begins is the record of its state.
pub records_of-asks_of_begin : (history : History) → records_of (asks_of_begin history) ≡ full_record (full_of history)
    ∷ []
records_of-asks_of_begin history =
    records_of-append (record_of history) (start_of history)
    ∙ ap (λ (records : List (List ℕ)). records_of (record_of history) ++ records) (start_none history)

-- what is not written stays as it is

-- A byte that causes no record does not change the status.
status_of-unwritten : (past : History) (byte : ℕ) → is_among (codes "udopcx") byte ≡ false
    → status_of (Then past (Byte byte)) ≡ status_of past
status_of-unwritten past byte h = grind (arith)

exiting_of-unwritten : (past : History) (byte : ℕ) → is_among (codes "udopcx") byte ≡ false
    → exiting_of (Then past (Byte byte)) ≡ exiting_of past
exiting_of-unwritten past byte h = grind (arith)

-- Such a byte does not change the phase if it is taken: in phase up there is a process; in phase down there is none,
-- and no exit.
phase_of-unwritten : (past : History) (byte : ℕ) (p : Phase) → phase_of past ≡ p
    → StandsIn p (status_of past) (exiting_of past)
    → is_taken p (until_of past) (Byte byte) ≡ true → is_among (codes "udopcx") byte ≡ false
    → phase_of (Then past (Byte byte)) ≡ p
phase_of-unwritten past byte phase.Starting is stands taken h = cc taken
phase_of-unwritten past byte phase.Settling is stands taken h = cc taken
phase_of-unwritten past byte phase.Resting is stands taken h = cc taken
phase_of-unwritten past byte phase.Up is stands taken h = grind (arith, stands)
phase_of-unwritten past byte phase.Down is stands taken h = grind (arith, stands.0, stands.2)
phase_of-unwritten past byte phase.Gone is stands taken h = cc taken

full_of-unwritten : (past : History) (event : Event) → StandsIn (phase_of past) (status_of past) (exiting_of past)
    → takes past event ≡ true → writes event ≡ false
    → full_of (Then past event) ≡ full_of past
full_of-unwritten past (Byte byte) so taken h =
    let status = status_of-unwritten past byte h in
    let exiting = exiting_of-unwritten past byte h in
    let phase = phase_of-unwritten past byte (phase_of past) refl so taken h in
    ap (λ (s : Status). full_with s (phase_of (Then past (Byte byte))) (exiting_of (Then past (Byte byte)))) status
    ∙ ap (λ (p : Phase). full_with (status_of past) p (exiting_of (Then past (Byte byte)))) phase
    ∙ ap (λ (x : Bool). full_with (status_of past) (phase_of past) x) exiting
full_of-unwritten past (Started pid label) so taken h = cc h
full_of-unwritten past (StartFailed label) so taken h = cc h
full_of-unwritten past (Death label) so taken h = cc h
full_of-unwritten past (Clock label) so taken h = cc h

unwritten : (past : History) (event : Event) (b : Bool) → StandsIn (phase_of past) (status_of past) (exiting_of past)
    → takes past event ≡ true
    → writes event ≡ b → record_at b (Then past event) ≡ [] → full_of (Then past event) ≡ full_of past
unwritten past event true so taken is none = cc none
unwritten past event false so taken is none = full_of-unwritten past event so taken is

is_written : (past : History) (event : Event) (b : Bool) → (record_at b (Then past event) ≡ [] → ⊥)
    → record_at b (Then past event) ≡ full_record (full_of (Then past event)) ∷ []
is_written past event true some = refl
is_written past event false some = absurd (some refl)

-- A step that asks for no record does not change what the record says.
pub step_unwritten : (past : History) (event : Event) → StandsIn (phase_of past) (status_of past) (exiting_of past)
    → records_in (reply_to past event) ≡ []
    → full_of (next past event) ≡ full_of past
step_unwritten past event so none =
    elim (takes past event) as (λ t. takes past event ≡ t → records_in (if t then Took (asks_of past event) else Held)
    ≡ []
    → full_of (if t then Then past event else past) ≡ full_of past) [
      | true ↦ λ taken none. unwritten past event (writes event) so taken refl (sym (records_of-asks_of past event)
          ∙ none)
      | false ↦ λ taken none. refl
    ] refl none

-- A step that asks for a record asks for the record of the state after it, and for no other.
pub step_written : (past : History) (event : Event) → records_in (reply_to past event) ≢ []
    → records_in (reply_to past event) ≡ full_record (full_of (next past event)) ∷ []
step_written past event some =
    elim (takes past event) as (λ t. (records_in (if t then Took (asks_of past event) else Held) ≡ [] → ⊥)
    → records_in (if t then Took (asks_of past event) else Held)
    ≡ full_record (full_of (if t then Then past event else past)) ∷ []) [
      | true ↦ λ some.
          let all = records_of-asks_of past event in
          all ∙ is_written past event (writes event) (λ none. some (all ∙ none))
      | false ↦ λ some. absurd (some refl)
    ] some
