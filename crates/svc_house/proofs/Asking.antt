-- A signal goes to a process.
use Rattle.std.proofs.Common.{◌≡◌, ℕ, ◌<◌, Bool, true, false, List, [], ◌∷◌, ◌++◌, map, All, if◌then◌else◌, refl, arith}
use Rattle.std.proofs.lemmas.List.Elements.{All-append, All-cons, All-nil}
use Rattle.sup_core.specs.declared.asks.Ask.{Ask}
use Rattle.sup_core.specs.declared.asks.Ask.TheVariants.{Signal, Start}
use Rattle.sup_core.specs.declared.asks.Sig.{Sig}
use Rattle.sup_core.specs.declared.event.Event.{Event}
use Rattle.sup_core.specs.declared.event.Event.TheVariants.{Byte, Started, StartFailed, Death, Clock}
use Rattle.sup_core.specs.History.{History, Then, calls_for_start, pid_of, runs}
use Rattle.sup_core.specs.Rules.{asks_of, record_of, signals_after, signals_of, start_of, writes}
use Rattle.svc_house.specs.Calls.{IsAsk}

each-fit : (pid : ℕ) → 0 < pid → (sigs : List Sig) → All IsAsk (map (λ sig. Signal sig pid) sigs)
each-fit pid runs [] = All-nil IsAsk
each-fit pid runs (sig ∷ sigs) =
    All-cons IsAsk (Signal sig pid) (map (λ sig. Signal sig pid) sigs) runs (each-fit pid runs sigs)

if-fit : (b : Bool) (asks : List Ask) → (b ≡ true → All IsAsk asks) → All IsAsk (if b then asks else [])
if-fit true asks fit = fit refl
if-fit false asks fit = All-nil IsAsk

one-fit : (ask : Ask) → IsAsk ask → All IsAsk (ask ∷ [])
one-fit ask fit = All-cons IsAsk ask [] fit (All-nil IsAsk)

runs-process : (past : History) → runs past ≡ true → 0 < pid_of past
runs-process past is = grind (arith, is)

signals-fit : (past : History) (event : Event) → All IsAsk (signals_after past event)
signals-fit past (Byte byte) =
    if-fit (runs past) (map (λ sig. Signal sig (pid_of past)) (signals_of byte))
    (λ is. each-fit (pid_of past) (runs-process past is) (signals_of byte))
signals-fit past (Started pid label) = All-nil IsAsk
signals-fit past (StartFailed label) = All-nil IsAsk
signals-fit past (Death label) = All-nil IsAsk
signals-fit past (Clock label) = All-nil IsAsk

-- Each signal that is asked for goes to a process.
pub asks-fit : (past : History) (event : Event) → All IsAsk (asks_of past event)
asks-fit past event =
    let records = if writes event then record_of (Then past event) else [] in
    let starts = start_of (Then past event) in
    All-append IsAsk (signals_after past event ++ records) starts
    (All-append IsAsk (signals_after past event) records (signals-fit past event)
    (if-fit (writes event) (record_of (Then past event)) (λ _. one-fit _ tt)))
    (if-fit (calls_for_start (Then past event)) (Start ∷ []) (λ _. one-fit Start tt))
