-- The last signal of a trace, and the last end.
use Rattle.std.proofs.Common.{◌≡◌, ◌≤◌, ℕ, Bool, true, false, List, [], ◌∷◌, Option, Some, None, refl, sym, ap, cond}
use Rattle.std.proofs.Common.{◌∙◌, arith, subst}
use Rattle.std.specs.Prelude.{◌==◌, nat_lt, is_some, option_map}
use Rattle.std.specs.List.{list_any}
use Rattle.std.proofs.lemmas.Bool.{and_parts}
use Rattle.std.proofs.lemmas.Bool.Decides.{Decides-eqb}
use Rattle.tai_status.specs.Label.{Tai64n, nanoseconds}
use Rattle.sup_core.specs.declared.event.Event.{Event}
use Rattle.sup_core.specs.declared.event.Event.TheVariants.{Byte, Started, StartFailed, Death, Clock}
use Rattle.svc_record.specs.declared.ending.Ending.{Ending}
use Rattle.svc_record.specs.declared.exit.Exit.{Exit}
use Rattle.cmd_why.specs.declared.entries.Kind.TheVariants.{Start, Signal}
use Rattle.cmd_why.specs.declared.facts.EndedProcess.{EndedProcess}
use Rattle.cmd_why.specs.declared.last_ends.LastEnd.{LastEnd}
use Rattle.cmd_why.specs.declared.last_ends.LastEnd.TheVariants.{Traced, Recorded}
use Rattle.cmd_why.specs.Entries.{behind_last, byte_in, is_of, last_such}
use Rattle.cmd_why.specs.Facts.{same_label}
use Rattle.cmd_why.specs.LastEnd.{ended_in, how, is_later, is_of_end, later, time_of_end, traced_end}
use Rattle.cmd_why.specs.Laws.{EndsAreTheirOwn, IsItsOwn, IsLast, LastEndIsLatest, NamesEachSignal, NamesTheLastSignal}
use Rattle.cmd_why.proofs.Lasts.{is-byte, some_last}

last_step : {X : Type 0} (test : X → Bool) (x : X) (xs : List X) (y : X) (more here : Bool) → list_any test xs ≡ more
    → test x ≡ here → (last_such test xs ≡ Some y → IsLast test xs y)
    → cond more (last_such test xs) (cond here (Some x) None) ≡ Some y → IsLast test (x ∷ xs) y
last_step test x xs y true here some passes later found =
    let rest = later found in record {
      before = x ∷ rest.before;
      after = rest.after;
      is = ap (λ zs. x ∷ zs) rest.is;
      passes = rest.passes;
      last = rest.last;
    }
last_step test x xs y false true none passes later found =
    let same : x ≡ y = cc found in record {
      before = [];
      after = xs;
      is = ap (λ z. z ∷ xs) same;
      passes = ap test (sym same) ∙ passes;
      last = none;
    }
last_step test x xs y false false none passes later found = absurd (cc found)

last_found : {X : Type 0} (test : X → Bool) (xs : List X) (y : X) → last_such test xs ≡ Some y → IsLast test xs y
last_found test [] y found = absurd (cc found)
last_found test (x ∷ xs) y found =
    last_step test x xs y (list_any test xs) (test x) refl refl (last_found test xs y) found

pub names_last : NamesTheLastSignal
names_last content status now byte sent =
    let entries = behind_last Start content.entries in
    last_found (is_of Signal) entries (Byte byte) (is-byte (last_such (is_of Signal) entries) byte sent)

no_byte : (event : Option Event) (entries : List Event) → last_such (is_of Signal) entries ≡ event
    → byte_in event ≡ None → event ≡ None
no_byte None entries is none = refl
no_byte (Some (Byte byte)) entries is none = absurd (cc none)
no_byte (Some (Started pid label)) entries is none =
    absurd (cc (last_found (is_of Signal) entries (Started pid label) is).passes)
no_byte (Some (StartFailed label)) entries is none =
    absurd (cc (last_found (is_of Signal) entries (StartFailed label) is).passes)
no_byte (Some (Death label)) entries is none =
    absurd (cc (last_found (is_of Signal) entries (Death label) is).passes)
no_byte (Some (Clock label)) entries is none =
    absurd (cc (last_found (is_of Signal) entries (Clock label) is).passes)

pub names_each : NamesEachSignal
names_each content status now none =
    let entries = behind_last Start content.entries in
    sym (some_last (is_of Signal) entries)
    ∙ ap (λ (event : Option Event). is_some event) (no_byte (last_such (is_of Signal) entries) entries refl none)

-- Ends

at_most : (a b : ℕ) → nat_lt a b ≡ true → a ≤ b
at_most a b is = grind (arith, is)

at_least : (a b : ℕ) → nat_lt a b ≡ false → b ≤ a
at_least a b is = grind (arith, is)

abbrev IsLatest : Exit → Option EndedProcess → LastEnd → Type 0
IsLatest exit found end = (nanoseconds exit.label ≤ nanoseconds (time_of_end end))
    × ((ended : EndedProcess) → found ≡ Some ended → nanoseconds ended.label ≤ nanoseconds (time_of_end end))

-- a line of `exit`, and an end in the trace
later_step : (exit : Exit) (ended : EndedProcess) (after : Bool) → is_later exit ended ≡ after
    → IsLatest exit (Some ended) (cond after (Recorded exit) (Traced ended (how exit ended)))
later_step exit ended true is = (
  omega arith,
  λ other same.
      let e : ended ≡ other = cc same in
      subst (λ (o : EndedProcess). nanoseconds o.label ≤ nanoseconds exit.label) e
      (at_most (nanoseconds ended.label) (nanoseconds exit.label) is),
)
later_step exit ended false is = (
  at_least (nanoseconds ended.label) (nanoseconds exit.label) is,
  λ other same.
      let e : ended ≡ other = cc same in
      subst (λ (o : EndedProcess). nanoseconds o.label ≤ nanoseconds ended.label) e (omega arith),
)

latest_of : (exit : Exit) (found : Option EndedProcess) → IsLatest exit found (later exit found)
latest_of exit None = (omega arith, λ ended none. absurd (cc none))
latest_of exit (Some ended) = later_step exit ended (is_later exit ended) refl

pub latest : LastEndIsLatest
latest facts exit end is =
    let same : later exit (ended_in facts) ≡ end = cc is in
    subst (λ (e : LastEnd). IsLatest exit (ended_in facts) e) same (latest_of exit (ended_in facts))

-- How a process ended

label_is : (a b : Tai64n) → same_label a b ≡ true → a ≡ b
label_is a b is =
    let parts = and_parts (a.sec == b.sec) (a.nano == b.nano) is in
    let sec = (Decides-eqb a.sec b.sec).0 parts.0 in
    let nano = (Decides-eqb a.nano b.nano).0 parts.1 in
    let label : ℕ → ℕ → Tai64n = λ s n. record { sec = s; nano = n } in
    ap (λ (s : ℕ). label s a.nano) sec ∙ ap (λ (n : ℕ). label b.sec n) nano

how_step : (exit : Exit) (found ended : EndedProcess) (ending : Ending) (same : Bool) → is_of_end exit found ≡ same
    → Traced found (cond same (Some exit.ending) None) ≡ Traced ended (Some ending) → IsItsOwn exit ended ending
how_step exit found ended ending true same is =
    let e : found ≡ ended = cc is in
    let parts = and_parts (exit.pid == found.pid) (same_label exit.label found.label) same in record {
      pid = (Decides-eqb exit.pid found.pid).0 parts.0 ∙ ap (λ (one : EndedProcess). one.pid) e;
      label = label_is exit.label found.label parts.1 ∙ ap (λ (one : EndedProcess). one.label) e;
      ending_is = cc is;
    }
how_step exit found ended ending false same is = absurd (cc is)

own_step : (exit : Exit) (found ended : EndedProcess) (ending : Ending) (after : Bool)
    → cond after (Recorded exit) (Traced found (how exit found)) ≡ Traced ended (Some ending)
    → IsItsOwn exit ended ending
own_step exit found ended ending true is = absurd (cc is)
own_step exit found ended ending false is = how_step exit found ended ending (is_of_end exit found) refl is

own_of : (exit : Exit) (found : Option EndedProcess) (ended : EndedProcess) (ending : Ending)
    → later exit found ≡ Traced ended (Some ending) → IsItsOwn exit ended ending
own_of exit None ended ending is = absurd (cc is)
own_of exit (Some found) ended ending is = own_step exit found ended ending (is_later exit found) is

unsaid : (found : Option EndedProcess) (ended : EndedProcess) (ending : Ending)
    → option_map (λ (one : EndedProcess). Traced one None) found ≡ Some (Traced ended (Some ending)) → ⊥
unsaid None ended ending is = cc is
unsaid (Some found) ended ending is = cc is

pub their_own : EndsAreTheirOwn
their_own facts None ended ending is = absurd (unsaid (traced_end facts) ended ending is)
their_own facts (Some exit) ended ending is =
    (exit, refl, own_of exit (ended_in facts) ended ending (cc is))
