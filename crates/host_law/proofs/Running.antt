-- A run of a host is a run of each suite that stands for it.
use Rattle.std.proofs.Common.{◌≡◌, ◌<◌, ◌≤◌, ℕ, List, [], ◌∷◌, ◌++◌, refl, sym, subst, ap, ◌∙◌, Option, arith}
use Rattle.std.proofs.lemmas.List.Elements.{All-nil}
use Rattle.scan_table.specs.Index.{IsNumbered}
use Rattle.scan_table.specs.Table.{new_table}
use Rattle.sup_trace.specs.Trace.{IsTrace}
use Rattle.suite_core.specs.Parts.{PartState}
use Rattle.svc_host.specs.Calls.{Call}
use Rattle.tai_status.specs.Label.{Tai64n}
use Rattle.scan_table.specs.Slots.{Row}
use Rattle.suite_core.specs.Suite.{SuiteState, new_suite}
use Rattle.svc_host.specs.declared.host.HostOut.{HostOut}
use Rattle.svc_host.specs.Rounds.{HostState}
use Rattle.svc_host.specs.HostRun.{CameToBe, HostRun, IsMove, Move, Scans, Hears, Ends, Stays}
use Rattle.host_law.specs.Whole.{AllAccepted, Follows, IsOfSuite, RunsAreOfSuites, StandsFor, Turn, suite_turned}
use Rattle.host_law.specs.Whole.{turned_along}
use Rattle.host_law.proofs.Lists.{ScansFollow}
use Rattle.host_law.proofs.Moving.{ends, hears, stays_so}

pub along_append : {A : Type 0} (suite : SuiteState) (xs ys : List (Turn A))
    → turned_along suite (xs ++ ys) ≡ turned_along (turned_along suite xs) ys
along_append suite [] ys = refl
along_append suite (x ∷ xs) ys = along_append (suite_turned suite x) xs ys

pub accepted_append : {A : Type 0} (suite : SuiteState) (xs ys : List (Turn A)) → AllAccepted suite xs
    → AllAccepted (turned_along suite xs) ys → AllAccepted suite (xs ++ ys)
accepted_append suite [] ys one two = two
accepted_append suite (x ∷ xs) ys one two = (one.0, accepted_append (suite_turned suite x) xs ys one.1 two)

pub then_follows : {A : Type 0} (suite : SuiteState) (mid new : HostState) (one : Follows A suite mid)
    → Follows A (turned_along suite one.turns) new → Follows A suite new
then_follows suite mid new one rest = record {
  turns = one.turns ++ rest.turns;
  accepted = accepted_append suite one.turns rest.turns one.accepted rest.accepted;
  stands = subst (λ (s : SuiteState). StandsFor s new) (sym (along_append suite one.turns rest.turns)) rest.stands;
}

moved : {A : Type 0} → ScansFollow A → (suite : SuiteState) (move : Move) (old new : HostState)
    → StandsFor suite old → IsMove move old new → Follows A suite new
moved scan suite (Scans rows label out) old new stands is = scan suite rows label out old new stands is
moved scan suite (Hears event) old new stands is = hears suite old new event stands is.0 is.1
moved scan suite (Ends id) old new stands is = ends suite old new id stands is.0 is.1
moved scan suite Stays old new stands is = stays_so suite old new stands is.0 is.1

pub runs : {A : Type 0} → ScansFollow A → RunsAreOfSuites A
runs scan suite old new [] stands run = record {
  turns = [];
  accepted = tt;
  stands = subst (StandsFor suite) (sym run) stands;
}
runs scan suite old new (move ∷ moves) stands run =
    let one = moved scan suite move old run.0 stands run.1 in
    then_follows suite run.0 new one (runs scan (turned_along suite one.turns) run.0 new moves one.stands run.2)

-- A new suite has the table of a host without parts.
stands_new : (capacity : ℕ) (calls : Option (List Call)) → 0 < capacity → capacity ≤ 65536
    → StandsFor (new_suite 0 capacity) (record { table = new_table 0; parts = []; calls = calls })
stands_new capacity calls some few = record {
  suite_is = record {
    room = some;
    limit = few;
    rising = λ i j d first within. absurd (omega (arith, within));
    numbered = All-nil (IsNumbered 0);
    tied = refl;
    traces = All-nil (λ (part : PartState). IsTrace part.trace);
  };
  table = refl;
  apart = tt;
  parts = tt;
}

pub of_suite : {A : Type 0} → ScansFollow A → (host : HostState) → CameToBe host → IsOfSuite A host
of_suite scan host came capacity some few =
    runs scan (new_suite 0 capacity) (record { table = new_table 0; parts = []; calls = came.calls }) host
    came.runs.moves (stands_new capacity came.calls some few) came.runs.run
