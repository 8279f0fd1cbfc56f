-- Rounds, one after the other.
use Rattle.std.proofs.Common.{◌≡◌, ◌≢◌, ℕ, List, [], ◌∷◌, length, refl, Option, arith}
use Rattle.tai_status.specs.Counted.{Device}
use Rattle.tai_status.specs.Extended.{Extended}
use Rattle.svc_client.specs.Calls.{Call}
use Rattle.cmd_wait.specs.Steps.{Step, Read, Sight, sight, IsOver}
use Rattle.cmd_wait.specs.Words.{Order}
use Rattle.cmd_wait.specs.Finding.{Awaited, awaited, folders}
use Rattle.cmd_wait.specs.declared.finding.AwaitedService.{AwaitedService}
use Rattle.cmd_wait.specs.Watching.{Watched, watched, first_watch, Pauses}
use Rattle.cmd_wait.specs.Rounds.{LooksAt, Waits, none, more, looks_of}
use Rattle.cmd_wait.specs.Ends.{Scene, scene, EndsBy, WaitsFor}

-- The clock was read, and then rounds followed that are not the last.
pub record IsUnderWay (order : Order) (asked : List Awaited) (begin : ℕ) (old : Sight) (left : List Awaited) (now : Watched) : Type 0 where
  pub begun : Sight
  pub read : Extended old.steps begun.steps (Read begin ∷ [])
  pub unasked : begun.calls ≡ old.calls
  pub waits : Waits order begin asked (watched first_watch begun) left now

-- before the first round
pub way-begins : (order : Order) (asked : List Awaited) (begin : ℕ) (calls : Option (List Call)) (steps read : Option (List Step))
    → Extended steps read (Read begin ∷ [])
    → IsUnderWay order asked begin (sight calls steps) asked (watched first_watch (sight calls read))
way-begins order asked begin calls steps read h = record { begun = sight calls read; read = h; unasked = refl; waits = none }

-- one more round, and its pause
pub way-more : (order : Order) (asked : List Awaited) (begin now : ℕ) (old : Sight) (left after : List Awaited) (was new : Watched)
    (looked-at : Option (List Call)) (read : Option (List Step))
    → IsUnderWay order asked begin old left was → Extended was.sight.steps read (Read now ∷ [])
    → LooksAt order.goal left after [] was.sight.calls looked-at
    → after ≢ [] → (IsOver order.limit begin now → ⊥)
    → Pauses order.limit begin (folders after) (watched was.watch (sight looked-at read)) new
    → IsUnderWay order asked begin old after new
way-more order asked begin now old left after was new looked-at read way h looked some in_time pauses = record {
  begun = way.begun;
  read = way.read;
  unasked = way.unasked;
  waits = more way.waits (record {
    now = now;
    middle = sight looked-at read;
    takes = record { read = h; looked = looked };
    some = some;
    in_time = in_time;
    pauses = pauses;
  });
}

-- the last round
pub way-ends : (command : List ℕ) (order : Order) (asked : List Awaited) (begin status : ℕ) (old : Sight) (now : Watched) (left : List Awaited) (faults : Device)
    (new : Scene) → (way : IsUnderWay order asked begin old left now)
    → EndsBy command order asked begin (looks_of way.waits) left status (scene now.sight faults) new
    → WaitsFor command order asked status (scene old faults) new
way-ends command order asked begin status old now left faults new way ends = record {
  begin = begin;
  begun = way.begun;
  left = left;
  middle = now;
  read = way.read;
  unasked = way.unasked;
  waits = way.waits;
  ends = ends;
}

pub none-left : (items : List AwaitedService) → length items ≡ 0 → awaited items ≡ []
none-left [] h = refl
none-left (item ∷ items) h = absurd (omega (arith, h))

pub some-left : (items : List AwaitedService) → (length items ≡ 0 → ⊥) → awaited items ≢ []
some-left [] h = absurd (h refl)
some-left (item ∷ items) h = λ e. absurd cc
