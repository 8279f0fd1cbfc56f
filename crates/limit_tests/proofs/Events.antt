-- A line's event is a valid event of a suite.
use Rattle.std.proofs.Common.{List, [], ◌∷◌, ◌++◌}
use Rattle.std.specs.List.{All}
use Rattle.std.proofs.lemmas.List.Elements.{All-nil, All-cons, All-append}
use Rattle.sup_core.proofs.Lines.{IsEvent-in_range}
use Rattle.suite_lines.specs.declared.event.SuiteEvent.{SuiteEvent}
use Rattle.suite_lines.specs.declared.event.SuiteEvent.TheVariants.{Scan, At}
use Rattle.suite_lines.specs.Text.{IsSpellable}
use Rattle.suite_core.specs.Suite.{IsSuiteEvent}

spellable : {A : Type 0} (event : SuiteEvent A) → IsSpellable event → IsSuiteEvent event
spellable (Scan rows label) is = tt
spellable (At part event) is = IsEvent-in_range event is.1

pub one_more : {A : Type 0} (events : List (SuiteEvent A)) (event : SuiteEvent A) → All IsSuiteEvent events
    → IsSpellable event → All IsSuiteEvent (events ++ event ∷ [])
one_more events event all is =
    All-append IsSuiteEvent events (event ∷ []) all
    (All-cons IsSuiteEvent event [] (spellable event is) (All-nil IsSuiteEvent))
