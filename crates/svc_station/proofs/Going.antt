-- A writer with a history that continues.
use Rattle.std.proofs.Common.{◌≡◌, Bool, true, false, List, [], ◌∷◌, ◌++◌, refl, sym, ◌∙◌, if◌then◌else◌}
use mathlib.Core.List.{IsPrefix}
use Rattle.std.proofs.lemmas.List.{append-nil}
use Rattle.sup_core.specs.declared.event.Event.{Event}
use Rattle.sup_core.specs.Rules.{takes}
use Rattle.svc_station.specs.declared.writer.Writer.{Writer}
use Rattle.svc_station.specs.Ends.{history_of, published, station, with_if_taken}
use Rattle.svc_station.specs.Parking.{GoesOn}
use Rattle.svc_station.proofs.Prefixes.{prefix_self, prefix_trans}

pub GoesOn-self : (writer : Writer) → GoesOn writer writer
GoesOn-self writer = (refl, prefix_self (published writer))

pub GoesOn-then : (one two three : Writer) → GoesOn one two → GoesOn two three → GoesOn one three
GoesOn-then one two three first second =
    (second.0 ∙ first.0, prefix_trans (published one) (published two) (published three) first.1 second.1)

prefix_if : (b : Bool) (log new : List Event) (event : Event) → new ≡ (if b then log ++ event ∷ [] else log)
    → IsPrefix log new
prefix_if true log new event is = (event ∷ [], sym is)
prefix_if false log new event is = ([], append-nil log ∙ sym is)

-- the same after any publication
pub GoesOn-published : (old new : Writer) (event : Event) → station new ≡ station old
    → published new ≡ with_if_taken old event → GoesOn old new
GoesOn-published old new event same is =
    (same, prefix_if (takes (history_of old) event) (published old) (published new) event is)
