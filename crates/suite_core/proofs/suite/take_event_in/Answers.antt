use Rattle.std.proofs.Common.{sym, subst}
use Rattle.suite_core.specs.Places.{AreRising}
use Rattle.suite_core.proofs.suite.take_event_in.Goals as goal

pub take_event-requires-clause-rising : goal.take_event-requires-clause-rising
take_event-requires-clause-rising g c =
    subst (λ parts. AreRising parts) (sym c.deref_mut.ensures.value) c.requires.rising
