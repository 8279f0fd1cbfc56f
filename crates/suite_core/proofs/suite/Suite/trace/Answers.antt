use Rattle.std.proofs.Common.{sym, subst}
use Rattle.suite_core.specs.Places.{AreRising}
use Rattle.suite_core.proofs.Tied.{parts-rise}
use Rattle.suite_core.proofs.suite.Suite.trace.Goals as goal

pub trace_of-requires : goal.trace_of-requires
trace_of-requires g c =
    subst (λ parts. AreRising parts) (sym c.deref.ensures.value)
    (parts-rise c.self.inside.table c.self.inside.parts.items c.self.invariant.rising c.self.invariant.tied)
