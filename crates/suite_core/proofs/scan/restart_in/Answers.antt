use Rattle.std.proofs.Common.{sym, subst}
use Rattle.suite_core.specs.Places.{AreRising}
use Rattle.suite_core.proofs.scan.restart_in.Goals as goal

pub restart_all-requires : goal.restart_all-requires
restart_all-requires g c = subst (λ parts. AreRising parts) (sym c.deref_mut.ensures.value) c.requires
