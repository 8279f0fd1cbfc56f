use Rattle.std.proofs.Common.{subst}
use Rattle.svc_house.specs.Calls.{ExtendedWhileKept, requested}
use Rattle.svc_host.proofs.service.open.Goals as goal

-- The house passes `first` on to the world, and that is what the beginning asks.
pub returns-clause-asks : goal.returns-clause-asks
returns-clause-asks g c =
    subst (λ asks. ExtendedWhileKept (g.W.World.calls c.args.world) c.open.result.calls (requested asks))
    c.asks-first.ensures
    c.open.ensures.calls
