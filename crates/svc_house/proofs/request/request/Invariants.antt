use Rattle.std.proofs.Common.{◌≡◌, take}
use Rattle.svc_house.specs.Calls.{ExtendedWhileKept, requested}
use Rattle.svc_house.proofs.request.request.Given as goal

abbrev pub invariant-loop-ask : goal.invariant-loop-ask
invariant-loop-ask g l =
    ExtendedWhileKept (g.W.World.calls l.fn.world) (g.W.World.calls l.world) (requested (take l.ask-index l.asks))
    × (g.W.World.mends l.world ≡ g.W.World.mends l.fn.world)
