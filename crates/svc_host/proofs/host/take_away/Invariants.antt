use Rattle.std.proofs.Common.{take}
use Rattle.svc_host.specs.Rounds.{Forgets}
use Rattle.svc_host.proofs.host.take_away.Given as goal

-- the maker has forgotten the slots so far
abbrev pub invariant-loop-slot : goal.invariant-loop-slot
invariant-loop-slot g l =
    Forgets (take l.slot-index l.drops) (g.M.Maker.calls l.fn.factory.maker) (g.M.Maker.calls l.factory.maker)
