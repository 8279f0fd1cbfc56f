use Rattle.std.proofs.Common.{◌≡◌, drop}
use Rattle.svc_maker.specs.Pipes.{pipes_of}
use Rattle.svc_maker.proofs.pipes.pipes_of.Given as goal

abbrev pub invariant-loop-pair : goal.invariant-loop-pair
invariant-loop-pair l = pipes_of l.slot l.pipes ≡ pipes_of l.slot (drop l.pair-index l.pipes)
