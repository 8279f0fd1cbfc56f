use Rattle.std.proofs.Common.{refl, []}
use Rattle.cmd_svscan.proofs.InTurn.{ends-more}
use Rattle.cmd_svscan.proofs.closing.end_in_steps.Goals as goal

pub loop-init : goal.loop-init
loop-init g c = ([], refl)

pub loop-preserved : goal.loop-preserved
loop-preserved g c =
    ends-more c.args.host.now.parts c.loop.host.parts c.end_services.new.self.parts c.loop.invariant
    c.end_services.ensures.each
