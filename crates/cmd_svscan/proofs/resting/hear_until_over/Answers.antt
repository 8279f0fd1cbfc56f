use Rattle.std.proofs.Common.{◌∙◌, append-nil}
use Rattle.cmd_svscan.specs.Serving.{given_by}
use Rattle.cmd_svscan.proofs.InTurn.{collects-unless}
use Rattle.cmd_svscan.proofs.resting.hear_until_over.Goals as goal

pub loop-preserved : goal.loop-preserved
loop-preserved g c = record {
  host = collects-unless c.is_none-is_over.result c.args.host.now c.loop.host c.join_unless.new.host
      c.loop.invariant.host c.join_unless.ensures;
  given = c.in_default-next_byte.ensures ∙ append-nil (given_by c.loop.inbox) ∙ c.loop.invariant.given;
}
