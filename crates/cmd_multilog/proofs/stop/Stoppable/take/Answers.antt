use Rattle.std.proofs.Common.{arith}
use Rattle.cmd_multilog.proofs.Stopping.{line_behind}
use Rattle.cmd_multilog.proofs.stop.Stoppable.take.Goals as goal

pub returns-then-count-gt0-clause-line : goal.returns-then-count-gt0-clause-line
returns-then-count-gt0-clause-line g c =
    line_behind c.args.self.now.in_line c.read_once.new.into c.in_ok-count.count (omega (arith, c.if-count-gt0.true))
    c.in_ok-count.ensures.bound.0
