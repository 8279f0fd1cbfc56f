use Rattle.std.proofs.Common.{take, ◌∙◌}
use Rattle.cmd_filters.proofs.Titles.{ShowsRead-further}
use Rattle.cmd_filters.proofs.proctitle.read_title.Goals as goal

pub reads-preserved : goal.reads-preserved
reads-preserved g c = (
  ShowsRead-further (take c.in-Ok.count c.read.new.into) c.reads.invariant.0 c.in-Ok.ensures.bytes.0 c.push_all.ensures,
  c.in-Ok.ensures.faults ∙ c.reads.invariant.1,
)
