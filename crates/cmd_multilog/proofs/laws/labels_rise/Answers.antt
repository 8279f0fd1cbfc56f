use Rattle.cmd_multilog.proofs.Rises.{labels_rise}
use Rattle.cmd_multilog.proofs.laws.labels_rise.Goals as goal

pub returns : goal.returns
returns c = labels_rise
