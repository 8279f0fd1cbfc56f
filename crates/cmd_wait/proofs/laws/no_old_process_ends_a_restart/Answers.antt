use Rattle.cmd_wait.proofs.Lasting.{another_seen}
use Rattle.cmd_wait.proofs.laws.no_old_process_ends_a_restart.Goals as goal

pub returns : goal.returns
returns c = another_seen
