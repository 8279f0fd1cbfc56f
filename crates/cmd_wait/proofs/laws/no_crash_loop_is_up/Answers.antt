use Rattle.cmd_wait.proofs.Lasting.{up_lasts}
use Rattle.cmd_wait.proofs.laws.no_crash_loop_is_up.Goals as goal

pub returns : goal.returns
returns c = up_lasts
