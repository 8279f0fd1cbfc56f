use Rattle.cmd_wait.proofs.Lasting.{ready_said}
use Rattle.cmd_wait.proofs.laws.ready_is_of_the_process.Goals as goal

pub returns : goal.returns
returns c = ready_said
