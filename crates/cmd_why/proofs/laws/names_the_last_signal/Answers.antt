use Rattle.cmd_why.proofs.Own.{names_each, names_last}
use Rattle.cmd_why.proofs.laws.names_the_last_signal.Goals as goal

pub returns-clause-last : goal.returns-clause-last
returns-clause-last c = names_last

pub returns-clause-none : goal.returns-clause-none
returns-clause-none c = names_each
