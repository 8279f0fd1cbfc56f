use Rattle.cmd_local.proofs.Parts.{found_part, none_part}
use Rattle.cmd_local.proofs.line.first_part.Goals as goal

pub returns-in-Some-clause-part : goal.returns-in-Some-clause-part
returns-in-Some-clause-part c = found_part c.args.bytes.now c.in-Some.at c.in-Some.ensures.0 c.in-Some.ensures.1

pub returns-in-None-clause-part : goal.returns-in-None-clause-part
returns-in-None-clause-part c = none_part c.args.bytes.now c.in-None.ensures
