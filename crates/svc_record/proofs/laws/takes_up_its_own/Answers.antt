use Rattle.svc_record.proofs.Own.{takes_up}
use Rattle.svc_record.specs.declared.leftover.TheConstants.{GENERATIONS}
use Rattle.svc_record.proofs.laws.takes_up_its_own.Goals as goal

pub returns : goal.returns
returns c = takes_up GENERATIONS
