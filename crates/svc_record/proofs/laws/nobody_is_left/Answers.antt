use Rattle.svc_record.proofs.Own.{nobody}
use Rattle.svc_record.specs.declared.leftover.TheConstants.{GENERATIONS}
use Rattle.svc_record.proofs.laws.nobody_is_left.Goals as goal

pub returns : goal.returns
returns c = nobody GENERATIONS
