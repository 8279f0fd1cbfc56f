use Rattle.tai_status.proofs.Recorded.{one_record}
use Rattle.tai_status.proofs.laws.one_record.Goals as goal

pub returns : goal.returns
returns c = one_record
