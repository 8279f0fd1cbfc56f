use Rattle.tai_status.proofs.FullRecorded.{one_full_record}
use Rattle.tai_status.proofs.laws.one_full_record.Goals as goal

pub returns : goal.returns
returns c = one_full_record
