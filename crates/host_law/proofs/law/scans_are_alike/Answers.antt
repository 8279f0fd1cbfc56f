use Rattle.host_law.proofs.Scanning.{scans}
use Rattle.host_law.proofs.law.scans_are_alike.Goals as goal

pub returns : goal.returns
returns c = scans
