use Rattle.host_law.proofs.Apart.{scan_apart}
use Rattle.host_law.proofs.Running.{runs}
use Rattle.host_law.proofs.ScanFollows.{scans_follow}
use Rattle.host_law.proofs.law.runs_are_of_suites.Goals as goal

pub returns : goal.returns
returns g c = runs (scans_follow _ scan_apart)
