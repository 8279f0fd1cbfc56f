use Rattle.host_law.proofs.Apart.{scan_apart}
use Rattle.host_law.proofs.Running.{of_suite}
use Rattle.host_law.proofs.ScanFollows.{scans_follow}
use Rattle.host_law.proofs.law.host_is_of_a_suite.Goals as goal

pub returns : goal.returns
returns g c = of_suite (scans_follow _ scan_apart) c.args.host.now c.has_run.ensures
