use Rattle.std.proofs.Common.{Some, option_copied}
use Rattle.svc_system.proofs.Lefts.{found_of_boot}
use Rattle.svc_system.proofs.fates.recorded_fate.Goals as goal

pub returns-clause-of_boot : goal.returns-clause-of_boot
returns-clause-of_boot g c =
    c.own_fate.ensures.of_boot _ (found_of_boot (Some c.args.process) (option_copied c.args.boot) c.known_tick-tick.result
    c.find_in.result c.find_in.ensures)
