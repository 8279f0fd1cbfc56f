use Rattle.scan_table.specs.declared.part.Role.TheVariants.{Main, Log}
use Rattle.svc_host.proofs.Going.{heard_then, none_heard}
use Rattle.svc_host.proofs.Stepping.{sight_heard}
use Rattle.svc_host.proofs.host.end_pair.Goals as goal

pub returns-in_default : goal.returns-in_default
returns-in_default g c = none_heard c.args.parts.now.items

pub returns : goal.returns
returns g c =
    let ends = c.end_output.ensures in
    heard_then _ ends.mid _ (sight_heard _ Main _ _ _ ends.service_seen) (sight_heard _ Log _ _ _ ends.logger_seen)
