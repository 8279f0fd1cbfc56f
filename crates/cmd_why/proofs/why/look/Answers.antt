use Rattle.std.proofs.Common.{rules, ◌≡◌, refl}
use Rattle.svc_client.specs.Sight.{sight}
use Rattle.cmd_why.specs.Why.{Reaches}
use Rattle.cmd_why.specs.declared.why.ReachOutcome.TheVariants as reach
use Rattle.cmd_why.proofs.why.look.Goals as goal

pub returns-in-Absent-clause-ok : goal.returns-in-Absent-clause-ok
returns-in-Absent-clause-ok g c =
    let old = c.args.observer.now in
    let asked = g.S.Services.calls c.reach_service.new.services in
    let reaches : Reaches c.args.folder.now (reach.Absent c.in-Absent.absence) old.calls asked = search rules in
    let same : sight asked (g.C.TimeSource.readings c.observer.inside.clock) ≡ sight asked old.readings = search rules in
    record { reach = reach.Absent c.in-Absent.absence; asked = asked; reaches = reaches; finds = (refl, same) }

pub returns-in-Unread-clause-ok : goal.returns-in-Unread-clause-ok
returns-in-Unread-clause-ok g c =
    let old = c.args.observer.now in
    let asked = g.S.Services.calls c.reach_service.new.services in
    let reaches : Reaches c.args.folder.now reach.Unread old.calls asked = search rules in
    let same : sight asked (g.C.TimeSource.readings c.observer.inside.clock) ≡ sight asked old.readings = search rules in
    record { reach = reach.Unread; asked = asked; reaches = reaches; finds = same }

pub returns-in-Bad-clause-ok : goal.returns-in-Bad-clause-ok
returns-in-Bad-clause-ok g c =
    let old = c.args.observer.now in
    let asked = g.S.Services.calls c.reach_service.new.services in
    let reaches : Reaches c.args.folder.now (reach.Bad c.in-Bad.fault) old.calls asked = search rules in
    let same : sight asked (g.C.TimeSource.readings c.observer.inside.clock) ≡ sight asked old.readings = search rules in
    record { reach = reach.Bad c.in-Bad.fault; asked = asked; reaches = reaches; finds = (refl, same) }
