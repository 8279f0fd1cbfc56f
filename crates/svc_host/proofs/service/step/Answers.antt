use Rattle.svc_host.proofs.Killing.{idled, one_event, one_look, took}
use Rattle.svc_host.proofs.service.step.Goals as goal

pub returns-in-Ok-Took-clause-keeps : goal.returns-in-Ok-Took-clause-keeps
returns-in-Ok-Took-clause-keeps g c =
    let event = c.in-Ok-Took.event in
    let more = took c.args.house.now c.turn-turned.new.self _ event c.in-Ok-Took.field-0-is c.in-Ok-Took.ensures.turned in
    rw c.heed.ensures.house (one_event _ _ event _ _ more c.heed.ensures.heeds)

pub returns-in-Ok-Idle-clause-keeps : goal.returns-in-Ok-Idle-clause-keeps
returns-in-Ok-Idle-clause-keeps g c =
    let same = idled c.args.house.now c.turn-turned.new.self _ c.in-Ok-Idle.field-0-is c.in-Ok-Idle.ensures.turned in
    rw c.idle.ensures.house (rw same (one_look _ _ _ c.idle.ensures.looks))
