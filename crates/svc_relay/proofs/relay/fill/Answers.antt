use Rattle.svc_relay.proofs.Relayed.{gathers_none, gathers_one, gathers_then}
use Rattle.svc_relay.proofs.relay.fill.Goals as goal

pub returns-in-Some-clause-bytes : goal.returns-in-Some-clause-bytes
returns-in-Some-clause-bytes g c =
    let receiver = c.args.receiver.now in
    let waiting = c.args.waiting.now in
    let first = gathers_one receiver receiver c.take.new.self waiting waiting c.push.new.self c.as_slice.result.now
    c.in-Some.first (gathers_none receiver waiting)
    c.in-Some.ensures.taken c.push.ensures c.as_slice.ensures.bytes in
    gathers_then receiver c.take.new.self c.gather.new.receiver waiting c.push.new.self c.gather.new.waiting first
    c.gather.ensures.bytes
