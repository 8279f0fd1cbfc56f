use Rattle.std.proofs.Common.{◌∙◌}
use Rattle.svc_relay.proofs.Relayed.{gathers_one}
use Rattle.svc_relay.proofs.relay.gather.Goals as goal

pub loop-receiver-preserved : goal.loop-receiver-preserved
loop-receiver-preserved g c =
    let same = c.loop-receiver.invariant.0 in (
      (c.take.ensures.same.0 ∙ same.0, c.take.ensures.same.1 ∙ same.1),
      gathers_one c.args.receiver.now c.loop-receiver.receiver c.take.new.self c.args.waiting.now
          c.loop-receiver.waiting c.push.new.self c.as_slice.result.now
          c.in-Some.letter c.loop-receiver.invariant.1 c.in-Some.ensures.taken c.push.ensures c.as_slice.ensures.bytes,
    )
