use Rattle.svc_relay.proofs.Relayed.{puts_kept}
use Rattle.svc_relay.proofs.relay.Relay.turn.Goals as goal

pub returns-then-refill-clause-turned : goal.returns-then-refill-clause-turned
returns-then-refill-clause-turned g c =
    puts_kept c.args.self.now c.refill.new.self c.put.new.self c.put.result c.refill.ensures.here
    c.refill.ensures.outlet.0 c.refill.ensures.outlet.1 (c.refill.ensures.some c.if-refill.true)
    c.put.ensures.turned
