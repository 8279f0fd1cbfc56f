use Rattle.std.proofs.Common.{Some, None, ◌∙◌, sym, refl}
use Rattle.svscan_rounds.specs.declared.orders.Order.TheVariants as order
use Rattle.svscan_rounds.proofs.Turning.{passed-none, passed-more, passed-rests}
use Rattle.svscan_rounds.proofs.rounds.rest.Goals as goal

pub loop-init : goal.loop-init
loop-init g c = (passed-none (g.K.ServiceSet.calls c.args.services.now), c.requires.ready)

pub loop-preserved : goal.loop-preserved
loop-preserved g c =
    let calls = g.K.ServiceSet.calls in (
      passed-more (calls c.args.services.now) (calls c.loop.services) (calls c.hear.new.self) c.in-Some-hear.byte
          c.loop.invariant.0 c.in-Some-hear.ensures.heard (sym c.order_of.ensures ∙ c.in_default.is),
      c.hear.ensures.ready,
    )

pub returns-in-Some-order_of-clause-rests : goal.returns-in-Some-order_of-clause-rests
returns-in-Some-order_of-clause-rests g c =
    let calls = g.K.ServiceSet.calls in
    passed-rests c.in-Some-order_of.order (calls c.args.services.now) (calls c.loop.services) (calls c.hear.new.self)
    (Some c.in-Some-hear.byte) c.loop.invariant.0
    c.in-Some-hear.ensures.heard (sym c.order_of.ensures ∙ c.in-Some-order_of.is)

pub returns-in-None-hear-clause-rests : goal.returns-in-None-hear-clause-rests
returns-in-None-hear-clause-rests g c =
    let calls = g.K.ServiceSet.calls in
    passed-rests order.Round (calls c.args.services.now) (calls c.loop.services) (calls c.hear.new.self) None
    c.loop.invariant.0 c.in-None-hear.ensures.heard refl
