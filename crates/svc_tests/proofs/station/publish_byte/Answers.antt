use Rattle.sup_core.specs.declared.event.Event.TheVariants.{Byte}
use Rattle.svc_station.proofs.Going.{GoesOn-published}
use Rattle.svc_tests.proofs.station.publish_byte.Goals as goal

pub returns : goal.returns
returns g c =
    let published = rw c.expect.ensures at c.publish.ensures.published in
    GoesOn-published c.args.writer.now c.publish.new.self (Byte c.args.byte) c.publish.ensures.same published
