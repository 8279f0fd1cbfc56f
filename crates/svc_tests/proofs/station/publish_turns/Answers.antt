use Rattle.std.proofs.Common.{sym, subst}
use Rattle.svc_station.specs.Parking.{GoesOn, writer_in}
use Rattle.svc_station.proofs.Going.{GoesOn-self, GoesOn-then}
use Rattle.svc_tests.proofs.station.publish_turns.Goals as goal

pub loop-turn-init : goal.loop-turn-init
loop-turn-init g c =
    subst (λ writer. GoesOn (writer_in c.args.parked) writer) (sym c.into_writer-writer.ensures)
    (GoesOn-self (writer_in c.args.parked))

pub loop-turn-preserved : goal.loop-turn-preserved
loop-turn-preserved g c =
    let before = c.loop-turn.writer in
    let after = c.publish_byte-in-loop-turn.new.writer in
    let turn = GoesOn-then before c.publish_byte.new.writer after c.publish_byte.ensures
    c.publish_byte-in-loop-turn.ensures in
    GoesOn-then (writer_in c.args.parked) before after c.loop-turn.invariant turn
