use Rattle.svc_station.specs.Parking.{GoesOn, writer_in}
use Rattle.svc_tests.proofs.station.publish_turns.Given as goal

abbrev pub invariant-loop-turn : goal.invariant-loop-turn
invariant-loop-turn g l = GoesOn (writer_in l.fn.parked) l.writer
