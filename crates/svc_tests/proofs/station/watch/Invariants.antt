use Rattle.svc_station.specs.Ends.{IsSameReader}
use Rattle.svc_tests.proofs.station.watch.Given as goal

abbrev pub invariant-loop : goal.invariant-loop
invariant-loop g l = IsSameReader l.fn.reader l.reader
