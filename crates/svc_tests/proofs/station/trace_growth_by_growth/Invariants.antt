use Rattle.svc_station.specs.Ends.{IsSameReader}
use Rattle.svc_tests.proofs.station.trace_growth_by_growth.Given as goal

abbrev pub invariant-loop-growths : goal.invariant-loop-growths
invariant-loop-growths g l = IsSameReader l.fn.reader l.reader
