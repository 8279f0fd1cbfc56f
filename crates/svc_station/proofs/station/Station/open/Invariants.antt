use Rattle.std.proofs.Common.{◌≡◌, ◌≤◌, length, vec_capacity}
use Rattle.svc_station.specs.WriterStates.{IsNewState, state_station}
use Rattle.svc_station.specs.Ends.{AreNewReaders}
use Rattle.svc_station.proofs.station.Station.open.Given as goal

abbrev pub invariant-loop-number : goal.invariant-loop-number
invariant-loop-number g l = record {
  state : IsNewState l.fn.machine l.trace_capacity l.readers l.state;
  count : length l.ends.items ≡ l.number;
  room : l.readers ≤ vec_capacity l.ends;
  each : AreNewReaders (state_station l.state) l.ends.items;
}
