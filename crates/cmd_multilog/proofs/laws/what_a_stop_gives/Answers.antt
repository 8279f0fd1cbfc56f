use Rattle.cmd_multilog.specs.Stop.{given}
use Rattle.std.proofs.Common.{false}
use Rattle.cmd_multilog.proofs.Stopping.{stops_at_a_line, loses_nothing, all_given}
use Rattle.cmd_multilog.proofs.laws.what_a_stop_gives.Goals as goal

pub returns : goal.returns
returns c = record {
  lines = stops_at_a_line;
  nothing_lost = loses_nothing;
  runs = λ script coming old new counts ran known end.
      all_given old.reader.bytes new.reader.bytes (given false coming) ran.bytes known ran.read end;
}
