use Rattle.std.proofs.Common.{◌≡◌, ◌≤◌, ◌-◌, ◌*◌, ◌^◌, None}
use Rattle.tai_status.specs.Counted.{Works}
use Rattle.mlog_files.specs.Store.{Stays}
use Rattle.mlog_line.specs.LineRouter.{Serves, IsWritten}
use Rattle.mlog_core.specs.Scene.{scene}
use Rattle.mlog_core.specs.Story.{Came}
use Rattle.mlog_core.proofs.stream.run_lines.Given as goal

abbrev pub invariant-reads : goal.invariant-reads
invariant-reads g l = record {
  came : Came l.script (scene None l.fn.router (g.S.LogStore.state l.fn.store) (g.C.TimeSource.readings l.fn.clock))
      (scene l.inside l.router (g.S.LogStore.state l.store) (g.C.TimeSource.readings l.clock))
      (g.I.PartedInput.feed l.fn.input).device (g.I.PartedInput.feed l.input).device l.lines;
  serves : Serves l.script l.router (g.S.LogStore.state l.store);
  written : IsWritten l.router.tails;
  few : l.lines ≤ 32768 * (g.I.PartedInput.feed l.input).device.reads;
  faults : Works (g.I.PartedInput.feed l.fn.input).device (g.I.PartedInput.feed l.input).device;
  reads : (g.I.PartedInput.feed l.fn.input).device.reads ≤ (g.I.PartedInput.feed l.input).device.reads;
  behind : (g.I.PartedInput.feed l.input).behind ≡ (g.I.PartedInput.feed l.fn.input).behind;
  stays : Stays (g.S.LogStore.state l.fn.store) (g.S.LogStore.state l.store);
}

abbrev pub decreases-reads : goal.decreases-reads
decreases-reads g l = 2 ^ 48 - (g.I.PartedInput.feed l.input).device.reads
