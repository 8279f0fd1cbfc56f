use Rattle.std.proofs.Common.{◌≤◌, ◌-◌, ◌^◌, List, count_by}
use Rattle.mlog_script.specs.Script.{is_log, is_file}
use Rattle.mlog_files.specs.Store.{Stays}
use Rattle.mlog_core.specs.Parts.{Play, play, TurnsOver}
use Rattle.mlog_core.proofs.turns.run_parts.Given as goal

abbrev pub invariant-parts : goal.invariant-parts
invariant-parts g l = record {
  begun : List Play;
  turns : TurnsOver begun l.script
      (play (g.I.PartedInput.feed l.fn.input) (g.S.LogStore.state l.fn.store) (g.C.TimeSource.readings l.fn.clock))
      (play (g.I.PartedInput.feed l.input) (g.S.LogStore.state l.store) (g.C.TimeSource.readings l.clock));
  logs : count_by is_log l.script ≤ (g.S.LogStore.state l.store).logs;
  files : count_by is_file l.script ≤ (g.S.LogStore.state l.store).status_files;
  stays : Stays (g.S.LogStore.state l.fn.store) (g.S.LogStore.state l.store);
}

abbrev pub decreases-parts : goal.decreases-parts
decreases-parts g l = 2 ^ 48 - (g.I.PartedInput.feed l.input).device.reads
