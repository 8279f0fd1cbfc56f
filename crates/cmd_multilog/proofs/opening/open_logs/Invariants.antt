use Rattle.std.proofs.Common.{◌≡◌, ◌≤◌, ◌-◌, [], take, length, count_by}
use Rattle.mlog_script.specs.Script.{is_log}
use Rattle.cmd_multilog.specs.Opening.{Opens, folders_of}
use Rattle.cmd_multilog.proofs.opening.open_logs.Given as goal

abbrev pub invariant-loop-log : goal.invariant-loop-log
invariant-loop-log g l =
    Opens l.fn.store l.store (take l.log (folders_of l.script)) [] (take l.log (folders_of l.script))
    × (length l.store.logs ≡ l.log)
    × (l.log ≤ count_by is_log l.script)
    × (l.store.gave ≡ l.fn.store.gave)

abbrev pub decreases-loop-log : goal.decreases-loop-log
decreases-loop-log g l = count_by is_log l.script - l.log
