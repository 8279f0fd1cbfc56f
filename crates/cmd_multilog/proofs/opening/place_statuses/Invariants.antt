use Rattle.std.proofs.Common.{◌≡◌, ◌≤◌, ◌-◌, [], take, length, count_by}
use Rattle.mlog_script.specs.Script.{is_file, file_paths}
use Rattle.cmd_multilog.specs.Opening.{Opens}
use Rattle.cmd_multilog.proofs.opening.place_statuses.Given as goal

abbrev pub invariant-loop-file : goal.invariant-loop-file
invariant-loop-file g l =
    Opens l.fn.store l.store [] (take l.file (file_paths l.script)) [] × (length l.store.statuses ≡ l.file)
    × (l.file ≤ count_by is_file l.script)
    × (l.store.gave ≡ l.fn.store.gave)

abbrev pub decreases-loop-file : goal.decreases-loop-file
decreases-loop-file g l = count_by is_file l.script - l.file
