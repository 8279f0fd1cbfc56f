use Rattle.std.proofs.Common.{◌≡◌, map, drop}
use Rattle.std.specs.Prelude.{slice_get}
use Rattle.mlog_script.specs.Script.{file_paths}
use Rattle.mlog_script.specs.Action.{act}
use Rattle.mlog_script.proofs.plan.file_path.Given as goal

abbrev pub invariant-loop-action : goal.invariant-loop-action
invariant-loop-action g l =
    slice_get (file_paths (map act (drop l.action-index l.actions))) l.left
    ≡ slice_get (file_paths (map act l.actions)) l.file
