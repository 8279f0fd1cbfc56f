use Rattle.std.proofs.Common.{◌∙◌, ap, map, count_by}
use Rattle.mlog_script.specs.Script.{is_file, file_paths}
use Rattle.mlog_script.specs.Action.{act}
use Rattle.mlog_script.proofs.Plans.{there_copied, length-file_paths}
use Rattle.mlog_script.proofs.script.Script.file.Goals as goal

pub returns-clause-there : goal.returns-clause-there
returns-clause-there g c =
    there_copied (file_paths (map act c.actions.result.now)) c.args.file _ _ c.file_path.ensures
    (length-file_paths (map act c.actions.result.now) ∙ ap (count_by is_file) c.actions.ensures.actions)
