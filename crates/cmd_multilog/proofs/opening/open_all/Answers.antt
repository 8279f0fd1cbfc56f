use Rattle.std.proofs.Common.{◌∙◌}
use Rattle.mlog_script.specs.Script.{file_paths}
use Rattle.cmd_multilog.specs.Opening.{folders_of}
use Rattle.cmd_multilog.proofs.Openings.{not_placed}
use Rattle.cmd_multilog.proofs.opening.open_all.Goals as goal

pub returns-in-Err-clause-err : goal.returns-in-Err-clause-err
returns-in-Err-clause-err g c =
    not_placed c.args.store.now c.open_logs.new.store c.place_statuses.new.store (folders_of c.args.script.now)
    (file_paths c.args.script.now)
    c.in_ok-open_logs.ensures.ok (c.place_statuses.ensures.gave ∙ c.in_ok-open_logs.ensures.well) c.in-Err.ensures.err
