use Rattle.std.proofs.Common.{◌≡◌, map, length}
use Rattle.std.specs.Prelude.{unwrap_or}
use Rattle.mlog_script.specs.Placed.{last_given}
use Rattle.mlog_script.specs.Selection.{decision}
use Rattle.mlog_script.specs.Action.{act}
use Rattle.mlog_script.proofs.choices.is_chosen_noted.Given as goal

abbrev pub invariant-loop-rest : goal.invariant-loop-rest
invariant-loop-rest g l =
    unwrap_or (last_given (decision l.front) (map act l.rest)) l.before
    ≡ unwrap_or (last_given (decision l.front) (map act l.actions)) l.before

abbrev pub decreases-loop-rest : goal.decreases-loop-rest
decreases-loop-rest g l = length l.rest
