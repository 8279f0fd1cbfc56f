use Rattle.std.proofs.Common.{◌+◌, nat_le, if◌then◌else◌, [], ◌∷◌}
use Rattle.std.proofs.lemmas.Result.{err_from_is_err_and}
use Rattle.mlog_files.specs.Files.{Remove}
use Rattle.mlog_files.proofs.Doing.{Fails-none}
use Rattle.mlog_files.proofs.tail.Tail.finish_under.Goals as goal

pub returns-in_err-remove_smallest-clause-err : goal.returns-in_err-remove_smallest-clause-err
returns-in_err-remove_smallest-clause-err g c =
    let p = err_from_is_err_and c.from_residual-in_err-remove_smallest.result
    c.from_residual-in_err-remove_smallest.ensures.1 in
    rw (p.1) (Fails-none (if nat_le c.args.self.now.keep (c.args.self.now.kept + 1) then Remove ∷ [] else [])
    c.in_ok-finish.ensures.ok c.in_err-remove_smallest.ensures.err)
