use Rattle.std.proofs.Common.{List, ℕ, ◌++◌, inr, rules, subst}
use Rattle.std.specs.Prelude.{◌≢◌, codes}
use Rattle.tai_status.specs.Causes.{cause_note}
use Rattle.tai_status.specs.Counted.{Reports}
use Rattle.tai_status.specs.declared.cause.Cause.{Cause}
use Rattle.tai_status.specs.declared.cause.Cause.TheVariants as cause
use Rattle.cmd_envdir.proofs.command.report_unread.Goals as goal

pub returns-clause-reported : goal.returns-clause-reported
returns-clause-reported g c =
    let room : c.args.unread.now.cause ≢ cause.NoMemory = search rules in
    inr (
      room,
      subst (λ (path : List ℕ). Reports c.args.faults.now c.report_unable.new.faults
          (codes "envdir: unable to read " ++ (path ++ cause_note c.args.unread.now.cause))) c.path.ensures
          (subst (λ (cause : Cause). Reports c.args.faults.now c.report_unable.new.faults
          (codes "envdir: unable to read " ++ (c.path.result.now ++ cause_note cause))) c.cause-cause.ensures
          c.report_unable.ensures.reported),
    )
