use Rattle.std.proofs.Common.{rules, ◌≢◌, inr, subst}
use Rattle.std.specs.IoError.{error_kind}
use Rattle.std.specs.declared.io.ErrorKind.TheVariants.{OutOfMemory}
use Rattle.tai_status.specs.Counted.{Reports}
use Rattle.tai_status.specs.declared.cause.Cause.{Cause}
use Rattle.cmd_trace.specs.Traced.{unread_text}
use Rattle.cmd_trace.proofs.command.report_missed.Goals as goal

pub returns-clause-reported : goal.returns-clause-reported
returns-clause-reported g c =
    let room : error_kind c.args.error.now ≢ OutOfMemory = search rules in
    inr (
      room,
      subst (λ (cause : Cause). Reports c.args.faults.now c.report_unread.new.faults
          (unread_text c.args.file.now cause)) c.of.ensures c.report_unread.ensures.reported,
    )
