use Rattle.std.proofs.Common.{◌≡◌, refl, inl, inr}
use Rattle.std.specs.IoError.{error_kind, raw_os_error}
use Rattle.std.specs.declared.io.ErrorKind.TheVariants.{OutOfMemory}
use Rattle.cmd_trace.proofs.Asking.{if_known}
use Rattle.cmd_trace.proofs.command.trace_path.Goals as goal

pub returns-in-Err : goal.returns-in-Err
returns-in-Err g c = record {
  ends = elim c.report_missed.ensures.reported [
    | inl starved ↦ inr (inr (record {
      fault = if_known _ _ (λ kind. kind ≡ OutOfMemory) c.in-Err.ensures.fault starved.0;
      starved = record {
        unwritten = refl;
        reported = starved.1;
        status_is = c.report_missed.ensures.status;
      };
    }))
    | inr unread ↦ inr (inl (record {
      number = raw_os_error c.in-Err.error;
      kind = error_kind c.in-Err.error;
      unknown = c.in-Err.ensures.missing unread.0;
      fault = c.in-Err.ensures.fault;
      room = unread.0;
      unwritten = refl;
      reported = unread.1;
      status_is = c.report_missed.ensures.status;
    }))
  ];
}
