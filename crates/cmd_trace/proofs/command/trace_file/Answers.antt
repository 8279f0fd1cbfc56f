use Rattle.std.proofs.Common.{rules, ◌≡◌, ◌≢◌, refl, inl, inr, subst}
use Rattle.std.specs.IoError.{error_kind, raw_os_error}
use Rattle.std.specs.declared.io.ErrorKind.{ErrorKind}
use Rattle.std.specs.declared.io.ErrorKind.TheVariants.{OutOfMemory, IsADirectory}
use Rattle.cmd_base.specs.Known.{IsKnown}
use Rattle.cmd_trace.proofs.Asking.{if_known}
use Rattle.cmd_trace.proofs.command.trace_file.Goals as goal

pub returns-in-Err : goal.returns-in-Err
returns-in-Err g c =
    let is : error_kind c.in-Err.error ≡ IsADirectory = search rules in
    record {
      ends = inr (inr (inr (record {
        fault = subst (λ (kind : ErrorKind).
            IsKnown (g.R.FileSource.fault_at c.args.files.now c.args.path.now) kind) is c.in-Err.ensures.fault;
        ends = c.trace_folder.ensures.ends;
      })));
    }

pub returns-in-Err-2 : goal.returns-in-Err-2
returns-in-Err-2 g c =
    let no_folder : error_kind c.in-Err.error ≢ IsADirectory = search rules in
    record {
      ends = elim c.report_missed.ensures.reported [
        | inl starved ↦ inr (inr (inl (record {
          fault = if_known _ _ (λ kind. kind ≡ OutOfMemory) c.in-Err.ensures.fault starved.0;
          starved = record {
            unwritten = refl;
            reported = starved.1;
            status_is = c.report_missed.ensures.status;
          };
        })))
        | inr unread ↦ inr (inl (record {
          unread = record {
            number = raw_os_error c.in-Err.error;
            kind = error_kind c.in-Err.error;
            unknown = c.in-Err.ensures.missing unread.0;
            fault = c.in-Err.ensures.fault;
            room = unread.0;
            unwritten = refl;
            reported = unread.1;
            status_is = c.report_missed.ensures.status;
          };
          no_folder = no_folder;
        }))
      ];
    }
