use Rattle.std.proofs.Common.{ℕ, List, [], inl, inr, refl, rules, subst}
use Rattle.tai_status.specs.Counted.{Reports}
use Rattle.cmd_envdir.specs.Ends.{envdir_report}
use Rattle.cmd_envdir.proofs.command.write_script.Goals as goal

pub returns-in-Err : goal.returns-in-Err
returns-in-Err g c = record {
  ends = inr (inr (
    refl,
    record {
      unread = c.in-Err.unread;
      unread_is = c.in-Err.ensures.fault;
      missing = c.in-Err.ensures.missing;
      status_is = c.report_unread.ensures.status;
      reported_unread = c.report_unread.ensures.reported;
    },
  ));
}

pub returns : goal.returns
returns g c =
    let cause = c.in-Err-folder_script.fault in
    record {
      ends = inr (inl (record {
        cause = cause;
        files = c.deref-in-Err-folder_script.result.now;
        why = record {
          files_are = search rules;
          whole = search rules;
          first = search rules;
          status_is = c.report_fault.ensures.status;
          reported_why = subst (λ (name : List ℕ). Reports c.args.faults.now c.report_fault.new.faults
              (envdir_report [] name cause)) c.refused_name.ensures c.report_fault.ensures.reported;
        };
        before = c.in-Err-folder_script.ensures.before;
        unwritten = refl;
      }));
    }
