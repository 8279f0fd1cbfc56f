use Rattle.std.proofs.Common.{ℕ, List, ap, inl, inr, refl, rules, subst}
use Rattle.tai_status.specs.Counted.{Reports}
use Rattle.cmd_envdir.specs.System.{Child}
use Rattle.cmd_envdir.specs.Ends.{envdir_report}
use Rattle.cmd_envdir.proofs.command.run_in_folder.Goals as goal

pub returns-in-Err : goal.returns-in-Err
returns-in-Err g c = record {
  ends = inr (inr (
    refl {a = g.L.Launcher.calls c.args.launcher.now},
    record {
      unread = c.in-Err.unread;
      unread_is = c.in-Err.ensures.fault;
      missing = c.in-Err.ensures.missing;
      status_is = c.report_unread.ensures.status;
      reported_unread = c.report_unread.ensures.reported;
    },
  ));
}

pub returns-in-Ok-run_with : goal.returns-in-Ok-run_with
returns-in-Ok-run_with g c = record {
  ends = inl (record {
    files = c.deref.result.now;
    files_are = search rules;
    in_order = search rules;
    runs = search rules;
    silent = refl;
  });
}

pub returns : goal.returns
returns g c = record {
  ends = inr (inl (record {
    cause = c.in-Err-run_with.fault;
    files = c.deref-in-Err-run_with.result.now;
    why = record {
      files_are = search rules;
      whole = search rules;
      first = search rules;
      status_is = c.report_fault.ensures.status;
      reported_why = subst (λ (name : List ℕ). Reports c.args.faults.now c.report_fault.new.faults
          (envdir_report c.args.program.now.program name c.in-Err-run_with.fault))
          c.refused_name-refused.ensures
          (subst (λ (program : List ℕ). Reports c.args.faults.now c.report_fault.new.faults
          (envdir_report program c.refused_name-refused.result.now c.in-Err-run_with.fault))
          (ap (λ (child : Child). child.program) c.program.view_is)
          c.report_fault.ensures.reported);
    };
    none = search rules;
  }));
}
