use Rattle.std.proofs.Common.{refl}
use Rattle.mlog_core.proofs.Coming.{fault_moved}
use Rattle.mlog_core.proofs.Showing.{runs_all, runs_up_to, runs_lines}
use Rattle.mlog_core.proofs.stream.run_part.Goals as goal

pub returns-in-Ok-run_lines-clause-runs : goal.returns-in-Ok-run_lines-clause-runs
returns-in-Ok-run_lines-clause-runs g c = record {
  done = runs_all c.args.script.now _ _ _ _ _ _ c.in-Ok.router c.run_lines.new.router c.in-Ok-run_lines.lines _
      c.in-Ok.ensures.opened c.in-Ok-run_lines.ensures.written c.in-Ok-run_lines.ensures.runs.done refl
      c.finished.ensures c.removed.ensures;
  read = λ is. cc;
  store = λ is. cc;
  spent = λ is. cc;
  memory = λ is. cc;
}

pub returns-clause-runs : goal.returns-clause-runs
returns-clause-runs g c =
    let runs = c.in-Err.ensures.runs in
    let opened = c.in-Ok.ensures.opened in
    record {
      done = tt;
      read = λ is.
          let visible = runs.came (fault_moved _ _ is) in
          runs_lines c.args.script.now _ _ _ _ _ _ c.in-Ok.router c.run_lines.new.router visible.0 visible.1 opened
          visible.2
          visible.3;
      store = λ is. runs_up_to c.args.script.now _ _ _ _ _ _ c.in-Ok.router c.run_lines.new.router _ _ opened (λ e. cc)
          (runs.store (fault_moved _ _ is));
      spent = λ is. runs_up_to c.args.script.now _ _ _ _ _ _ c.in-Ok.router c.run_lines.new.router _ _ opened
          (λ e. refl) (runs.spent (fault_moved _ _ is));
      memory = λ is. absurd (c.in-Err.ensures.memory (fault_moved _ _ is));
    }
