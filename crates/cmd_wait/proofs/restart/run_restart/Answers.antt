use Rattle.std.proofs.Common.{refl, inl, inr}
use Rattle.tai_status.specs.Words.{texts}
use Rattle.cmd_wait.specs.Words.{order}
use Rattle.cmd_wait.proofs.restart.run_restart.Goals as goal

pub returns-in-Err : goal.returns-in-Err
returns-in-Err g c =
    let options = c.in-Some.options in record {
      ends = inr (record {
        order = order options.goal options.limit (texts options.services.now);
        asks = c.in-Some.ensures.asks;
        restarts = inl (record {
          status_is = c.report.ensures.status;
          unasked = refl;
          reported = c.report.ensures.reported;
        });
      });
    }
