use Rattle.mlog_core.proofs.Counted.{run_counts}
use Rattle.mlog_core.proofs.laws.counts_of_a_run.Goals as goal

pub returns : goal.returns
returns c = record { counts = run_counts }
