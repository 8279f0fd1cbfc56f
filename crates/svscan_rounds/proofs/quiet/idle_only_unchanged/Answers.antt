use Rattle.svscan_rounds.proofs.Idle.{idle-only-unchanged}
use Rattle.svscan_rounds.proofs.quiet.idle_only_unchanged.Goals as goal

pub returns : goal.returns
returns c = idle-only-unchanged
