use Rattle.std.proofs.Common.{subst}
use Rattle.tai_status.specs.Counted.{Device, Rose}
use Rattle.tai_status.proofs.Known.{count_rises}
use Rattle.tai_status.proofs.counted.Counted.count_fault.Goals as goal

pub returns-clause-rose : goal.returns-clause-rose
returns-clause-rose g c =
    subst (λ (device : Device). Rose device.faults c.saturating_add-self-inside.result) c.self.view_is
    (count_rises _ _ c.saturating_add-self-inside.ensures)
