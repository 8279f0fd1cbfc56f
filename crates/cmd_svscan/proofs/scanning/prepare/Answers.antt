use Rattle.std.proofs.Common.{[], ◌∷◌}
use Rattle.cmd_svscan.proofs.Asked.{asked-then}
use Rattle.cmd_svscan.proofs.scanning.prepare.Goals as goal

pub returns : goal.returns
returns g c = (
  c.allowed_descriptors.result,
  asked-then _ _ _ _ _ c.in_ok-set_folder.ensures (asked-then _ _ _ _ _ c.allow.ensures c.prepare_outputs.ensures),
)
