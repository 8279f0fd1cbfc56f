use Rattle.std.proofs.Common.{◌∙◌}
use Rattle.cmd_svscan.specs.Losses.{unmade_of}
use Rattle.cmd_svscan.proofs.ListedNames.{so-far}
use Rattle.cmd_svscan.proofs.losses.unmade_in.Goals as goal

pub returns-in_default : goal.returns-in_default
returns-in_default g c =
    so-far (unmade_of c.args.host.now.table.slots) c.args.failed.now c.loop-one.one-index c.loop-one.all.items
    c.loop-one.invariant

pub returns-then-is_err : goal.returns-then-is_err
returns-then-is_err g c =
    so-far (unmade_of c.args.host.now.table.slots) c.args.failed.now c.loop-one.one-index c.reserve.new.self.items
    (c.reserve.ensures.items ∙ c.loop-one.invariant)
