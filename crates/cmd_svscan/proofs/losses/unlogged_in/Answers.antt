use Rattle.std.proofs.Common.{◌∙◌, nat_lt}
use Rattle.cmd_svscan.specs.Leftovers.{Lost, unlogged_of}
use Rattle.cmd_svscan.proofs.Leftovers.{counted-so-far}
use Rattle.cmd_svscan.proofs.losses.unlogged_in.Goals as goal

pub returns-in_default-clause-first : goal.returns-in_default-clause-first
returns-in_default-clause-first g c =
    counted-so-far (unlogged_of c.args.host.now.table.slots) (λ (one : Lost). nat_lt 0 one.1)
    c.args.lost.now c.loop-slot.slot-index c.loop-slot.all.items c.loop-slot.invariant

pub returns-then-is_err-clause-first : goal.returns-then-is_err-clause-first
returns-then-is_err-clause-first g c =
    counted-so-far (unlogged_of c.args.host.now.table.slots) (λ (one : Lost). nat_lt 0 one.1)
    c.args.lost.now c.loop-slot.slot-index c.reserve.new.self.items
    (c.reserve.ensures.items ∙ c.loop-slot.invariant)
