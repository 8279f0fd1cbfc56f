use Rattle.std.proofs.Common.{rules}
use Rattle.cmd_svc.proofs.Room.{nothing_is_ordered}
use Rattle.cmd_svc.proofs.order.OrderBytes.new.Goals as goal

pub invariant_of-result : goal.invariant_of-result
invariant_of-result c = search (rules, nothing_is_ordered)
