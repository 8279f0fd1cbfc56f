use Rattle.std.proofs.Common.{◌≡◌, ◌<◌, length, rules, false}
use Rattle.sup_core.specs.History.{is_among}
use Rattle.sup_core.specs.declared.table.TheConstants.{LETTER_COUNT}
use Rattle.cmd_svc.proofs.Room.{room, ordered_push}
use Rattle.cmd_svc.proofs.order.OrderBytes.add.Goals as goal

pub push-requires : goal.push-requires
push-requires c =
    let apart : is_among c.self.inside.bytes.items c.args.letter ≡ false = search rules in
    let fits : length c.self.inside.bytes.items < LETTER_COUNT = room _ _ c.self.invariant c.requires apart in
    search (rules, fits)

pub invariant_of-self : goal.invariant_of-self
invariant_of-self c =
    let apart : is_among c.self.inside.bytes.items c.args.letter ≡ false = search rules in
    let pushed = ordered_push _ _ c.self.invariant c.requires apart in
    search (rules, pushed)
