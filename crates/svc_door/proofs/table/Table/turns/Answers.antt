use Rattle.std.proofs.Common.{rules, ap, ◌∙◌, subst}
use Rattle.svc_door.specs.Slots.{times}
use Rattle.svc_door.specs.Turning.{TurnsOf}
use Rattle.svc_door.proofs.Opened.{open-turned, turned-each}
use Rattle.svc_door.proofs.table.Table.turns.Goals as goal

pub invariant_of-self : goal.invariant_of-self
invariant_of-self g c =
    let was = c.args.self.now in
    let after = c.turn_each.new.parts in
    let turned =
    subst (λ slots. TurnsOf c.args.now slots was.parts after) c.deref.ensures.value c.turn_each.ensures.turns in
    record {
      each = λ slot. ap (times slot) c.keep_due.ensures.due
          ∙ open-turned c.args.now was.open_slots.items was.parts after was.each turned slot;
      room = search rules;
    }

pub returns-clause-turns : goal.returns-clause-turns
returns-clause-turns g c =
    let was = c.args.self.now in
    let after = c.turn_each.new.parts in
    turned-each c.args.now was.open_slots.items was.parts after was.each
    (subst (λ slots. TurnsOf c.args.now slots was.parts after) c.deref.ensures.value c.turn_each.ensures.turns)
