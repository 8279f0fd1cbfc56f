use Rattle.std.proofs.Common.{◌≡◌, rules, ℕ, not, ◌==◌, Some, ap, sym, ◌∙◌}
use Rattle.std.specs.Option.{option_map}
use Rattle.std.proofs.lemmas.Fn.{filter_same}
use Rattle.svc_door.specs.Slots.{times}
use Rattle.svc_door.proofs.Opened.{open-dismissed}
use Rattle.svc_door.proofs.table.Table.dismiss.Goals as goal

pub invariant_of-self-2 : goal.invariant_of-self-2
invariant_of-self-2 c =
    let slot = c.in_ok-slot.slot in
    let left = filter_same _ (λ (x : ℕ). not (x == slot)) _ (λ x b f' k. search rules) _ _ c.retain.ensures.filtered in
    let removed = c.try_remove.ensures.updates in
    record {
      each = λ other. ap (times other) left
          ∙ open-dismissed _ slot c.args.self.now.parts c.try_remove.new.self c.args.self.now.each removed.changed
          removed.others other;
      room = search rules;
    }

pub returns-clause-dismissed : goal.returns-clause-dismissed
returns-clause-dismissed c =
    let slot = c.in_ok-slot.slot in
    let part = c.in_ok-part.part in
    let had = sym c.try_remove.ensures.value ∙ c.in_ok-part.was in
    let number : Some part.number ≡ Some c.args.number =
    ap (option_map (λ p. p.number)) (sym had) ∙ c.in_ok-slot.ensures.some in
    record {
      slot = slot;
      part = part;
      had = had;
      number_is = cc;
      sender_is = sym c.into_sender.ensures;
      is_free = c.try_remove.ensures.updates.changed;
      others = c.try_remove.ensures.updates.others;
      turns = filter_same _ (λ (x : ℕ). not (x == slot)) _ (λ x b f' k. search rules) _ _ c.retain.ensures.filtered;
    }
