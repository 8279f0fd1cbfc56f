use Rattle.std.proofs.Common.{◌≡◌, ℕ, refl, ap, sym, ◌∙◌, subst}
use Rattle.std.specs.Arc.{arc_value}
use Rattle.atomic_table.specs.Seated.{TableId}
use Rattle.crossbeam_queue.specs.Passes.{view, ruled_capacity}
use Rattle.svc_mail.specs.Ends.{AreNewSenders}
use Rattle.svc_mail.proofs.mailbox.Mailbox.open.Goals as goal

pub returns : goal.returns
returns g c =
    let mine : arc_value c.in_ok-queue.queue ≡ arc_value c.in_ok-own.own = sym c.in_ok-own.ensures in
    let room : ruled_capacity (arc_value c.in_ok-queue.queue) ≡ c.args.capacity = c.in_ok-queue.ensures.capacity in
    let ends = c.in_ok-ends.ensures in
    let mark = c.over.ensures.1 in
    let knows = ap view mark ∙ ends.knows in (
      ap ruled_capacity (sym mine) ∙ room,
      refl,
      ends.count,
      subst (λ (y : ℕ × TableId). AreNewSenders y.0 c.args.senders y.1 c.in_ok-ends.ends.items)
          (λ i. (room i, (mine i).table.shared.table_id)) ends.new,
      (ap (λ m. m.table_id) mark ∙ ends.pass.0 ∙ ap (λ q. q.table.shared.table_id) mine, ap (λ v. v.all) knows),
      ap (λ v. v.taken) knows,
      ap (λ v. v.seen) knows,
    )
