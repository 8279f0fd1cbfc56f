use Rattle.std.proofs.Common.{ℕ, [], ◌∷◌, length, ap, sym, ◌∙◌, subst, arith, length-append}
use Rattle.std.specs.Arc.{arc_value}
use Rattle.crossbeam_queue.specs.Passes.{ruled_capacity}
use Rattle.svc_mail.specs.Kept.{with_made}
use Rattle.svc_mail.specs.Ends.{IsNewSender, AreNewSenders}
use Rattle.svc_mail.proofs.Lists.{each_more}
use Rattle.svc_mail.proofs.mailbox.make_senders.Goals as goal

pub loop-number-preserved : goal.loop-number-preserved
loop-number-preserved g c =
    let s = c.in_ok-from_pass.field-0 in
    let q = arc_value c.args.queue.now in
    let old = c.loop-number.invariant in
    let made = c.in_ok-from_pass.ensures in
    let n : ℕ = c.loop-number.number in
    let all : ℕ = c.args.senders in
    let is = made.knows in
    let new : IsNewSender (ruled_capacity q) all q.table.shared.table_id n s = (
      made.seat.0,
      made.number,
      ap (λ v. v.row) is,
      ap (λ v. v.seen) is ∙ ap (λ v. v.seen) old.1,
      ap (λ v. v.all) is ∙ ap (λ v. v.all) old.1,
      ap ruled_capacity made.queue,
    ) in
    let last : IsNewSender (ruled_capacity q) all q.table.shared.table_id (length c.loop-number.ends.items) s =
    subst (λ (k : ℕ). IsNewSender (ruled_capacity q) all q.table.shared.table_id k s) (sym old.2) new in
    let items = c.in_ok-push.ensures.items in (
      made.pass,
      made.made ∙ ap with_made old.1,
      omega (arith, ap length items, length-append c.loop-number.ends.items (s ∷ [])),
      subst (λ l. AreNewSenders (ruled_capacity q) all q.table.shared.table_id l) (sym items)
          (each_more (IsNewSender (ruled_capacity q) all q.table.shared.table_id) c.loop-number.ends.items s old.3
          last),
    )
