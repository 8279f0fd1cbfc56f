use Rattle.std.proofs.Common.{◌≤◌, ◌+◌, ◌*◌, length, sym, ◌∙◌, ap, subst, ℕ}
use Rattle.sup_core.specs.declared.event.Event.TheVariants.{Byte}
use Rattle.svc_station.proofs.Adding.{widens_moves}
use Rattle.svc_station.proofs.appender.next_pen.Goals as goal

pub compare_exchange-found-requires : goal.compare_exchange-found-requires
compare_exchange-found-requires c =
    let h = c.requires.head in
    let seen = c.again-seen.ensures in
    let offer = c.plain-offer.ensures in
    let pen = c.no_pen-pen.ensures in
    let book = ap (λ s. s.book) seen ∙ sym (ap (λ w. w.book) h) in
    let most : c.args.sum ≤ 2 * length c.again-seen.result.log + 3 =
    subst (λ (n : ℕ). c.args.sum ≤ 2 * n + 3) (sym (ap (λ s. length s.log) seen)) c.requires.sum in (
      ap (λ w. w.tracked) h,
      book,
      pen.0 ∙ book,
      offer.0,
      rw (ap (λ w. w.key) h, pen.1, offer.3) (widens_moves c.again-seen.result.log (Byte 0) c.args.sum most),
    )
