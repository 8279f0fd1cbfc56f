use Rattle.std.proofs.Common.{◌≡◌, ◌+◌, length, sym, ◌∙◌, ap}
use Rattle.svc_station.proofs.Adding.{adds_moves}
use Rattle.svc_station.proofs.appender.Appender.add.Goals as goal

pub compare_exchange-found-requires : goal.compare_exchange-found-requires
compare_exchange-found-requires c =
    let self = c.args.self in
    let seen = c.again-seen.ensures in
    let offer = c.plain-offer.ensures in
    let home = sym (ap (λ w. w.book) self.head_is) in
    let key : self.pen.nib.key ≡ length c.again-seen.result.log + 2 = self.pen_next
    ∙ ap (λ s. length s.log + 2) (sym seen) in (
      ap (λ w. w.tracked) self.head_is,
      ap (λ s. s.book) seen ∙ home,
      self.pen_book ∙ home,
      offer.0,
      rw (ap (λ w. w.key) self.head_is, offer.1, offer.3)
          (adds_moves c.again-seen.result.log c.args.event _ self.pen.nib self.pen_right key),
    )
