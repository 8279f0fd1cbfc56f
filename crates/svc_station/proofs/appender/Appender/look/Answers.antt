use Rattle.std.proofs.Common.{sym, ◌∙◌, ap}
use Rattle.sup_core.specs.declared.event.Event.TheVariants.{Byte}
use Rattle.svc_station.proofs.Adding.{looks_moves}
use Rattle.svc_station.proofs.appender.Appender.look.Goals as goal

pub compare_exchange-found-requires : goal.compare_exchange-found-requires
compare_exchange-found-requires c =
    let self = c.args.self in
    let seen = c.again-seen.ensures in
    let offer = c.plain-offer.ensures in
    let home = sym (ap (λ w. w.book) self.head_is) in (
      ap (λ w. w.tracked) self.head_is,
      c.learn.ensures.0 ∙ ap (λ s. s.book) seen ∙ home,
      self.pen_book ∙ home,
      offer.0,
      rw (
        ap (λ w. w.key) self.head_is,
        offer.3,
      ) (looks_moves c.learn.new.self.log (Byte 0) self.pen.nib self.pen_right),
    )
