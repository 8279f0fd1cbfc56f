use Rattle.std.proofs.Common.{[], ◌∷◌, ◌++◌, ap, sym, ◌∙◌}
use Rattle.svc_station.proofs.Steps.{sees}
use Rattle.svc_station.proofs.Told.{idle_shown}
use Rattle.svc_station.proofs.writer_state.WriterState.with_room.Goals as goal

pub publish_as-inner-requires : goal.publish_as-inner-requires
publish_as-inner-requires g c next is =
    let op = c.of-nothing.result in
    let x = c.append.new.self.desk.shown.value in
    let state = c.append.ensures.desk in
    let pending = c.in-Ok.ensures.pending ∙ ap (λ l. l ++ op ∷ []) c.requires.pending in
    let prefix = c.of-nothing.ensures.prefix ∙ c.again.ensures ∙ sym c.requires.shown.1
    ∙ sym (ap (λ d. d.shown.value.prefix) state) in
    let p = idle_shown x next op _ pending c.of-nothing.ensures.event prefix is in
    sees _ _ x next p.0 p.1
