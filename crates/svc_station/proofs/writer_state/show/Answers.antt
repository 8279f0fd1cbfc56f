use Rattle.svc_station.proofs.Steps.{sees}
use Rattle.svc_station.proofs.Told.{pending_shown}
use Rattle.svc_station.proofs.writer_state.show.Goals as goal

pub publish_as-inner-requires : goal.publish_as-inner-requires
publish_as-inner-requires g c next is =
    let p = pending_shown c.args.inner.desk.shown.value next c.args.next _ c.requires.pending is in
    sees _ _ c.args.inner.desk.shown.value next p.0 p.1
