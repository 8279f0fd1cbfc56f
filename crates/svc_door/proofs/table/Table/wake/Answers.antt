use Rattle.std.proofs.Common.{◌<◌, rules, sym, subst, vec_capacity}
use Rattle.svc_door.proofs.Opened.{room-for}
use Rattle.svc_door.proofs.table.Table.wake.Goals as goal

pub push_reserved-requires : goal.push_reserved-requires
push_reserved-requires c =
    let was = c.args.self.now in
    subst (λ n. n < vec_capacity was.open_slots) (sym was.open_slots.ok.0)
    (room-for was.parts was.open_slots.items c.args.token.0 _ was.each (search rules) (search rules) was.room)
