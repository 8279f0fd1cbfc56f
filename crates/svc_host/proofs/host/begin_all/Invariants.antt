use Rattle.std.proofs.Common.{◌+◌, ◌-◌, ◌≤◌, length, take}
use Rattle.std.specs.Prelude.{vec_len, vec_capacity}
use Rattle.svc_host.specs.Rounds.{BeginsAll}
use Rattle.svc_host.proofs.host.begin_all.Given as goal

abbrev pub invariant-loop-id : goal.invariant-loop-id
invariant-loop-id g l = record {
  begun : BeginsAll l.table.slots l.rows l.label (take l.id-index l.ids) l.fn.begun l.begun
      (g.M.Maker.calls l.fn.factory.maker) (g.M.Maker.calls l.factory.maker);
  parts_room : vec_len l.begun.parts + (length l.ids - l.id-index) ≤ vec_capacity l.begun.parts;
  failed_room : vec_len l.begun.failed + (length l.ids - l.id-index) ≤ vec_capacity l.begun.failed;
}
