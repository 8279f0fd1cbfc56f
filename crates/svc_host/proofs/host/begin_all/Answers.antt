use Rattle.std.proofs.Common.{◌≡◌, ◌+◌, suc, take, sym, subst, ap, ◌∙◌, get_or, arith}
use Rattle.std.proofs.Math.Seq.{take-suc}
use Rattle.svc_host.specs.Rounds.{BeginsAll, beginnings, unmade_ids}
use Rattle.svc_host.proofs.Beginning.{begun_none, next_begun}
use Rattle.svc_host.proofs.Tables.{past}
use Rattle.svc_host.proofs.host.begin_all.Goals as goal

pub loop-id-init : goal.loop-id-init
loop-id-init g c =
    record {
      begun = begun_none c.args.table.now.slots c.args.rows.now c.args.label
          (beginnings c.args.begun.now (g.M.Maker.calls c.args.factory.now.maker)) (ap unmade_ids c.requires.failed);
      parts_room = omega (arith, c.requires.parts_room);
      failed_room = omega (arith, c.requires.failed_room);
    }

pub loop-id-preserved : goal.loop-id-preserved
loop-id-preserved g c =
    let at = c.loop-id.invariant in
    let k = c.loop-id.id-index in
    let ids = c.args.ids.now in
    let next : k + 1 ≡ suc k = omega arith in
    let asked = g.M.Maker.calls c.args.factory.now.maker in
    let now_asked = g.M.Maker.calls c.begin_one.new.factory.maker in
    let done = ap (λ n. take n ids) next ∙ take-suc ids k past c.loop-id-test.true in
    record {
      begun = subst (λ l. BeginsAll c.args.table.now.slots c.args.rows.now c.args.label l c.args.begun.now
          c.begin_one.new.begun asked now_asked) (sym done)
          (next_begun c.args.table.now.slots c.args.rows.now c.args.label (take k ids) (get_or ids k past)
          (beginnings c.args.begun.now asked)
          (beginnings c.loop-id.begun (g.M.Maker.calls c.loop-id.factory.maker))
          (beginnings c.begin_one.new.begun now_asked)
          at.begun c.begin_one.ensures.begun.1 c.begin_one.ensures.begun.0);
      parts_room = omega (
        arith,
        at.parts_room,
        c.loop-id-test.true,
        c.begin_one.ensures.parts_len,
        c.begin_one.ensures.parts_room,
      );
      failed_room = omega (
        arith,
        at.failed_room,
        c.loop-id-test.true,
        c.begin_one.ensures.failed_len,
        c.begin_one.ensures.failed_room,
      );
    }
