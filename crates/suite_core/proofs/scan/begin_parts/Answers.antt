use Rattle.suite_core.specs.Suite.{beginning, begun_part, begun_out}
use Rattle.suite_core.proofs.Begun.{begun-as, said-as, pushed, map-more}
use Rattle.suite_core.proofs.scan.begin_parts.Goals as goal

pub loop-id-preserved : goal.loop-id-preserved
loop-id-preserved g c =
    record {
      parts = map-more (begun_part c.args.capacity c.args.label) (beginning c.args.table.now.slots c.args.rows.now)
          c.args.ids.now c.loop-id.id-index _ c.loop-id.parts.items c.push.new.self.items _
          c.loop-id-test.true c.loop-id.invariant.parts
          (pushed c.loop-id.parts.items c.push.new.self.items c.in_ok-part.part _ c.in_ok-push.ensures.items
          (begun-as c.args.capacity c.args.label c.args.table.now.slots c.args.rows.now _ c.begins_down-down.result
          c.in_ok-part.part c.in_ok-part.ensures.part c.begins_down-down.ensures));
      begun = map-more (begun_out c.args.label) (beginning c.args.table.now.slots c.args.rows.now) c.args.ids.now
          c.loop-id.id-index _ c.loop-id.begun.items c.push-in-loop-id.new.self.items _
          c.loop-id-test.true c.loop-id.invariant.begun
          (pushed c.loop-id.begun.items c.push-in-loop-id.new.self.items c.in_ok-part.said _
          c.in_ok-push-2.ensures.items
          (said-as c.args.label c.args.table.now.slots c.args.rows.now _ c.begins_down-down.result c.in_ok-part.said
          c.in_ok-part.ensures.begun c.begins_down-down.ensures));
    }
