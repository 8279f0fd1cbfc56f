use Rattle.std.proofs.Common.{◌≡◌, map}
use Rattle.std.specs.Vec.Iter.{into_iter_items}
use Rattle.suite_core.specs.Parts.{restarted_in}
use Rattle.suite_core.specs.Places.{AreRising}
use Rattle.suite_core.proofs.place.restart_all.Given as goal

-- with the parts that are left, the parts become what they become with all of them
abbrev pub invariant-loop-new : goal.invariant-loop-new
invariant-loop-new g l = record {
  can : (goal.iterator-loop-new g).can_next l.new-iterator;
  finite : (goal.iterator-loop-new g).is_finite l.new-iterator;
  rising : AreRising l.parts;
  left : map (restarted_in (into_iter_items l.new-iterator)) l.parts ≡ map (restarted_in l.fn.news.items) l.fn.parts;
}
