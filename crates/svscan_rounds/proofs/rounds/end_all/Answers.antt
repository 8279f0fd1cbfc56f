use Rattle.std.proofs.Common.{List, map, subst, refl}
use Rattle.svscan_rounds.specs.declared.service_set.Remaining.{Remaining}
use Rattle.svscan_rounds.specs.Rounds.{effects, remaining_report, ReportsAll}
use Rattle.svscan_rounds.proofs.Turning.{ending-none, ending-more, ending-ends}
use Rattle.svscan_rounds.proofs.rounds.end_all.Goals as goal

pub loop-init : goal.loop-init
loop-init g c = (ending-none (effects (g.K.ServiceSet.calls c.args.services.now) c.args.faults.now), c.requires.ready)

pub loop-preserved : goal.loop-preserved
loop-preserved g c =
    let calls = g.K.ServiceSet.calls in
    let reported = subst (λ (l : List Remaining).
    ReportsAll (map remaining_report l) c.loop.faults c.report_remaining.new.faults) c.deref.ensures.value
    c.report_remaining.ensures in (
      ending-more (effects (calls c.args.services.now) c.args.faults.now)
          (effects (calls c.loop.services) c.loop.faults)
          (effects (calls c.end.new.self) c.report_remaining.new.faults) c.in-Some-end.left.items c.loop.invariant.0
          c.in-Some-end.ensures.ended reported,
      c.end.ensures.ready,
    )

pub returns-in-None-end-clause-ends : goal.returns-in-None-end-clause-ends
returns-in-None-end-clause-ends g c =
    let calls = g.K.ServiceSet.calls in
    ending-ends (effects (calls c.args.services.now) c.args.faults.now) (effects (calls c.loop.services) c.loop.faults)
    (effects (calls c.end.new.self) c.loop.faults)
    (effects (calls c.leave.new.services) c.leave.new.faults) c.loop.invariant.0 c.in-None-end.ensures.ended refl
    c.leave.ensures.leaves
