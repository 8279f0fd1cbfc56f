use Rattle.std.proofs.Common.{sym, subst, ap, ◌∙◌}
use Rattle.suite_core.specs.Suite.{SuiteState}
use Rattle.suite_core.specs.Places.{AreRising, IsSuite}
use Rattle.suite_core.proofs.Tied.{parts-rise}
use Rattle.suite_core.proofs.Begun.{suite-scanned}
use Rattle.suite_core.proofs.Runs.{IsSuite-scanned}
use Rattle.suite_core.proofs.suite.Suite.take_scan.Goals as goal

pub change-requires-clause-rising : goal.change-requires-clause-rising
change-requires-clause-rising g c =
    subst (λ parts. AreRising parts) (sym c.in-Ok-reserve.ensures.parts)
    (parts-rise c.self.inside.table c.self.inside.parts.items c.self.invariant.rising c.self.invariant.tied)

pub invariant_of-self-2 : goal.invariant_of-self-2
invariant_of-self-2 g c =
    let suite = c.args.self.now in
    subst IsSuite
    (sym (suite-scanned suite c.args.rows.now c.args.label c.self.inside.capacity c.in-Ok.plan.table
    c.as_slice.result.now c.in-Ok.plan.started.items c.in-Ok.plan.restarted.items
    c.reserve.new.parts.items c.change.new.parts.items (ap (λ (s : SuiteState). s.capacity) c.self.view_is)
    c.in-Ok.ensures.table (c.as_slice.ensures ∙ ap (λ o. o.drops) c.in-Ok.ensures.scan) c.in-Ok.ensures.started
    c.in-Ok.ensures.restarted
    (c.in-Ok-reserve.ensures.parts ∙ ap (λ (s : SuiteState). s.parts) c.self.view_is) c.change.ensures))
    (IsSuite-scanned suite c.args.rows.now c.args.label (subst IsSuite c.self.view_is c.self.invariant))
