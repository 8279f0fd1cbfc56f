use Rattle.std.proofs.Common.{subst, sym}
use Rattle.std.specs.List.{All}
use Rattle.suite_core.specs.Suite.{IsSuiteEvent}
use Rattle.limit_tests.proofs.Events.{one_more}
use Rattle.limit_tests.proofs.scripts.script.Goals as goal

pub loop-line-preserved : goal.loop-line-preserved
loop-line-preserved g c =
    let found = rw c.expect-event.ensures at c.read_suite_event.ensures.found in
    let grown = rw c.expect.ensures at c.push.ensures.items in
    subst (λ events. All IsSuiteEvent events) (sym grown)
    (one_more c.loop-line.events.items c.expect-event.result c.loop-line.invariant found.0)
