use Rattle.std.proofs.Common.{◌∙◌}
use Rattle.svc_host.proofs.Killing.{along}
use Rattle.svc_host.proofs.service.run.Goals as goal

pub returns-then-step-clause-keeps : goal.returns-then-step-clause-keeps
returns-then-step-clause-keeps g c = along _ _ _ _ _ _ c.loop.invariant.3 c.step.ensures.keeps

pub loop-preserved : goal.loop-preserved
loop-preserved g c =
    let before = c.loop.invariant in (
      tt,
      tt,
      record {
        station = c.step.ensures.same.station ∙ before.2.station;
        opening = c.step.ensures.same.opening ∙ before.2.opening;
        source = c.step.ensures.same.source ∙ before.2.source;
      },
      along _ _ _ _ _ _ before.3 c.step.ensures.keeps,
    )
