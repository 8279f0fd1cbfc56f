use Rattle.std.proofs.Common.{refl, subst, sym}
use Rattle.svc_host.specs.HostRun.{Runs}
use Rattle.svc_host.specs.Rounds.{HostState}
use Rattle.svc_host.proofs.Moving.{asks, came_then, heard_runs, runs_then}
use Rattle.svc_host.proofs.host.Host.end_outputs.Goals as goal

pub invariant_of-self : goal.invariant_of-self
invariant_of-self g c = came_then _ _ c.self.invariant (asks _ _ refl refl)

pub loop-at-init : goal.loop-at-init
loop-at-init g c = record {
  came = c.self-2.invariant;
  runs = rw (← c.self.view_is) (subst (Runs _) (sym c.self-2.view_is)
      (runs_then _ _ _ (asks _ _ refl refl) c.collect.ensures.runs));
}

pub loop-at-preserved : goal.loop-at-preserved
loop-at-preserved g c =
    let heard = heard_runs _ _ refl c.end_pair.ensures in
    record {
      came = came_then _ _ c.loop-at.invariant.came heard;
      runs = runs_then _ _ _ c.loop-at.invariant.runs heard;
    }

pub returns : goal.returns
returns g c = record { runs = c.loop-at.invariant.runs }
