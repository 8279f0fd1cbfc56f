use Rattle.std.proofs.Common.{[], ◌∷◌, true, refl, subst}
use Rattle.svc_house.specs.Calls.{ExtendedWhileKept}
use Rattle.svc_house.proofs.Extended.{extended-append}
use Rattle.svc_host.specs.Calls.{CountedLost, EndedOutput}
use Rattle.scan_table.specs.declared.part.Role.TheVariants.{Log}
use Rattle.svc_host.specs.Parts.{AreHeard}
use Rattle.svc_host.specs.Rounds.{HostState}
use Rattle.svc_host.proofs.Going.{none_heard}
use Rattle.svc_host.proofs.Stepping.{sight_heard}
use Rattle.svc_host.proofs.Moving.{asks, came_then, heard_runs}
use Rattle.svc_host.proofs.host.Host.take_lost.Goals as goal

pub returns-in_err-pair-clause-parts : goal.returns-in_err-pair-clause-parts
returns-in_err-pair-clause-parts g c =
    subst (λ (host : HostState). AreHeard host.parts c.self.inside.parts.items) c.self.view_is
    (none_heard c.self.inside.parts.items)

pub returns-clause-parts : goal.returns-clause-parts
returns-clause-parts g c =
    subst (λ (host : HostState). AreHeard host.parts c.sight_at.new.parts.items) c.self.view_is
    (sight_heard _ Log c.self.inside.parts.items c.sight_at.new.parts.items _ c.sight_at.ensures)

pub returns-clause-counts : goal.returns-clause-counts
returns-clause-counts g c =
    rw (← c.self.view_is) (record {
      logger = c.sight_at.result;
      logger_seen = c.sight_at.ensures;
      asked = subst (λ has_logger. ExtendedWhileKept (g.M.Maker.calls c.self.inside.factory.maker)
          (g.M.Maker.calls c.lost-count.new.self)
          (EndedOutput c.in_ok-pair.pair.slot true
          ∷ CountedLost c.in_ok-pair.pair.slot has_logger c.lost-count.result ∷ []))
          c.lives-has_logger.ensures
          (extended-append _ _ _ _ _ c.end_output.ensures.calls c.lost-count.ensures.calls);
    })

pub returns-in_err-pair-clause-runs : goal.returns-in_err-pair-clause-runs
returns-in_err-pair-clause-runs g c = rw (← c.self.view_is) (asks _ _ refl refl)

pub invariant_of-self-2 : goal.invariant_of-self-2
invariant_of-self-2 g c =
    came_then _ _ c.self.invariant (heard_runs _ _ refl (sight_heard _ Log _ _ _ c.sight_at.ensures))

pub returns-clause-runs : goal.returns-clause-runs
returns-clause-runs g c =
    rw (← c.self.view_is) (heard_runs _ _ refl (sight_heard _ Log _ _ _ c.sight_at.ensures))
