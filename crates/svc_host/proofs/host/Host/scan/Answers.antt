use Rattle.std.proofs.Common.{List, refl, rules, sym, subst, ap, ◌∙◌}
use Rattle.svc_host.specs.declared.host.Unmade.{Unmade}
use Rattle.svc_host.specs.Rounds.{HostState, IsCause, IsScanned, after_ends, staying, unmade_ids}
use Rattle.svc_host.proofs.Beginning.{begun_as}
use Rattle.svc_host.proofs.Causes.{cause}
use Rattle.svc_host.proofs.Moving.{asks, came_then, scanned_runs}
use Rattle.svc_host.proofs.host.Host.scan.Given as given
use Rattle.svc_host.proofs.host.Host.scan.Goals as goal

pub returns-in-Err-clause-cause : goal.returns-in-Err-clause-cause
returns-in-Err-clause-cause g c =
    subst (λ (host : HostState). IsCause host.table c.args.rows.now c.in-Err.fault) c.self.view_is
    (cause c.self.inside.table c.args.rows.now c.in-Err.fault (sym c.in-Err.ensures.exact))

is_scanned : (g : given.Over) (c : goal.After-drop-ids g) → IsScanned (record {
  table = c.self.inside.table;
  parts = c.self.inside.parts.items;
  calls = g.M.Maker.calls c.self.inside.factory.maker;
})
    c.args.rows.now c.args.label (record { scan = c.in-Ok.found.scan; failed = c.begin_all.new.begun.failed })
    (record {
      table = c.end_all.new.table;
      parts = c.begin_all.new.begun.parts.items;
      calls = g.M.Maker.calls c.begin_all.new.factory.maker;
    })
is_scanned g c = record {
  accepted = search rules;
  scan = c.in-Ok.ensures.scan;
  table = c.end_all.ensures
      ∙ ap (λ (l : List Unmade). after_ends (unmade_ids l) c.in-Ok.found.table) c.deref-2.ensures.value
      ∙ ap (after_ends (unmade_ids c.begin_all.new.begun.failed.items)) c.in-Ok.ensures.table;
  calls = g.M.Maker.calls c.take_away.new.factory.maker;
  forgets = c.take_away.ensures.forgets;
  begun = begun_as _ _ c.args.rows.now c.args.label _ _ _ _ _ c.begin_all.ensures
      (ap (λ table. table.slots) c.in-Ok.ensures.table) (c.deref.ensures.value ∙ c.in-Ok.ensures.ids)
      (ap (λ parts. parts.items) c.replace-parts.ensures.value ∙ c.take_away.ensures.parts
      ∙ ap (staying c.in-Ok.found.scan) c.scan.ensures.parts);
}

pub returns-clause-scanned : goal.returns-clause-scanned
returns-clause-scanned g c = rw (← c.self.view_is) (is_scanned g c)

pub invariant_of-self-2 : goal.invariant_of-self-2
invariant_of-self-2 g c =
    came_then _ _ c.self.invariant (scanned_runs _ _ c.args.rows.now c.args.label _ (is_scanned g c))

pub returns-clause-runs : goal.returns-clause-runs
returns-clause-runs g c =
    rw (← c.self.view_is) (scanned_runs _ _ c.args.rows.now c.args.label _ (is_scanned g c))

pub returns-in_default-scan-clause-runs : goal.returns-in_default-scan-clause-runs
returns-in_default-scan-clause-runs g c = rw (← c.self.view_is) (asks _ _ refl c.scan.ensures.parts)
