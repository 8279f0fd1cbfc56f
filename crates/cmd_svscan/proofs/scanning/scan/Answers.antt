use Rattle.std.proofs.Common.{[], ◌∷◌, refl, subst, sym}
use Rattle.svc_host.specs.Calls.{AdmittedAll, AskedRefusals}
use Rattle.cmd_svscan.specs.Asking.{IsAsked}
use Rattle.scan_table.specs.Table.{TableState}
use Rattle.svc_host.specs.Rounds.{HostState}
use Rattle.cmd_svscan.specs.Scanning.{NamesUnmade}
use Rattle.cmd_svscan.proofs.scanning.scan.Goals as goal

pub returns-in-Ok-scan : goal.returns-in-Ok-scan
returns-in-Ok-scan g c =
    record {
      before = c.prepare.new.host;
      prepared = c.in-Ok-prepare.ensures;
      label = c.now-label.result;
      found = c.in-Ok-scan.field-0;
      after = c.scan.new.self;
      scanned = c.in-Ok-scan.ensures.scanned;
      admitted = subst (λ (host : HostState). IsAsked (AdmittedAll ∷ AskedRefusals ∷ []) host c.admit.new.host)
          c.forget_losses.ensures.forgets c.admit.ensures.host;
      untaken = c.in-Ok.ensures.untaken;
      untraced = c.in-Ok.ensures.untraced;
      refused = refl;
      unmade = subst (λ (table : TableState).
          NamesUnmade table.slots c.in-Ok-scan.field-0.failed.items c.admit.result.items)
          (sym c.admit.ensures.host.table) c.admit.ensures.unmade;
    }
