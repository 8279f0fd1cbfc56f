use Rattle.std.proofs.Common.{List, subst, ◌∙◌}
use Rattle.std.specs.Result.{is_ok}
use mathlib.Core.List.{IsPrefix}
use Rattle.scan_table.specs.Table.{TableState}
use Rattle.svc_host.specs.declared.host.Unmade as host
use Rattle.cmd_svscan.specs.Losses.{unmade_in}
use Rattle.cmd_svscan.proofs.Asked.{asked-then}
use Rattle.cmd_svscan.proofs.Naming.{names-unmade}
use Rattle.cmd_svscan.proofs.scanning.admit.Goals as goal

pub returns-clause-unmade : goal.returns-clause-unmade
returns-clause-unmade g c =
    let named = c.unmade_in.result.items in
    let all = c.extend_from_slice.new.self.items in
    let old = c.args.host.now.table in
    let table = c.refusals-refusals.ensures.table ∙ c.admit_all.ensures.table in
    names-unmade old.slots c.args.failed.items c.deref.result.now all named (is_ok c.extend_from_slice.result)
    c.extend_from_slice.ensures.items
    (subst (λ (now : TableState). IsPrefix named (unmade_in now.slots all)) table
    (subst (λ (ones : List host.Unmade). IsPrefix named
    (unmade_in c.refusals-refusals.new.host.table.slots ones)) c.deref-2.ensures.value c.unmade_in.ensures))

pub returns-clause-host : goal.returns-clause-host
returns-clause-host g c = asked-then _ _ _ _ _ c.admit_all.ensures c.refusals-refusals.ensures
