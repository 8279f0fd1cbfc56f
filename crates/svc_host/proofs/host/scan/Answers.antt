use Rattle.std.proofs.Common.{ap, ◌∙◌}
use Rattle.scan_table.specs.Table.{scanned}
use Rattle.svc_host.proofs.host.scan.Goals as goal

pub returns-clause-table : goal.returns-clause-table
returns-clause-table g c = c.copy-2.view_is ∙ c.in-Ok.ensures.table
    ∙ ap (λ table. scanned table c.args.rows.now) c.in_ok-copy.ensures
