use Rattle.std.proofs.Common.{map, ap, ◌∙◌}
use Rattle.scan_table.specs.Scan.{starts, restarts}
use Rattle.scan_table.specs.Table.{scanned}
use Rattle.suite_core.specs.Suite.{SuiteState, scan_out, scan_starts, scan_restarts, scan_begun, begun_part}
use Rattle.suite_core.proofs.Begun.{parts-as, begun-all}
use Rattle.suite_core.proofs.suite.Suite.plan.Goals as goal

pub returns-clause-table : goal.returns-clause-table
returns-clause-table g c =
    c.in_ok-scan.ensures.table ∙ ap (λ t. scanned t c.args.rows.now) c.in_ok-table.ensures
    ∙ ap (λ (s : SuiteState). scanned s.table c.args.rows.now) c.self.view_is

pub returns-clause-scan : goal.returns-clause-scan
returns-clause-scan g c =
    c.in_ok-scan.ensures.out ∙ ap (λ t. scan_out t c.args.rows.now) c.in_ok-table.ensures
    ∙ ap (λ (s : SuiteState). scan_out s.table c.args.rows.now) c.self.view_is

pub returns-clause-started : goal.returns-clause-started
returns-clause-started g c =
    let rows = c.args.rows.now in
    let table = c.self.inside.table in
    let after = c.in_ok-scan.ensures.table ∙ ap (λ t. scanned t rows) c.in_ok-table.ensures in
    let out = c.in_ok-scan.ensures.out ∙ ap (λ t. scan_out t rows) c.in_ok-table.ensures in
    parts-as table c.scan.new.table rows c.self.inside.capacity c.args.label c.as_slice.result.now
    (starts table.slots table.next rows) c.in_ok-started.started.items after
    (c.as_slice.ensures ∙ ap (λ o. o.starts) out) c.in_ok-started.ensures.parts
    ∙ ap (λ (s : SuiteState). map (begun_part s.capacity c.args.label) (scan_starts s.table rows)) c.self.view_is

pub returns-clause-restarted : goal.returns-clause-restarted
returns-clause-restarted g c =
    let rows = c.args.rows.now in
    let table = c.self.inside.table in
    let after = c.in_ok-scan.ensures.table ∙ ap (λ t. scanned t rows) c.in_ok-table.ensures in
    let out = c.in_ok-scan.ensures.out ∙ ap (λ t. scan_out t rows) c.in_ok-table.ensures in
    parts-as table c.scan.new.table rows c.self.inside.capacity c.args.label c.as_slice-2.result.now
    (restarts table.slots table.next rows) c.in_ok-restarted.restarted.items after
    (c.as_slice-2.ensures ∙ ap (λ o. o.restarts) out) c.in_ok-restarted.ensures.parts
    ∙ ap (λ (s : SuiteState). map (begun_part s.capacity c.args.label) (scan_restarts s.table rows)) c.self.view_is

pub returns-clause-begun : goal.returns-clause-begun
returns-clause-begun g c =
    let rows = c.args.rows.now in
    let table = c.self.inside.table in
    let after = c.in_ok-scan.ensures.table ∙ ap (λ t. scanned t rows) c.in_ok-table.ensures in
    let out = c.in_ok-scan.ensures.out ∙ ap (λ t. scan_out t rows) c.in_ok-table.ensures in
    begun-all table c.scan.new.table rows c.args.label c.as_slice.result.now c.as_slice-2.result.now
    (starts table.slots table.next rows) (restarts table.slots table.next rows)
    c.new-begun.result.items c.begin_parts.new.begun.items c.begin_parts-2.new.begun.items after
    (c.as_slice.ensures ∙ ap (λ o. o.starts) out) (c.as_slice-2.ensures ∙ ap (λ o. o.restarts) out)
    c.new-begun.ensures.items
    c.in_ok-started.ensures.begun c.in_ok-restarted.ensures.begun
    ∙ ap (λ (s : SuiteState). scan_begun s.table rows c.args.label) c.self.view_is
