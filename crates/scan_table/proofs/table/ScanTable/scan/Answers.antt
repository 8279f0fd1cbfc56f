use Rattle.std.proofs.Common.{◌∙◌, ◌+◌, ap, sym, subst}
use Rattle.scan_table.specs.Scan.{starts, restarts, new_slots, needs}
use Rattle.scan_table.specs.Table.{TableState, scanned, AreFresh}
use Rattle.scan_table.proofs.Given.{starts-fresh, restarts-fresh}
use Rattle.scan_table.proofs.After.{table-scanned, table-is, planned-distinct}
use Rattle.scan_table.proofs.table.ScanTable.scan.Goals as goal

pub carry_out-requires-clause-distinct : goal.carry_out-requires-clause-distinct
carry_out-requires-clause-distinct g c =
    planned-distinct c.self.inside.slots.items c.self.inside.next c.args.rows.now c.deref-3.result.now
    c.in_ok-plan.plan.assigned.slots.items c.self.inside.index.items
    c.in_ok-plan.ensures.rising c.self.invariant
    (c.deref-3.ensures.value ∙ c.in_ok-plan.ensures.restarts
    ∙ ap (λ slots. restarts slots c.self.inside.next c.args.rows.now) c.deref.ensures.value)
    (c.in_ok-plan.ensures.slots
    ∙ ap (λ slots. new_slots slots c.self.inside.next c.args.rows.now) c.deref.ensures.value)

pub invariant_of-self-2 : goal.invariant_of-self-2
invariant_of-self-2 g c =
    table-scanned c.self.inside.slots.items c.self.inside.next c.args.rows.now c.deref-3.result.now
    c.in_ok-plan.plan.assigned.slots.items c.carry_out.new.slots.items
    c.in_ok-plan.plan.assigned.number c.carry_out.new.index.items c.self.invariant.rising c.self.invariant.numbered
    (c.deref-3.ensures.value ∙ c.in_ok-plan.ensures.restarts
    ∙ ap (λ slots. restarts slots c.self.inside.next c.args.rows.now) c.deref.ensures.value)
    (c.in_ok-plan.ensures.slots
    ∙ ap (λ slots. new_slots slots c.self.inside.next c.args.rows.now) c.deref.ensures.value)
    (c.in_ok-plan.ensures.number ∙ ap (λ slots. c.self.inside.next + needs slots c.args.rows.now) c.deref.ensures.value)
    c.in-Ok.ensures.slots c.in-Ok.ensures.index c.in-Ok.ensures.whole

pub returns-clause-table : goal.returns-clause-table
returns-clause-table g c =
    table-is c.self.inside.slots.items c.self.inside.next c.args.rows.now c.deref-3.result.now
    c.in_ok-plan.plan.assigned.slots.items c.carry_out.new.slots.items
    c.in_ok-plan.plan.assigned.number
    (c.deref-3.ensures.value ∙ c.in_ok-plan.ensures.restarts
    ∙ ap (λ slots. restarts slots c.self.inside.next c.args.rows.now) c.deref.ensures.value)
    (c.in_ok-plan.ensures.slots
    ∙ ap (λ slots. new_slots slots c.self.inside.next c.args.rows.now) c.deref.ensures.value)
    (c.in_ok-plan.ensures.number ∙ ap (λ slots. c.self.inside.next + needs slots c.args.rows.now) c.deref.ensures.value)
    c.in-Ok.ensures.slots
    ∙ ap (λ table. scanned table c.args.rows.now) c.self.view_is

pub returns-clause-fresh_starts : goal.returns-clause-fresh_starts
returns-clause-fresh_starts g c =
    let counter = c.in_ok-plan.ensures.number
    ∙ ap (λ slots. c.self.inside.next + needs slots c.args.rows.now) c.deref.ensures.value in
    let begun = c.from_vec.ensures ∙ c.in_ok-plan.ensures.starts
    ∙ ap (λ slots. starts slots c.self.inside.next c.args.rows.now) c.deref.ensures.value in
    subst (λ (table : TableState). AreFresh table.next c.in_ok-plan.plan.assigned.number c.from_vec.result)
    c.self.view_is
    (subst (λ parts. AreFresh c.self.inside.next c.in_ok-plan.plan.assigned.number parts) (sym begun)
    (subst (λ next. AreFresh c.self.inside.next next
    (starts c.self.inside.slots.items c.self.inside.next c.args.rows.now)) (sym counter)
    (starts-fresh c.self.inside.slots.items c.self.inside.next c.args.rows.now)))

pub returns-clause-fresh_restarts : goal.returns-clause-fresh_restarts
returns-clause-fresh_restarts g c =
    let counter = c.in_ok-plan.ensures.number
    ∙ ap (λ slots. c.self.inside.next + needs slots c.args.rows.now) c.deref.ensures.value in
    let again = c.from_vec-2.ensures ∙ c.in_ok-plan.ensures.restarts
    ∙ ap (λ slots. restarts slots c.self.inside.next c.args.rows.now) c.deref.ensures.value in
    subst (λ (table : TableState). AreFresh table.next c.in_ok-plan.plan.assigned.number c.from_vec-2.result)
    c.self.view_is
    (subst (λ parts. AreFresh c.self.inside.next c.in_ok-plan.plan.assigned.number parts) (sym again)
    (subst (λ next. AreFresh c.self.inside.next next
    (restarts c.self.inside.slots.items c.self.inside.next c.args.rows.now)) (sym counter)
    (restarts-fresh c.self.inside.slots.items c.self.inside.next c.args.rows.now)))
