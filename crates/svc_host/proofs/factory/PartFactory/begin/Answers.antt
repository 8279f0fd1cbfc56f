use Rattle.std.proofs.Common.{◌≡◌, rules, sym, ap, ◌∙◌, subst, Some}
use Rattle.std.specs.Result.{result_err}
use Rattle.scan_table.specs.Table.{has_log, slot_at}
use Rattle.svc_host.specs.Calls.{name_at}
use Rattle.std.specs.Prelude.{option_copied, IfOk}
use Rattle.svc_record.specs.Opening.{beginning}
use Rattle.svc_host.specs.Parts.{HostPart}
use Rattle.svc_host.specs.Begun.{IsBegun}
use Rattle.svc_host.proofs.Calling.{hands-one, one-behind}
use Rattle.svc_host.proofs.Naming.{named_then, part_named, starts_named}
use Rattle.svc_host.proofs.Rows.{begins_if}
use Rattle.svc_host.proofs.factory.PartFactory.begin.Goals as goal

pub returns-clause-begun : goal.returns-clause-begun
returns-clause-begun g c =
    begins_if c.args.table.now.slots c.args.rows.now c.args.label c.args.id _ c.in-Some-find_row.row.now c.make.result
    (sym c.name.ensures ∙ ap option_copied c.in-Some.is) (search rules)
    (subst (λ down. IfOk c.make.result
    (λ (part : HostPart). IsBegun c.args.id (beginning part.opening down c.args.label) part)) c.is_down-down.ensures
    c.make.ensures.begun)

pub returns-clause-hands : goal.returns-clause-hands
returns-clause-hands g c =
    one-behind _ _ _ _ _ c.start_if_pair.ensures.hands (hands-one _ _ _ _ _ c.make.ensures.asks)

pub returns-clause-named : goal.returns-clause-named
returns-clause-named g c =
    let slots = c.args.table.now.slots in
    let slot = c.args.id.slot in
    let name = c.as_str.result.now in
    let again = c.as_str-3.result.now in
    let named = sym c.name.ensures ∙ ap option_copied c.in-Some.is in
    let read : c.in-Some.name.now ≡ name = search rules in
    let read_again : c.in-Some.name.now ≡ again = search rules in
    let is : name_at slots slot ≡ Some name = named ∙ ap Some read in
    let is_again : name_at slots slot ≡ Some again = named ∙ ap Some read_again in
    named_then slots _ _ _
    (starts_named slots (has_log (slot_at slots slot)) slot name (result_err c.start_if_pair.result)
    c.args.self.now.pairs.items c.start_if_pair.new.self.pairs.items _ _ is c.start_if_pair.ensures.starts)
    (part_named slots c.args.id again _ _ _ is_again c.make.ensures.asks)
