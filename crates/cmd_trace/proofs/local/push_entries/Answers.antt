use Rattle.std.proofs.Common.{List, ℕ, ◌++◌, length, ◌∙◌, ap, sym, arith}
use Rattle.std.proofs.lemmas.List.{take_all}
use Rattle.sup_core.specs.History.{state_of}
use Rattle.sup_trace.specs.Explained.{before}
use Rattle.cmd_base.specs.Printed.{printed}
use Rattle.cmd_trace.specs.Local.{local_lines}
use Rattle.cmd_trace.proofs.Places.{entry_at, length-local_lines, written-more}
use Rattle.cmd_trace.proofs.local.push_entries.Goals as goal

pub push_entry-requires : goal.push_entry-requires
push_entry-requires g c =
    let items = c.entries-event-items in
    (entry_at c.args.content.now items.result.now c.loop-place.place c.event-item.result items.ensures.bounds
    items.ensures.entries
    c.loop-place-test.true c.event-item.is).condition

pub loop-place-preserved : goal.loop-place-preserved
loop-place-preserved g c =
    let content = c.args.content.now in
    let items = c.entries-event-items in
    let place = c.loop-place.place in
    let event = c.event-item.result in
    let entry = entry_at content items.result.now place event items.ensures.bounds items.ensures.entries
    c.loop-place-test.true c.event-item.is in
    let past = before content place in
    let stands = sym c.loop-place.invariant.machine in
    record {
      machine = c.push_entry.ensures.state past stands ∙ ap state_of (sym entry.next_is);
      lines = written-more (g.Z.Zone.ahead_at c.args.zone.now) content place event c.args.out.now.items
          c.loop-place.out.items
          c.push_entry.new.out.items entry c.loop-place.invariant.lines (c.in_ok-push_entry.ensures.line past stands);
    }

pub returns : goal.returns
returns g c =
    let content = c.args.content.now in
    let lines = local_lines (g.Z.Zone.ahead_at c.args.zone.now) content in
    c.loop-place.invariant.lines
    ∙ ap (λ (texts : List (List ℕ)). c.args.out.now.items ++ printed texts)
    (take_all c.loop-place.place lines
    (omega (
      arith,
      length-local_lines (g.Z.Zone.ahead_at c.args.zone.now) content,
      ap length c.entries-event-items.ensures.entries,
    )))
