use Rattle.std.proofs.Common.{map, string_bytes, length, ◌∙◌, ap, sym, subst, arith}
use Rattle.std.specs.List.{AllByRecursion}
use Rattle.std.proofs.lemmas.List.{map_push, take_all}
use Rattle.tai_status.specs.LineReader.{IsPlain}
use Rattle.sup_core.specs.History.{state_of}
use Rattle.sup_trace.specs.Explained.{before, explained}
use Rattle.sup_trace.proofs.Plain.{plain-explained}
use Rattle.sup_trace.proofs.Places.{entry_at, length-explained, lines-more}
use Rattle.sup_trace.proofs.explained.explain.Goals as goal

pub explained_line-requires : goal.explained_line-requires
explained_line-requires g c =
    let items = c.entries-event-items in
    (entry_at c.args.content.now items.result.now c.loop-place.place c.event-item.result items.ensures.bounds
    items.ensures.entries
    c.loop-place-test.true c.event-item.is).condition

pub loop-place-preserved : goal.loop-place-preserved
loop-place-preserved g c =
    let content = c.args.content.now in
    let items = c.entries-event-items in
    let place = c.loop-place.place in
    let event = c.event-item.result in
    let entry = entry_at content items.result.now place event items.ensures.bounds items.ensures.entries
    c.loop-place-test.true c.event-item.is in
    let past = before content place in
    let stands = sym c.loop-place.invariant.machine in
    record {
      machine = c.explained_line.ensures.state past stands ∙ ap state_of (sym entry.next_is);
      lines = rw (
        c.in_ok-push.ensures.items,
        map_push (λ line. string_bytes line) c.loop-place.lines.items c.in_ok-explained_line.field-0,
      )
          (lines-more content place event (map (λ line. string_bytes line) c.loop-place.lines.items)
          (string_bytes c.in_ok-explained_line.field-0)
          entry.within entry.at c.loop-place.invariant.lines (c.in_ok-explained_line.ensures.line past stands));
    }

pub returns-clause-lines : goal.returns-clause-lines
returns-clause-lines g c =
    let content = c.args.content.now in
    c.from_vec.ensures ∙ c.loop-place.invariant.lines
    ∙ take_all c.loop-place.place (explained content)
    (omega (arith, length-explained content, ap length c.entries-event-items.ensures.entries))

pub returns-clause-plain : goal.returns-clause-plain
returns-clause-plain g c =
    subst (AllByRecursion IsPlain) (sym (returns-clause-lines g c)) (plain-explained c.args.content.now)
