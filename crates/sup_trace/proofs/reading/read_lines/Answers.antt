use Rattle.std.proofs.Common.{◌<◌, ℕ, List, [], length, sym, ap, ◌∙◌, arith}
use Rattle.sup_trace.specs.Content.{content_of}
use Rattle.sup_trace.proofs.Steps.{over_end, from_base}
use Rattle.sup_trace.proofs.Whole.{IsTraceText-content, answer, reported_whole}
use Rattle.sup_trace.proofs.reading.read_lines.Goals as goal

pub returns-then-not-is_empty-clause-fault : goal.returns-then-not-is_empty-clause-fault
returns-then-not-is_empty-clause-fault g c = λ other.
    let rest : List ℕ = c.take_entries.new.lines.rest.now in
    let long : 0 < length rest = let e = c.if-not-is_empty.ensures in grind (arith, e) in
    from_base c.args.text.now c.new-lines.result.rest.now c.take_opening.new.lines.rest.now _ _
    (content_of c.in_ok-folded.base c.in_ok-folded.folded []) c.new-reading.result c.new-lines.ensures.rest
    c.new-lines.ensures.number
    c.in_ok-folded.ensures.ok c.new-reading.ensures
    ∙ c.in_ok-take_entries.ensures.ok ∙ over_end c.take_entries.new.lines.number c.take_entries.new.self rest long

pub into_text-requires : goal.into_text-requires
into_text-requires g c =
    let opened =
    from_base c.args.text.now c.new-lines.result.rest.now c.take_opening.new.lines.rest.now _ _
    (content_of c.in_ok-folded.base c.in_ok-folded.folded []) c.new-reading.result c.new-lines.ensures.rest
    c.new-lines.ensures.number
    c.in_ok-folded.ensures.ok c.new-reading.ensures in
    IsTraceText-content c.args.text.now c.take_entries.new.self
    (reported_whole c.args.text.now c.take_entries.new.lines.rest.now _ c.take_entries.new.self (opened
    ∙ c.in_ok-take_entries.ensures.ok)
    c.if-not-is_empty.ensures)

pub returns-clause-content : goal.returns-clause-content
returns-clause-content g c =
    let opened =
    from_base c.args.text.now c.new-lines.result.rest.now c.take_opening.new.lines.rest.now _ _
    (content_of c.in_ok-folded.base c.in_ok-folded.folded []) c.new-reading.result c.new-lines.ensures.rest
    c.new-lines.ensures.number
    c.in_ok-folded.ensures.ok c.new-reading.ensures in
    reported_whole c.args.text.now c.take_entries.new.lines.rest.now _ c.take_entries.new.self (opened
    ∙ c.in_ok-take_entries.ensures.ok)
    c.if-not-is_empty.ensures
    ∙ ap answer (sym c.into_text.ensures)
