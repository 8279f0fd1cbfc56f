use Rattle.std.proofs.Common.{◌∙◌}
use Rattle.sup_trace.specs.Reading.{Entries, Whole}
use Rattle.sup_trace.proofs.Steps.{line_read, entry_later}
use Rattle.sup_trace.proofs.reading.Reading.take_entries.Goals as goal

pub returns-then-branch-clause-ok : goal.returns-then-branch-clause-ok
returns-then-branch-clause-ok g c =
    let reads = rw c.if-branch.true at c.in_ok-take_next.ensures.ok in
    c.entries.invariant.content
    ∙ line_read c.entries.lines.number c.take_next.new.lines.number c.entries.lines.rest.now
    c.take_next.new.lines.rest.now
    (Entries c.entries.self) (Whole c.take_next.new.self) reads

pub entries-preserved : goal.entries-preserved
entries-preserved g c =
    let here = Entries c.entries.self in
    let next = Entries c.take_next.new.self in
    let number = c.entries.lines.number in
    let later = c.take_next.new.lines.number in
    let text = c.entries.lines.rest.now in
    let rest = c.take_next.new.lines.rest.now in
    let reads = rw c.if-branch.false at c.in_ok-take_next.ensures.ok in
    record {
      room = c.in_ok-take_next.ensures.room;
      content = c.entries.invariant.content ∙ line_read number later text rest here next reads;
      entry = λ at entry. c.entries.invariant.entry at (entry_later at number later text rest here next reads entry);
    }
