use Rattle.sup_trace.specs.Reading.{Entries}
use Rattle.sup_trace.proofs.Steps.{line_refused, entry_here}
use Rattle.sup_trace.proofs.reading.Reading.take_next.Goals as goal

pub returns-in-Err-clause-fault : goal.returns-in-Err-clause-fault
returns-in-Err-clause-fault g c = λ other.
    line_refused _ (Entries c.args.self.now) c.in-Err.kind c.in_ok-line.line.now c.args.lines.now.rest.now
    c.next_line.new.self.rest.now
    c.in_ok-line.ensures.line (c.in-Err.ensures.fault other)

pub returns-in-Err-clause-memory : goal.returns-in-Err-clause-memory
returns-in-Err-clause-memory g c = λ memory.
    entry_here _ c.args.self.now c.in_ok-line.line.now c.args.lines.now.rest.now c.next_line.new.self.rest.now
    c.in_ok-line.ensures.line
    (c.in-Err.ensures.memory memory)
