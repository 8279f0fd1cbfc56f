use Rattle.sup_trace.specs.Reading.{Header}
use Rattle.sup_trace.proofs.Steps.{line_refused}
use Rattle.sup_trace.proofs.reading.take_base.Goals as goal

pub returns-in-Err-clause-fault : goal.returns-in-Err-clause-fault
returns-in-Err-clause-fault c =
    line_refused _ Header c.in-Err.kind c.in_ok-line.line.now c.args.lines.now.rest.now c.next_line.new.self.rest.now
    c.in_ok-line.ensures.line c.in-Err.ensures.fault
