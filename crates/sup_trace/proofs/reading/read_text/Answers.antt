use Rattle.sup_trace.proofs.Heard.{memory_entry, memory_later}
use Rattle.sup_trace.proofs.Whole.{found-ok, only-ok}
use Rattle.sup_trace.proofs.reading.read_text.Goals as goal

pub returns-clause-found : goal.returns-clause-found
returns-clause-found g c = found-ok c.args.text.now c.read_lines.result c.read_lines.ensures.content

pub returns-clause-only : goal.returns-clause-only
returns-clause-only g c = λ content so is.
    only-ok c.args.text.now content c.read_lines.result so is c.read_lines.ensures.content c.read_lines.ensures.fault

pub returns-clause-memory : goal.returns-clause-memory
returns-clause-memory g c = memory_entry c.args.text.now c.read_lines.result c.read_lines.ensures.memory

pub returns-clause-later : goal.returns-clause-later
returns-clause-later g c = memory_later c.args.text.now c.read_lines.result c.read_lines.ensures.memory
