use Rattle.std.proofs.Common.{sym}
use Rattle.sup_core.specs.Reading.{fields, begin_from}
use Rattle.cmd_sim.proofs.Answered.{begun_so}
use Rattle.cmd_sim.proofs.answering.begin_service.Goals as goal

pub returns-clause-ok : goal.returns-clause-ok
returns-clause-ok c =
    begun_so (begin_from (fields c.args.line.now)) c.in_ok-read_begin.field-0 c.begin_at.result.0
    c.begin_at.result.1.bytes
    (sym c.in_ok-read_begin.ensures.exact) c.begin_at.ensures.machine c.begin_at.ensures.text
