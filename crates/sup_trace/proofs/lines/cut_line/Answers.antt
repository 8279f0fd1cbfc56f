use Rattle.std.proofs.Common.{◌==◌, sym}
use Rattle.sup_core.proofs.Fields.{split_none, split_some}
use Rattle.sup_trace.proofs.lines.cut_line.Goals as goal

pub returns-in-None-clause-parts : goal.returns-in-None-clause-parts
returns-in-None-clause-parts c = split_none (λ byte. byte == 10) c.args.text.now (sym c.in-None.ensures.at)

pub returns-in-Some-clause-parts : goal.returns-in-Some-clause-parts
returns-in-Some-clause-parts c =
    split_some (λ byte. byte == 10) 0 c.args.text.now c.in-Some.at (sym c.in-Some.ensures.at)
