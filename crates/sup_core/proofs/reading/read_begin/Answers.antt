use Rattle.std.proofs.Common.{ap, ◌∙◌}
use Rattle.sup_core.specs.Reading.{fields, begin_from}
use Rattle.sup_core.proofs.Lines.{begin_from-begin_text, begin_text-begin_from}
use Rattle.sup_core.proofs.reading.read_begin.Goals as goal

pub returns-clause-found : goal.returns-clause-found
returns-clause-found c = begin_text-begin_from c.args.line.now c.parse_begin.result c.parse_begin.ensures

pub returns-clause-only : goal.returns-clause-only
returns-clause-only c = λ down label range is.
    c.parse_begin.ensures ∙ ap (λ line. begin_from (fields line)) is ∙ begin_from-begin_text down label range
