use Rattle.std.proofs.Common.{rules}
use Rattle.suite_lines.proofs.PartTexts.{number_of_text-exact}
use Rattle.suite_lines.proofs.part.number_of.Goals as goal

pub returns : goal.returns
returns c = number_of_text-exact c.args.text.now c.read_number.result (search rules) c.read_number.ensures.found
    c.read_number.ensures.only
