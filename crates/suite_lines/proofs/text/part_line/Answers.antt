use Rattle.std.proofs.Common.{string_bytes, ◌∙◌}
use Rattle.suite_lines.specs.Text.{part_text}
use Rattle.suite_lines.proofs.TextLines.{part_made}
use Rattle.suite_lines.proofs.text.part_line.Goals as goal

pub returns : goal.returns
returns g c =
    part_made (λ line. string_bytes line) c.format.result c.as_str.result.now (part_text c.args.part) c.args.answer.now
    (c.as_str.ensures.value ∙ c.part_text-part.ensures.text) c.format.ensures.ok
