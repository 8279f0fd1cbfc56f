use Rattle.std.proofs.Common.{sym}
use Rattle.std.proofs.lemmas.Result.{MatchResult-weaker}
use Rattle.suite_lines.proofs.RowTexts.{name_read}
use Rattle.suite_lines.proofs.row.read_name.Goals as goal

pub returns : goal.returns
returns c =
    rw c.ok.ensures.value
    (name_read (λ text. text.now) c.from_utf8.result c.args.name.now (sym c.if-is_empty.ensures)
    (sym c.if-not-are_graphic.ensures)
    (MatchResult-weaker c.from_utf8.result c.from_utf8.ensures.cases (λ text h. h.0) (λ e h. h.0)))
