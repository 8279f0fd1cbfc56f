use Rattle.std.proofs.Common.{string_bytes}
use Rattle.suite_lines.proofs.TextLines.{counts_made}
use Rattle.suite_lines.proofs.text.counts_line.Goals as goal

pub returns : goal.returns
returns g c =
    counts_made (λ line. string_bytes line) c.format.result c.len-started.result c.len-restarted.result
    c.len-dropped.result c.len-refused.result
    _ _ _ _ c.len-started.ensures c.len-restarted.ensures c.len-dropped.ensures c.len-refused.ensures
    c.format.ensures.ok
