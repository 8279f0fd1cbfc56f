use Rattle.std.proofs.Common.{◌≡◌, ◌++◌, map, take, string_bytes}
use Rattle.suite_lines.specs.Text.{begun_text}
use Rattle.suite_lines.proofs.text.push_begun.Given as goal

abbrev pub invariant-loop-begun : goal.invariant-loop-begun
invariant-loop-begun g l =
    map (λ line. string_bytes line) l.lines.items
    ≡ map (λ line. string_bytes line) l.fn.lines.items ++ map begun_text (take l.begun-index l.begins)
