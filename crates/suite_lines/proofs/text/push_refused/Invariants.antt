use Rattle.std.proofs.Common.{◌≡◌, ◌++◌, map, take, string_bytes}
use Rattle.suite_lines.specs.Text.{refused_text}
use Rattle.suite_lines.proofs.text.push_refused.Given as goal

abbrev pub invariant-loop-name : goal.invariant-loop-name
invariant-loop-name g l =
    map (λ line. string_bytes line) l.lines.items
    ≡ map (λ line. string_bytes line) l.fn.lines.items ++ map refused_text (take l.name-index l.names)
