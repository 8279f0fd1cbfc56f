use Rattle.std.proofs.Common.{◌≡◌, ◌++◌, map, take, string_bytes}
use Rattle.suite_lines.specs.Text.{drop_text}
use Rattle.suite_lines.proofs.text.push_drops.Given as goal

abbrev pub invariant-loop-slot : goal.invariant-loop-slot
invariant-loop-slot g l =
    map (λ line. string_bytes line) l.lines.items
    ≡ map (λ line. string_bytes line) l.fn.lines.items ++ map drop_text (take l.slot-index l.slots)
