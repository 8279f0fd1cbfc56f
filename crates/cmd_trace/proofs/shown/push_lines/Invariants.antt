use Rattle.std.proofs.Common.{◌≡◌, ◌++◌, take, map}
use Rattle.std.specs.Prelude.{string_bytes}
use Rattle.cmd_base.specs.Printed.{printed}
use Rattle.cmd_trace.proofs.shown.push_lines.Given as goal

-- the lines so far are written
abbrev pub invariant-loop-line : goal.invariant-loop-line
invariant-loop-line g l =
    (l.out.items ≡ l.fn.out.items ++ printed (map string_bytes (take l.line-index l.line-items)))
    × (map string_bytes l.line-items ≡ l.lines)
