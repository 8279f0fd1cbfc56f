use Rattle.std.proofs.Common.{◌≡◌, ◌≤◌, ◌-◌, [], take, length}
use Rattle.cmd_local.specs.Local.{local_text}
use Rattle.cmd_local.specs.Passing.{Passes}
use Rattle.cmd_local.proofs.line.put_lines.Given as goal

abbrev pub invariant-loop-at : goal.invariant-loop-at
invariant-loop-at g l =
    Passes (g.Z.Zone.ahead_at l.zone) l.fn.inside (take l.at l.bytes) l.inside [] l.fn.writer.bytes l.writer.bytes
    l.fn.block l.block
    × (l.at ≤ length l.bytes) × (l.last.text ≡ local_text (g.Z.Zone.ahead_at l.zone) l.last.sec)
    × (l.writer.faults ≡ l.fn.writer.faults)

abbrev pub decreases-loop-at : goal.decreases-loop-at
decreases-loop-at g l = length l.bytes - l.at
