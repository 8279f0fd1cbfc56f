use Rattle.std.proofs.Common.{◌≡◌, ◌≤◌, ◌-◌, ◌^◌, take}
use Rattle.cmd_local.specs.Local.{local_text}
use Rattle.cmd_local.specs.Passing.{IsHeld, SoFar}
use Rattle.cmd_local.proofs.localising.localise_input.Given as goal

abbrev pub invariant-reads : goal.invariant-reads
invariant-reads g l =
    SoFar (g.Z.Zone.ahead_at l.zone) l.fn.reader l.reader l.fn.writer l.writer l.inside (take l.held l.bytes)
    × IsHeld l.inside (take l.held l.bytes) × (l.held ≤ 25)
    × (l.last.text ≡ local_text (g.Z.Zone.ahead_at l.zone) l.last.sec)
    × (l.reader.faults ≡ l.fn.reader.faults) × (l.writer.faults ≡ l.fn.writer.faults)

abbrev pub decreases-reads : goal.decreases-reads
decreases-reads g l = 2 ^ 48 - l.reader.reads
