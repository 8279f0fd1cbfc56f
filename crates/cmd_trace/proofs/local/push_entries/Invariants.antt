use Rattle.std.proofs.Common.{◌≡◌, ◌++◌, take}
use Rattle.sup_core.specs.History.{state_of}
use Rattle.sup_trace.specs.Explained.{before}
use Rattle.cmd_base.specs.Printed.{printed}
use Rattle.cmd_trace.specs.Local.{local_lines}
use Rattle.cmd_trace.proofs.local.push_entries.Given as goal

-- the machine before the entry at this place, and the lines of the entries so far
abbrev pub invariant-loop-place : goal.invariant-loop-place
invariant-loop-place g l = record {
  machine : l.machine ≡ state_of (before l.content l.place);
  lines : l.out.items ≡ l.fn.out.items ++ printed (take l.place (local_lines (g.Z.Zone.ahead_at l.zone) l.content));
}
