use Rattle.std.proofs.Common.{◌≤◌, length}
use Rattle.cmd_multilog.proofs.Ordered.{IsBefore}
use Rattle.cmd_multilog.proofs.names.place_of.Given as goal

abbrev pub invariant-loop-place : goal.invariant-loop-place
invariant-loop-place g l = (l.place ≤ length l.names) × IsBefore l.name l.names l.place

abbrev pub decreases-loop-place : goal.decreases-loop-place
decreases-loop-place g l = l.place
