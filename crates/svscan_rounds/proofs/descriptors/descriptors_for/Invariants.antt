use Rattle.std.proofs.Common.{◌≡◌, ◌+◌, ◌-◌, ◌^◌, take}
use Rattle.std.specs.Prelude.{min, sum_by}
use Rattle.svscan_rounds.specs.Descriptors.{descriptors_of}
use Rattle.svscan_rounds.proofs.descriptors.descriptors_for.Given as goal

-- what is needed for the rows so far
abbrev pub invariant-loop-row : goal.invariant-loop-row
invariant-loop-row l = l.needed ≡ min (24 + sum_by descriptors_of (take l.row-index l.rows)) (2 ^ 64 - 1)
