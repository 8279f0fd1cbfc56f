use Rattle.std.proofs.Common.{◌≡◌, ◌-◌}
use Rattle.svc_record.specs.Leftover.{is_known}
use Rattle.svc_record.specs.declared.leftover.TheConstants.{GENERATIONS}
use Rattle.svc_record.proofs.leftover.is_known.Given as goal

-- a known process is looked for in the generations that are left
abbrev pub invariant-loop-passed : goal.invariant-loop-passed
invariant-loop-passed l =
    is_known (GENERATIONS - l.passed) l.all l.at ≡ is_known GENERATIONS l.all l.one
