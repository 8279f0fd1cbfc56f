use Rattle.std.proofs.Common.{◌≡◌, ◌-◌}
use Rattle.svc_record.specs.Leftover.{topmost}
use Rattle.svc_record.specs.declared.leftover.TheConstants.{GENERATIONS}
use Rattle.svc_record.proofs.leftover.topmost.Given as goal

-- the topmost process is looked for in the generations that are left
abbrev pub invariant-loop-passed : goal.invariant-loop-passed
invariant-loop-passed l =
    topmost (GENERATIONS - l.passed) l.intent l.all l.top ≡ topmost GENERATIONS l.intent l.all l.one
