use Rattle.std.proofs.Common.{◌≡◌, drop}
use Rattle.tai_status.specs.Words.{texts}
use Rattle.cmd_svc.specs.Listed.{widest}
use Rattle.cmd_svc.proofs.listed.widest.Given as goal

-- the names so far, and those to come
abbrev pub invariant-loop-name : goal.invariant-loop-name
invariant-loop-name l = widest l.width (texts (drop l.name-index l.names)) ≡ widest 0 (texts l.names)
