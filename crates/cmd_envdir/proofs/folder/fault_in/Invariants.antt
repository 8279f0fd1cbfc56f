use Rattle.std.proofs.Common.{◌≡◌, drop}
use Rattle.std.specs.Prelude.{slice_get}
use Rattle.env_title.specs.Faults.{first_fault, faults_from}
use Rattle.cmd_envdir.proofs.folder.fault_in.Given as goal

-- the first fault is that of a file from this place on
abbrev pub invariant-loop-place : goal.invariant-loop-place
invariant-loop-place g l = first_fault l.folder ≡ slice_get (faults_from l.place (drop l.place l.folder)) 0
