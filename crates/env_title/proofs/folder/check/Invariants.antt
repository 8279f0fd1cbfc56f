use Rattle.std.proofs.Common.{◌≡◌, drop}
use Rattle.std.specs.Prelude.{slice_get}
use Rattle.env_title.specs.Faults.{first_fault, faults_from}
use Rattle.env_title.proofs.folder.check.Given as goal

abbrev pub invariant-loop-place : goal.invariant-loop-place
invariant-loop-place l = first_fault l.files ≡ slice_get (faults_from l.place (drop l.place l.files)) 0
