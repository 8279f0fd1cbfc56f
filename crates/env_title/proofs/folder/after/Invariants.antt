use Rattle.std.proofs.Common.{◌≡◌, drop}
use Rattle.std.specs.Prelude.{slice_get, None}
use Rattle.env_title.specs.Files.{env_after}
use Rattle.env_title.specs.Faults.{faults_from}
use Rattle.env_title.proofs.folder.after.Given as goal

abbrev pub invariant-loop-file : goal.invariant-loop-file
invariant-loop-file g l = record {
  good : slice_get (faults_from l.file-index (drop l.file-index l.files)) 0 ≡ None;
  environment : env_after (drop l.file-index l.files) l.new ≡ env_after l.files l.env;
}
