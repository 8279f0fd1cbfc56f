use Rattle.std.proofs.Common.{◌≡◌, map}
use Rattle.std.specs.Prelude.{string_bytes}
use Rattle.cmd_envdir.specs.System.{AreHeld}
use Rattle.cmd_envdir.proofs.folder.folder_files.Given as goal

-- the files so far have the names so far, and hold what is at their paths
abbrev pub invariant-loop-name : goal.invariant-loop-name
invariant-loop-name g l =
    (map (λ file. file.name) l.files.items ≡ map string_bytes l.yielded)
    × AreHeld (g.R.FileSource.file_at l.rt) l.dir l.files.items
