use Rattle.std.proofs.Common.{◌≡◌, take}
use Rattle.cmd_envdir.proofs.folder.env_files.Given as goal

-- the files so far are in the list
abbrev pub invariant-loop-file : goal.invariant-loop-file
invariant-loop-file g l = l.files.items ≡ take l.file-index l.folder
