use Rattle.std.proofs.Common.{◌≡◌, drop}
use Rattle.cmd_envdir.specs.Script.{names_file}
use Rattle.cmd_envdir.proofs.script.names_file.Given as goal

-- no file so far has the name
abbrev pub invariant-loop-file : goal.invariant-loop-file
invariant-loop-file l = names_file l.files l.name ≡ names_file (drop l.file-index l.files) l.name
