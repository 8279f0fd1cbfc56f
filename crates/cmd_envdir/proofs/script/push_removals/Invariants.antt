use Rattle.std.proofs.Common.{◌≡◌, ◌++◌, take}
use Rattle.std.specs.Prelude.{flat_map}
use Rattle.cmd_envdir.specs.Quoting.{removed_text}
use Rattle.cmd_envdir.proofs.script.push_removals.Given as goal

-- the files so far are added
abbrev pub invariant-loop-file : goal.invariant-loop-file
invariant-loop-file g l = l.text.items ≡ l.fn.text.items ++ flat_map (removed_text l.target) (take l.file-index l.files)
