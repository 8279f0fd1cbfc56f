use Rattle.std.proofs.Common.{◌≡◌, ◌++◌, take}
use Rattle.std.specs.Prelude.{flat_map}
use Rattle.cmd_envdir.specs.Names.{own_names}
use Rattle.cmd_envdir.specs.Quoting.{file_line, line_of}
use Rattle.cmd_envdir.proofs.script.push_lines.Given as goal

-- the files so far are added
abbrev pub invariant-loop-file : goal.invariant-loop-file
invariant-loop-file g l =
    l.text.items ≡ l.fn.text.items
    ++ (flat_map (line_of l.target) own_names ++ flat_map (file_line l.target) (take l.file-index l.files))
