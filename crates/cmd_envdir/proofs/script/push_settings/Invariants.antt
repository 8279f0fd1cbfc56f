use Rattle.std.proofs.Common.{◌≡◌, ◌++◌, take}
use Rattle.std.specs.Prelude.{flat_map}
use Rattle.cmd_envdir.specs.Quoting.{set_text}
use Rattle.cmd_envdir.proofs.script.push_settings.Given as goal

-- the variables so far are added
abbrev pub invariant-loop-variable : goal.invariant-loop-variable
invariant-loop-variable g l =
    l.text.items ≡ l.fn.text.items ++ flat_map (set_text l.files) (take l.variable-index l.target)
