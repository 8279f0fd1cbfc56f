use Rattle.std.proofs.Common.{◌≡◌, ◌++◌, take}
use Rattle.cmd_envdir.specs.Quoting.{escaped}
use Rattle.cmd_envdir.proofs.script.push_escaped.Given as goal

-- the bytes so far are added
abbrev pub invariant-loop-byte : goal.invariant-loop-byte
invariant-loop-byte g l = l.text.items ≡ l.fn.text.items ++ escaped (take l.byte-index l.bytes)
