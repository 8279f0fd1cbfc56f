use Rattle.std.proofs.Common.{◌≡◌, take}
use Rattle.std.specs.List.{flat_map}
use Rattle.cmd_svc.specs.Shown.{shown_byte}
use Rattle.cmd_svc.proofs.escaping.shown.Given as goal

-- the bytes so far are written
abbrev pub invariant-loop-byte : goal.invariant-loop-byte
invariant-loop-byte g l = l.out.items ≡ flat_map shown_byte (take l.byte-index l.text)
