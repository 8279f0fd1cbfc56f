use Rattle.std.proofs.Common.{◌≡◌, ◌≤◌, ◌*◌, take}
use Rattle.std.specs.Prelude.{flat_map}
use Rattle.arrayvec.specs.ArrayString.{array_string_len}
use Rattle.cmd_base.specs.Printed.{printed}
use Rattle.cmd_sim.specs.Sim.{both_sides}
use Rattle.cmd_sim.proofs.table.rows_of.Given as goal

abbrev pub invariant-loop-byte : goal.invariant-loop-byte
invariant-loop-byte l =
    (l.out.bytes ≡ printed (flat_map both_sides (take l.byte-index l.bytes)))
    × (array_string_len l.out ≤ 98 * l.byte-index)
