use Rattle.std.proofs.Common.{◌∙◌, ap, List, ℕ}
use Rattle.std.specs.Prelude.{flat_map}
use Rattle.cmd_base.specs.Printed.{printed}
use Rattle.cmd_sim.specs.Sim.{both_sides, printed_table}
use Rattle.cmd_sim.proofs.table.whole_table.Goals as goal

pub returns : goal.returns
unfolding printed_table
returns c = c.rows_of.ensures ∙ ap (λ (bytes : List ℕ). printed (flat_map both_sides bytes)) c.letters.ensures
