use Rattle.scan_table.specs.Index.{names_of, ArePassed}
use Rattle.scan_table.proofs.index.seek.Given as goal

-- the names so far are smaller
abbrev pub invariant-loop-at : goal.invariant-loop-at
invariant-loop-at g l = ArePassed (names_of l.slots) l.index l.at l.name
