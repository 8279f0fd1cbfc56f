use Rattle.std.proofs.Common.{◌≡◌, map}
use Rattle.std.specs.Prelude.{string_bytes}
use Rattle.svscan_rounds.specs.Rows.{AreAsSaid, entries_of}
use Rattle.svscan_rounds.proofs.rows.rows_in_turn.Given as goal

-- the rows so far have the names so far
abbrev pub invariant-loop-name : goal.invariant-loop-name
invariant-loop-name g l = record {
  names : map (λ row. row.name) l.rows.items ≡ map string_bytes l.yielded;
  entries : AreAsSaid (entries_of (g.F.Folder.at l.folder)) l.rows.items;
}
