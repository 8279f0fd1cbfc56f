use Rattle.std.proofs.Common.{List, ℕ, map}
use Rattle.std.specs.Prelude.{string_bytes, IsPermutation}
use Rattle.std.proofs.lemmas.List.Sorted.{IsPermutation-map}
use Rattle.scan_table.specs.Slots.{Row}
use Rattle.svscan_rounds.specs.Rows.{AreInOrder}
use Rattle.svscan_rounds.proofs.Ordering.{in_order, if_ok-same}
use Rattle.svscan_rounds.proofs.rows.rows_of.Goals as goal

pub returns-clause-order : goal.returns-clause-order
returns-clause-order g c =
    let names = c.sort_unstable.new.self.items in
    if_ok-same AreInOrder (λ rows. map (λ (r : Row). r.name) rows.items) c.rows_in_turn.result (map string_bytes names)
    c.rows_in_turn.ensures.names
    (in_order names c.sort_unstable.ensures.sorted)

pub returns-clause-each : goal.returns-clause-each
returns-clause-each g c =
    let names = c.sort_unstable.new.self.items in
    if_ok-same (λ (l : List (List ℕ)). IsPermutation (map string_bytes c.args.names.items) l)
    (λ rows. map (λ (r : Row). r.name) rows.items) c.rows_in_turn.result
    (map string_bytes names) c.rows_in_turn.ensures.names
    (IsPermutation-map string_bytes c.args.names.items names c.sort_unstable.ensures.permutation)
