use Rattle.std.proofs.Common.{◌≡◌, List, ℕ, [], ◌∷◌, ◌++◌, map, ap, sym, subst, ◌∙◌}
use Rattle.std.proofs.lemmas.List.{map-append}
use Rattle.std.specs.Prelude.{string_bytes}
use Rattle.scan_table.specs.Slots.{Row}
use Rattle.svscan_rounds.specs.Rows.{AreAsSaid, entries_of}
use Rattle.svscan_rounds.proofs.Ordering.{as_said-push, row-said}
use Rattle.svscan_rounds.proofs.rows.rows_in_turn.Goals as goal

pub loop-name-preserved : goal.loop-name-preserved
loop-name-preserved g c =
    let rows = c.loop-name.rows.items in
    let row = c.row.result in
    let said = entries_of (g.F.Folder.at c.args.folder.now) in
    let items : c.push.new.self.items ≡ rows ++ row ∷ [] = c.in_ok-push.ensures.items in
    let name : row.name ≡ string_bytes c.in-Some.name = ap (λ (r : Row). r.name) c.row.ensures in
    record {
      names = ap (map (λ (r : Row). r.name)) items ∙ map-append (λ (r : Row). r.name) rows (row ∷ [])
          ∙ ap (λ (l : List (List ℕ)). l ++ row.name ∷ []) c.loop-name.invariant.names
          ∙ ap (λ (n : List ℕ). map string_bytes c.loop-name.yielded ++ n ∷ []) name
          ∙ sym (map-append string_bytes c.loop-name.yielded (c.in-Some.name ∷ []));
      entries = subst (λ (l : List Row). AreAsSaid said l) (sym items)
          (as_said-push said rows row c.loop-name.invariant.entries
          (row-said said (string_bytes c.in-Some.name) c.as_str.result.now c.in_ok-entry.entry row c.row.ensures
          c.as_str.ensures.value c.in_ok-entry.ensures));
    }
