use Rattle.std.proofs.Common.{◌≡◌, ◌<◌, sym, inl, inr, rules, subst, length, ◌⊎◌, Ok, Err, List, ℕ, get_or}
use Rattle.std.specs.List.{insert}
use Rattle.scan_table.specs.Index.{IsIndex, IsSearched, names_of}
use Rattle.scan_table.proofs.Searched.{searched-new}
use Rattle.scan_table.proofs.index.put.Goals as goal
use Rattle.scan_table.proofs.index.put.Goals.{in-Ok, in-Ok-2}

pub returns-clause-index : goal.returns-clause-index
returns-clause-index g c =
    let put : c.insert.new.self.items
    ≡ insert c.args.index.now.items c.match-search.at (length c.args.index.now.items) = search rules in
    let so : (c.search.result ≡ Ok c.match-search.at) ⊎ (c.search.result ≡ Err c.match-search.at) =
    elim c.match-search.branch [ in-Ok w ↦ inl cc | in-Ok-2 w ↦ inr cc ] in
    let bound : length c.args.index.now.items < length c.args.slots.now = search rules in
    let here : c.index-slots-place.result
    ≡ get_or c.args.slots.now (length c.args.index.now.items) c.index-slots-place.result = search rules in
    let searched : IsSearched (names_of c.args.slots.now) c.args.index.now.items c.name.result.now c.search.result =
    subst (λ (index : List ℕ). IsSearched (names_of c.args.slots.now) index c.name.result.now c.search.result)
    c.deref.ensures.value c.search.ensures in
    subst (IsIndex (names_of c.args.slots.now)) (sym put)
    (searched-new c.args.slots.now c.args.index.now.items c.name.result.now c.index-slots-place.result c.search.result
    c.match-search.at
    c.requires.index bound c.requires.distinct here c.name.ensures searched so)
