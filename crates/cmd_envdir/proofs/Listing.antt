-- Names that are listed one by one.
use Rattle.std.proofs.Common.{◌≡◌, ℕ, List, [], ◌∷◌, ◌++◌, map, sym, ap, ◌∙◌}
use Rattle.std.proofs.lemmas.List.{map-append}
use Rattle.std.proofs.lemmas.List.Elements.{filter-append}
use Rattle.std.specs.List.{filter}
use Rattle.cmd_envdir.specs.Listing.{is_visible}

-- the names of entries, and of one more
pub listed-more : {E : Type 0} (name_of : E → List ℕ) (entries : List E) (entry : E) (name : List ℕ)
    (old new : List (List ℕ)) → old ≡ filter is_visible (map name_of entries) → name ≡ name_of entry
    → new ≡ old ++ filter is_visible (name ∷ []) → new ≡ filter is_visible (map name_of (entries ++ entry ∷ []))
listed-more name_of entries entry name old new so_far is more =
    more
    ∙ ap (λ (ns : List (List ℕ)). ns ++ filter is_visible (name ∷ [])) so_far
    ∙ ap (λ (n : List ℕ). filter is_visible (map name_of entries) ++ filter is_visible (n ∷ [])) is
    ∙ sym (filter-append is_visible (map name_of entries) (name_of entry ∷ []))
    ∙ ap (filter is_visible) (sym (map-append name_of entries (entry ∷ [])))
