-- Items with those before them.
use Rattle.std.proofs.Common.{◌≡◌, refl, sym, ap, ◌∙◌, List, [], ◌∷◌, ◌++◌, append_assoc, append-nil, Option, Some}
use Rattle.std.proofs.Common.{None}
use Rattle.std.specs.Prelude.{unwrap_or}
use Rattle.std.specs.List.{filter_map, last_or, cons_option}
use Rattle.std.proofs.lemmas.List.Elements.{filter_map-append}
use Rattle.mlog_script.specs.Placed.{Placed, placed_behind, last_given}

pub placed_behind-append : {X : Type 0} (before xs ys : List X)
    → placed_behind before (xs ++ ys) ≡ placed_behind before xs ++ placed_behind (before ++ xs) ys
placed_behind-append before [] ys = ap (λ b. placed_behind b ys) (sym (append-nil before))
placed_behind-append {X} before (x ∷ xs) ys =
    let here : Placed X = record { before = before; item = x } in
    ap (λ ps. here ∷ ps) (placed_behind-append (before ++ x ∷ []) xs ys
    ∙ ap (λ b. placed_behind (before ++ x ∷ []) xs ++ placed_behind b ys) (append_assoc before (x ∷ []) xs))

last_or-given : {Y : Type 0} (o : Option Y) (ys : List Y) (y : Option Y) (d : Y)
    → unwrap_or (last_or o (ys ++ cons_option y [])) d ≡ unwrap_or y (unwrap_or (last_or o ys) d)
last_or-given o [] None d = refl
last_or-given o [] (Some y) d = refl
last_or-given o (x ∷ xs) y d = last_or-given (Some x) xs y d

-- The last result, after one more item.
pub given_next : {X Y : Type 0} (f : X → Option Y) (xs : List X) (x : X) (d : Y)
    → unwrap_or (last_given f (xs ++ x ∷ [])) d ≡ unwrap_or (f x) (unwrap_or (last_given f xs) d)
given_next f xs x d =
    ap (λ ys. unwrap_or (last_or None ys) d) (filter_map-append f xs (x ∷ []))
    ∙ last_or-given None (filter_map f xs) (f x) d

last_or-then : {Y : Type 0} (o : Option Y) (xs ys : List Y) → last_or o (xs ++ ys) ≡ last_or (last_or o xs) ys
last_or-then o [] ys = refl
last_or-then o (x ∷ xs) ys = last_or-then (Some x) xs ys

last_or-some : {Y : Type 0} (y : Y) (ys : List Y) (d e : Y) → unwrap_or (last_or (Some y) ys) d
    ≡ unwrap_or (last_or (Some y) ys) e
last_or-some y [] d e = refl
last_or-some y (z ∷ ys) d e = last_or-some z ys d e

last_or-else : {Y : Type 0} (o : Option Y) (ys : List Y) (d : Y) → unwrap_or (last_or o ys) d
    ≡ unwrap_or (last_or None ys) (unwrap_or o d)
last_or-else o [] d = refl
last_or-else o (y ∷ ys) d = last_or-some y ys d (unwrap_or o d)

-- The last result among some items and further ones: that of the further ones, or that of the first ones if they have
-- none.
pub given_then : {X Y : Type 0} (f : X → Option Y) (xs ys : List X) (d : Y)
    → unwrap_or (last_given f (xs ++ ys)) d ≡ unwrap_or (last_given f ys) (unwrap_or (last_given f xs) d)
given_then f xs ys d =
    ap (λ zs. unwrap_or (last_or None zs) d) (filter_map-append f xs ys)
    ∙ ap (λ o. unwrap_or o d) (last_or-then None (filter_map f xs) (filter_map f ys))
    ∙ last_or-else (last_or None (filter_map f xs)) (filter_map f ys) d
