-- What lines give, one after another.
use Rattle.std.proofs.Common.{◌≡◌, ℕ, ◌==◌, if◌then◌else◌, Bool, true, false, List, [], ◌∷◌, ◌++◌, length, refl, sym}
use Rattle.std.proofs.Common.{ap, ◌∙◌, arith, append_assoc}
use Rattle.std.specs.List.{onto_first}
use Rattle.tai_status.specs.Label.{Tai64n}
use Rattle.tai_status.specs.Lines.{texts_of}
use Rattle.mlog_script.specs.Selection.{by_line, is_whole}

pub by_line-append : {X : Type 0} (work : Tai64n → List ℕ → List X) (gs hs : List Tai64n) (ks ls : List (List ℕ))
    → length gs ≡ length ks
    → by_line work (gs ++ hs) (ks ++ ls) ≡ by_line work gs ks ++ by_line work hs ls
by_line-append work [] hs [] ls e = refl
by_line-append work [] hs (k ∷ ks) ls e = absurd (omega (arith, e))
by_line-append work (g ∷ gs) hs [] ls e = absurd (omega (arith, e))
by_line-append work (g ∷ gs) hs (k ∷ ks) ls e =
    let rest = by_line-append work gs hs ks ls (omega (arith, e)) in
    ap (λ xs. work g k ++ xs) rest ∙ sym (append_assoc (work g k) (by_line work gs ks) (by_line work hs ls))

onto_append : (x y : ℕ) (b : Bool) (ks ls : List (List ℕ))
    → onto_first x ((if b then [] ∷ ks else onto_first y ks) ++ ls)
    ≡ onto_first x (if b then [] ∷ ks else onto_first y ks) ++ ls
onto_append x y true ks ls = refl
onto_append x y false [] ls = refl
onto_append x y false (k ∷ ks) ls = refl

front_by : (x y : ℕ) (b : Bool) (xs ys : List ℕ) → (x == 10) ≡ b → texts_of (y ∷ xs ++ ys) ≡ texts_of (y ∷ xs)
    ++ texts_of ys
    → texts_of (x ∷ y ∷ xs ++ ys) ≡ texts_of (x ∷ y ∷ xs) ++ texts_of ys
front_by x y true xs ys e rest = grind (arith, e, rest)
front_by x y false xs ys e rest = let p = onto_append x y (y == 10) (texts_of xs) (texts_of ys) in
    grind (arith, e, rest, p)

pub texts-append : (xs ys : List ℕ) → is_whole xs ≡ true → texts_of (xs ++ ys) ≡ texts_of xs ++ texts_of ys
texts-append [] ys whole = refl
texts-append (x ∷ []) ys whole = grind (arith, whole)
texts-append (x ∷ y ∷ xs) ys whole = front_by x y (x == 10) xs ys refl (texts-append (y ∷ xs) ys whole)

pub comes_in_turn : {X : Type 0} (work : Tai64n → List ℕ → List X) (gs hs : List Tai64n) (xs ys : List ℕ)
    → is_whole xs ≡ true → length gs ≡ length (texts_of xs)
    → by_line work (gs ++ hs) (texts_of (xs ++ ys)) ≡ by_line work gs (texts_of xs) ++ by_line work hs (texts_of ys)
comes_in_turn work gs hs xs ys whole e =
    ap (λ lines. by_line work (gs ++ hs) lines) (texts-append xs ys whole)
    ∙ by_line-append work gs hs (texts_of xs) (texts_of ys) e
