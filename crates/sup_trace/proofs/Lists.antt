-- Facts of each item of a list.
use Rattle.std.proofs.Common.{List, [], ◌∷◌, ◌++◌}
use Rattle.std.specs.List.{AllByRecursion}

-- a fact of all items of two joined lists is a fact of all items of both
pub AllByRecursion-left : {X : Type 0} (P : X → Type 0) (xs ys : List X) → AllByRecursion P (xs ++ ys)
    → AllByRecursion P xs
AllByRecursion-left P [] ys h = tt
AllByRecursion-left P (x ∷ xs) ys h = (h.0, AllByRecursion-left P xs ys h.1)

pub AllByRecursion-right : {X : Type 0} (P : X → Type 0) (xs ys : List X) → AllByRecursion P (xs ++ ys)
    → AllByRecursion P ys
AllByRecursion-right P [] ys h = h
AllByRecursion-right P (x ∷ xs) ys h = AllByRecursion-right P xs ys h.1

pub AllByRecursion-joined : {X : Type 0} (P : X → Type 0) (xs ys : List X) → AllByRecursion P xs → AllByRecursion P ys
    → AllByRecursion P (xs ++ ys)
AllByRecursion-joined P [] ys h g = g
AllByRecursion-joined P (x ∷ xs) ys h g = (h.0, AllByRecursion-joined P xs ys h.1 g)
