-- Lists that grow, if they are kept.
use Rattle.std.proofs.Common.{List, [], ◌++◌, Option, Some, None, ap, sym, ◌∙◌, append_assoc}
use Rattle.std.proofs.lemmas.List.{append-nil}
use Rattle.svc_house.specs.Calls.{ExtendedWhileKept}

pub extended-none : {A : Type 0} (kept : Option (List A)) → ExtendedWhileKept kept kept []
extended-none None = tt
extended-none (Some xs) = sym (append-nil xs)

pub extended-append : {A : Type 0} (a b c : Option (List A)) (xs ys : List A) → ExtendedWhileKept a b xs
    → ExtendedWhileKept b c ys → ExtendedWhileKept a c (xs ++ ys)
extended-append a b None xs ys h k = tt
extended-append a None (Some z) xs ys h k = absurd k
extended-append None (Some y) (Some z) xs ys h k = absurd h
extended-append (Some x) (Some y) (Some z) xs ys h k = k ∙ ap (λ l. l ++ ys) h ∙ append_assoc x xs ys
