-- Beginnings of one list.
use Rattle.std.proofs.Common.{◌≡◌, ◌≤◌, ℕ, nat_le, Bool, true, false, List, [], ◌∷◌, ◌++◌, length, ◌+◌, refl, ap, sym}
use Rattle.std.proofs.Common.{subst, take, ◌∙◌, arith, append_assoc}
use Rattle.std.proofs.lemmas.List.{take_all}
use mathlib.Core.List.{IsPrefix}
use Rattle.std.specs.Prelude.{◌↔◌}

-- each list begins with itself
pub prefix_self : {A : Type 0} (xs : List A) → IsPrefix xs xs
prefix_self [] = ([], refl)
prefix_self (x ∷ xs) = (let r = prefix_self xs in r.0, ap (λ ys. x ∷ ys) (prefix_self xs).1)

pub prefix_trans : {A : Type 0} (xs ys zs : List A) → IsPrefix xs ys → IsPrefix ys zs → IsPrefix xs zs
prefix_trans xs ys zs p q = (p.0 ++ q.0, sym (append_assoc xs p.0 q.0) ∙ (ap (λ w. w ++ q.0) p.1 ∙ q.1))

-- the shorter of two beginnings of one list begins the longer
pub prefix_shorter : {A : Type 0} (xs ys zs : List A) → IsPrefix xs zs → IsPrefix ys zs → length xs ≤ length ys
    → IsPrefix xs ys
prefix_shorter [] ys zs p q le = (ys, refl)
prefix_shorter (x ∷ xs) [] zs p q le = absurd (omega arith)
prefix_shorter (x ∷ xs) (y ∷ ys) [] p q le = absurd (cc (p.1))
prefix_shorter (x ∷ xs) (y ∷ ys) (z ∷ zs) p q le =
    let heads : x ≡ y = cc (p.1, q.1) in
    let rest = prefix_shorter xs ys zs (p.0, cc (p.1)) (q.0, cc (q.1)) (omega arith) in
    (rest.0, cc (heads, rest.1))

-- a beginning that is as long as the whole is the whole
pub prefix_whole : {A : Type 0} (xs ys : List A) → IsPrefix xs ys → length ys ≤ length xs → xs ≡ ys
prefix_whole [] [] p le = refl
prefix_whole [] (y ∷ ys) p le = absurd (omega arith)
prefix_whole (x ∷ xs) [] p le = absurd (cc (p.1))
prefix_whole (x ∷ xs) (y ∷ ys) p le =
    let rest = prefix_whole xs ys (p.0, cc (p.1)) (omega arith) in cc (p.1, rest)

-- If two lists begin a third, and one has all that is there, the other begins that.
pub begins_all : {A : Type 0} (mine other both all : List A) (key : ℕ) → IsPrefix mine both → IsPrefix other both
    → IsPrefix both all
    → length all + 2 ≤ key → key ≡ length mine + 2 → IsPrefix other mine
begins_all mine other both all key own theirs goes_on few is =
    subst (λ l. IsPrefix other l)
    (sym (prefix_whole mine all (prefix_trans mine both all own goes_on) (omega (arith, few, is))))
    (prefix_trans other both all theirs goes_on)

-- what begins a list is not longer than the list
pub le_of_prefix : {A : Type 0} (xs ys : List A) → IsPrefix xs ys → length xs ≤ length ys
le_of_prefix [] ys p = omega arith
le_of_prefix (x ∷ xs) [] p = absurd (cc (p.1))
le_of_prefix (x ∷ xs) (y ∷ ys) p = let rest = le_of_prefix xs ys (p.0, cc (p.1)) in omega arith

-- One beginning of a list begins another exactly if it is not longer.
pub begins_by_length : {A : Type 0} (mine theirs whole : List A) (a b : ℕ) (answer : Bool) → a ≡ length mine
    → b ≡ length theirs → nat_le a b ≡ answer
    → IsPrefix mine whole → IsPrefix theirs whole → (answer ≡ true) ↔ IsPrefix mine theirs
begins_by_length mine theirs whole a b answer other is long own learnt = (
  λ yes.
      let le : nat_le a b ≡ true = long ∙ yes in
      let less : length mine ≤ length theirs = grind (arith, le, other, is) in
      prefix_shorter mine theirs whole own learnt less,
  λ begins.
      let less : length mine ≤ length theirs = le_of_prefix mine theirs begins in
      let le : nat_le a b ≡ true = grind (arith, less, other, is) in
      sym long ∙ le,
)

-- if it is longer, the other begins it
pub else_by_length : {A : Type 0} (mine theirs whole : List A) (a b : ℕ) (answer : Bool) → a ≡ length mine
    → b ≡ length theirs → nat_le a b ≡ answer
    → IsPrefix mine whole → IsPrefix theirs whole → answer ≡ false → IsPrefix theirs mine
else_by_length mine theirs whole a b answer other is long own learnt longer =
    let le : nat_le a b ≡ false = long ∙ longer in
    let less : length theirs ≤ length mine = grind (arith, le, other, is) in
    prefix_shorter theirs mine whole learnt own less
