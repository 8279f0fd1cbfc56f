-- One more item: the last one that passes a test, those after it and those before it.
use Rattle.std.proofs.Common.{◌≡◌, refl, ℕ, ◌+◌, ◌<◌, Bool, true, false, List, [], ◌∷◌, ◌++◌, length, get_or, take}
use Rattle.std.proofs.Common.{Option, Some, None, arith, ◌∙◌, ap, sym, subst}
use Rattle.std.specs.Prelude.{if◌then◌else◌}
use Rattle.std.specs.List.{list_any, Contains}
use Rattle.std.specs.Prelude.{is_some, IfSome}
use Rattle.std.proofs.lemmas.List.Elements.{Contains-append_left, Contains-append_right, Contains-push}
use Rattle.sup_core.specs.declared.event.Event.{Event}
use Rattle.sup_core.specs.declared.event.Event.TheVariants.{Byte, Started, StartFailed, Death, Clock}
use Rattle.std.proofs.lemmas.Grind.{common_steps}
use Rattle.std.proofs.lemmas.List.{take_more}
use Rattle.std.proofs.lemmas.List.Folds.{list_any-append}
use Rattle.cmd_why.specs.Entries.{last_such, behind_last_such, before_last_such, byte_in}

none-last : {X : Type 0} (p : X → Bool) (xs : List X) → list_any p xs ≡ false → last_such p xs ≡ None
none-last p [] none = refl
none-last p (x ∷ xs) none = grind (arith, common_steps)

last-push : {X : Type 0} (p : X → Bool) (xs : List X) (x : X)
    → last_such p (xs ++ x ∷ []) ≡ (if p x then Some x else last_such p xs)
last-push p [] x = refl
last-push p (y ∷ xs) x = grind (arith, common_steps, list_any-append p xs (x ∷ []), last-push p xs x, none-last p xs)

behind-push : {X : Type 0} (p : X → Bool) (xs : List X) (x : X)
    → behind_last_such p (xs ++ x ∷ []) ≡ (if p x then [] else behind_last_such p xs ++ x ∷ [])
behind-push p [] x = grind (arith, common_steps)
behind-push p (y ∷ xs) x = grind (arith, common_steps, list_any-append p xs (x ∷ []), behind-push p xs x)

before-push : {X : Type 0} (p : X → Bool) (xs : List X) (x : X)
    → before_last_such p (xs ++ x ∷ []) ≡ (if p x then xs else before_last_such p xs)
before-push p [] x = grind (arith, common_steps)
before-push p (y ∷ xs) x = grind (arith, common_steps, list_any-append p xs (x ∷ []), before-push p xs x)

pub last-next : {X : Type 0} (p : X → Bool) (xs : List X) (i : ℕ) (d : X) → i < length xs
    → last_such p (take (i + 1) xs) ≡ (if p (get_or xs i d) then Some (get_or xs i d) else last_such p (take i xs))
last-next p xs i d within = ap (last_such p) (take_more xs i d within) ∙ last-push p (take i xs) (get_or xs i d)

pub before-next : {X : Type 0} (p : X → Bool) (xs : List X) (i : ℕ) (d : X) → i < length xs
    → before_last_such p (take (i + 1) xs) ≡ (if p (get_or xs i d) then take i xs else before_last_such p (take i xs))
before-next p xs i d within = ap (before_last_such p) (take_more xs i d within)
    ∙ before-push p (take i xs) (get_or xs i d)

pub behind-next : {X : Type 0} (p : X → Bool) (xs : List X) (i : ℕ) (d : X) → i < length xs
    → behind_last_such p (take (i + 1) xs)
    ≡ (if p (get_or xs i d) then [] else behind_last_such p (take i xs) ++ get_or xs i d ∷ [])
behind-next p xs i d within = ap (behind_last_such p) (take_more xs i d within)
    ∙ behind-push p (take i xs) (get_or xs i d)

-- Whether there is a last one
pub some_last : {X : Type 0} (p : X → Bool) (xs : List X) → is_some (last_such p xs) ≡ list_any p xs
some_last p [] = refl
some_last p (x ∷ xs) = grind (arith, common_steps, some_last p xs)

contains-step : {X : Type 0} (later here : Bool) (rest : Option X) (y x : X) (xs : List X)
    → (rest ≡ Some x → Contains xs x)
    → (if later then rest else if here then Some y else None) ≡ Some x → Contains (y ∷ xs) x
contains-step true here rest y x xs inside e = Contains-append_right (y ∷ []) xs x (inside e)
contains-step {X} false true rest y x xs inside e =
    let same : y ≡ x = cc in
    subst (λ (z : X). Contains (z ∷ xs) x) (sym same) (Contains-append_left (x ∷ []) xs x (Contains-push [] x))
contains-step false false rest y x xs inside e = absurd (cc)

-- The last one is one of them.
pub contains-last : {X : Type 0} (p : X → Bool) (xs : List X) (x : X) → last_such p xs ≡ Some x → Contains xs x
contains-last p [] x e = absurd (cc)
contains-last p (y ∷ xs) x e = contains-step (list_any p xs) (p y) (last_such p xs) y x xs (contains-last p xs x) e

pub is-byte : (event : Option Event) (byte : ℕ) → byte_in event ≡ Some byte → event ≡ Some (Byte byte)
is-byte None byte e = absurd (cc)
is-byte (Some (Byte other)) byte e = let same : other ≡ byte = cc in ap (λ (b : ℕ). Some (Byte b)) same
is-byte (Some (Started pid label)) byte e = absurd (cc)
is-byte (Some (StartFailed label)) byte e = absurd (cc)
is-byte (Some (Death label)) byte e = absurd (cc)
is-byte (Some (Clock label)) byte e = absurd (cc)

-- If the last of some entries is a byte, that byte came among them.
pub byte-came : (p : Event → Bool) (xs : List Event) (byte : ℕ) → byte_in (last_such p xs) ≡ Some byte
    → Contains xs (Byte byte)
byte-came p xs byte e = contains-last p xs (Byte byte) (is-byte (last_such p xs) byte e)

pub byte_came_if : (p : Event → Bool) (xs : List Event) (r : Option ℕ) → r ≡ byte_in (last_such p xs)
    → IfSome r (λ byte. Contains xs (Byte byte))
byte_came_if p xs None e = tt
byte_came_if p xs (Some byte) e = byte-came p xs byte (sym e)
