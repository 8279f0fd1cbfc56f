-- Names stay distinct when a variable is removed or put.
use Rattle.std.proofs.Common.{◌≡◌, ℕ, Bool, true, false, cond, List, [], ◌∷◌, ◌++◌, refl}
use Rattle.std.specs.Prelude.{not, filter, bytes_eq}
use Rattle.std.specs.List.{IsDistinct, AllByRecursion}
use Rattle.env_title.specs.Env.{Binding, HasDistinctNames, binding, is_named, without, put}

all_filter : {X : Type 0} (P : X → Type 0) (p : X → Bool) (xs : List X) → AllByRecursion P xs
    → AllByRecursion P (filter p xs)
all_filter P p [] all = tt
all_filter P p (x ∷ xs) all =
    elim (p x) as (λ b. AllByRecursion P (cond b (x ∷ filter p xs) (filter p xs))) [
      | true ↦ (all.0, all_filter P p xs all.1)
      | false ↦ all_filter P p xs all.1
    ]

all_push : {X : Type 0} (P : X → Type 0) (xs : List X) (y : X) → AllByRecursion P xs → P y
    → AllByRecursion P (xs ++ y ∷ [])
all_push P [] y all one = (one, tt)
all_push P (x ∷ xs) y all one = (all.0, all_push P xs y all.1 one)

distinct_filter : {X : Type 0} (e : X → X → Bool) (p : X → Bool) (xs : List X) → IsDistinct e xs
    → IsDistinct e (filter p xs)
unfolding IsDistinct
distinct_filter e p [] distinct = tt
distinct_filter e p (x ∷ xs) distinct =
    elim (p x) as (λ b. IsDistinct e (cond b (x ∷ filter p xs) (filter p xs))) [
      | true ↦ (all_filter (λ y. e x y ≡ false) p xs distinct.0, distinct_filter e p xs distinct.1)
      | false ↦ distinct_filter e p xs distinct.1
    ]

distinct_push : {X : Type 0} (e : X → X → Bool) (xs : List X) (y : X) → IsDistinct e xs
    → AllByRecursion (λ x. e x y ≡ false) xs
    → IsDistinct e (xs ++ y ∷ [])
unfolding IsDistinct
distinct_push e [] y distinct apart = (tt, tt)
distinct_push e (x ∷ xs) y distinct apart =
    (all_push (λ z. e x z ≡ false) xs y distinct.0 apart.0, distinct_push e xs y distinct.1 apart.1)

-- no variable with the name is left
all_without : (env : List Binding) (name : List ℕ)
    → AllByRecursion (λ variable. bytes_eq variable.name name ≡ false) (without env name)
all_without [] name = tt
all_without (variable ∷ env) name =
    elim (is_named name variable) as (λ b. is_named name variable ≡ b →
    AllByRecursion (λ other. bytes_eq other.name name ≡ false)
    (cond (not b) (variable ∷ without env name) (without env name))) [
      | true ↦ λ _. all_without env name
      | false ↦ λ is. (is, all_without env name)
    ] refl

pub distinct_nothing : HasDistinctNames []
unfolding IsDistinct
distinct_nothing = tt

pub distinct-without : (env : List Binding) (name : List ℕ) → HasDistinctNames env → HasDistinctNames (without env name)
distinct-without env name distinct =
    distinct_filter (λ one other. bytes_eq one.name other.name) (λ variable. not (is_named name variable)) env distinct

pub distinct-put : (env : List Binding) (name value : List ℕ) → HasDistinctNames env
    → HasDistinctNames (put env name value)
distinct-put env name value distinct =
    distinct_push (λ one other. bytes_eq one.name other.name) (without env name) (binding name value)
    (distinct-without env name distinct) (all_without env name)
