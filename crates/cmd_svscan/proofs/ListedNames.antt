-- Names that are listed one by one.
use Rattle.std.proofs.Common.{◌≡◌, ℕ, ◌+◌, List, [], ◌∷◌, ◌++◌, map, refl, sym, ap, ◌∙◌, arith}
use Rattle.std.proofs.lemmas.List.{map-append, take-append-drop}
use Rattle.std.specs.Prelude.{min, take, drop, Result, Ok, Err}
use mathlib.Core.List.{IsPrefix}
use Rattle.cmd_svscan.specs.Listing.{count_unread, read_of}

module _ {E F : Type 0} where
  read-more : (items : List (Result E F)) (entry : E) → read_of (items ++ Ok entry ∷ []) ≡ read_of items ++ entry ∷ []
  read-more [] entry = refl
  read-more (Ok first ∷ items) entry = ap (λ l. first ∷ l) (read-more items entry)
  read-more (Err fault ∷ items) entry = read-more items entry

  pub read-same : (items : List (Result E F)) (fault : F) → read_of (items ++ Err fault ∷ []) ≡ read_of items
  read-same [] fault = refl
  read-same (Ok first ∷ items) fault = ap (λ l. first ∷ l) (read-same items fault)
  read-same (Err other ∷ items) fault = read-same items fault

  pub count-same : (items : List (Result E F)) (entry : E) → count_unread (items ++ Ok entry ∷ []) ≡ count_unread items
  count-same [] entry = refl
  count-same (Ok first ∷ items) entry = count-same items entry
  count-same (Err fault ∷ items) entry = ap (λ n. n + 1) (count-same items entry)

  pub count-more : (items : List (Result E F)) (fault : F)
      → count_unread (items ++ Err fault ∷ []) ≡ count_unread items + 1
  count-more [] fault = refl
  count-more (Ok first ∷ items) fault = count-more items fault
  count-more (Err other ∷ items) fault = ap (λ n. n + 1) (count-more items fault)

  -- the names of what could be read, and of one more
  pub names-more : (name_of : E → List ℕ) (items : List (Result E F)) (entry : E) (old new : List (List ℕ))
      → old ≡ map name_of (read_of items) → new ≡ old ++ name_of entry ∷ []
      → new ≡ map name_of (read_of (items ++ Ok entry ∷ []))
  names-more name_of items entry old new so_far more =
      more ∙ ap (λ l. l ++ name_of entry ∷ []) so_far ∙ sym (map-append name_of (read_of items) (entry ∷ []))
      ∙ ap (map name_of) (sym (read-more items entry))

-- a count that stops at the greatest number
pub count-up : (n most : ℕ) → min (min n most + 1) most ≡ min (n + 1) most
count-up n most = omega arith

-- those so far are the first of all of them
pub so-far : {A B : Type 0} (f : A → B) (xs : List A) (k : ℕ) (ys : List B) → ys ≡ map f (take k xs)
    → IsPrefix ys (map f xs)
so-far f xs k ys is = (
  map f (drop k xs),
  ap (λ l. l ++ map f (drop k xs)) is ∙ sym (map-append f (take k xs) (drop k xs)) ∙ ap (map f) (take-append-drop k xs),
)
