-- A newline for each NUL does not change whether bytes are UTF-8.
use Rattle.std.proofs.Common.{◌≡◌, ℕ, zero, suc, add-one, lit<, ◌∙◌, ◌+◌, ◌<◌, ◌==◌, true, false, cond, List, [], ◌∷◌}
use Rattle.std.proofs.Common.{◌++◌, length, get_or, take, drop, refl, sym, subst, ap, arith, ◌⊎◌, inl, inr}
use Rattle.std.proofs.Common.{append_assoc, length-append, take_at}
use Rattle.std.specs.Prelude.{map}
use Rattle.std.specs.List.{AllZip}
use Rattle.std.specs.Str.{IsUtf8, is_utf8}
use Rattle.std.proofs.lemmas.Bool.{eqb-true, false_from_ne_true, both_ways}
use Rattle.std.proofs.lemmas.Str.{IsUtf8-append, IsUtf8-take, IsUtf8-drop, IsUtf8-from_ascii}
use Rattle.std.proofs.lemmas.Str.{IsCharBoundary-before_ascii, IsCharBoundary-after_ascii, IsUtf8-from_is_utf8}
use Rattle.std.proofs.lemmas.Str.{is_utf8-from_IsUtf8}
use Rattle.env_title.specs.Files.{newline, nul_as_newline}

-- the same byte, or one ASCII byte for another
abbrev Matches : ℕ → ℕ → Type 0
Matches x y = (x ≡ y) ⊎ ((x < 128) × (y < 128))

one_small : (y : ℕ) → y < 128 → (i : ℕ) → get_or (y ∷ []) i 0 < 128
one_small y small zero = small
one_small y small (suc i) = omega arith

one_ascii : (y : ℕ) → y < 128 → IsUtf8 (y ∷ [])
one_ascii y small = IsUtf8-from_ascii (y ∷ []) (one_small y small)

at_front : (front xs : List ℕ) (x : ℕ) → get_or (front ++ x ∷ xs) (length front) 0 ≡ x
at_front [] xs x = refl
at_front (z ∷ front) xs x = at_front front xs x

behind_front : (front xs : List ℕ) (x : ℕ) → drop (suc (length front)) (front ++ x ∷ xs) ≡ xs
behind_front [] xs x = refl
behind_front (z ∷ front) xs x = behind_front front xs x

text_swapped : (front xs ys : List ℕ) → AllZip Matches xs ys → IsUtf8 (front ++ xs) → IsUtf8 (front ++ ys)
text_swapped front [] [] same text = text
text_swapped front [] (y ∷ ys) same text = absurd same
text_swapped front (x ∷ xs) [] same text = absurd same
text_swapped front (x ∷ xs) (y ∷ ys) same text =
    elim same.0 [
      | inl e ↦
          let on = text_swapped (front ++ x ∷ []) xs ys same.1
          (subst IsUtf8 (sym (append_assoc front (x ∷ []) xs)) text) in
          subst (λ z. IsUtf8 (front ++ z ∷ ys)) e (subst IsUtf8 (append_assoc front (x ∷ []) ys) on)
      | inr ascii ↦
          let at = length front in
          let within : at < length (front ++ x ∷ xs) = omega (arith, length-append front (x ∷ xs)) in
          let byte : get_or (front ++ x ∷ xs) at 0 < 128 = rw (at_front front xs x) ascii.0 in
          let before : IsUtf8 (take at (front ++ x ∷ xs)) =
          IsUtf8-take (front ++ x ∷ xs) at text (IsCharBoundary-before_ascii (front ++ x ∷ xs) at within byte) in
          let behind : IsUtf8 (drop (at + 1) (front ++ x ∷ xs)) =
          IsUtf8-drop (front ++ x ∷ xs) (at + 1) text
          (IsCharBoundary-after_ascii (front ++ x ∷ xs) at text within byte) in
          let later : drop (at + 1) (front ++ x ∷ xs) ≡ xs = ap (λ k. drop k (front ++ x ∷ xs)) (add-one at)
          ∙ behind_front front xs x in
          let rest = text_swapped [] xs ys same.1 (subst IsUtf8 later behind) in
          IsUtf8-append front (y ∷ ys) (subst IsUtf8 (take_at front (x ∷ xs) at refl) before)
          (IsUtf8-append (y ∷ []) ys (one_ascii y ascii.1) rest)
    ]

swap : (x : ℕ) → Matches x (nul_as_newline x)
swap x = elim (x == 0) as (λ b. (x == 0) ≡ b → Matches x (cond b newline x)) [
  | true ↦ λ nul. let is = eqb-true x 0 nul in inr (omega arith, lit< tt)
  | false ↦ λ _. inl refl
] refl

swap_back : (x : ℕ) → Matches (nul_as_newline x) x
swap_back x = elim (swap x) [ inl e ↦ inl (sym e) | inr ascii ↦ inr (ascii.1, ascii.0) ]

swaps : (xs : List ℕ) → AllZip Matches xs (map nul_as_newline xs)
swaps [] = tt
swaps (x ∷ xs) = (swap x, swaps xs)

swaps_back : (xs : List ℕ) → AllZip Matches (map nul_as_newline xs) xs
swaps_back [] = tt
swaps_back (x ∷ xs) = (swap_back x, swaps_back xs)

pub is_utf8-swapped : (xs : List ℕ) → is_utf8 (map nul_as_newline xs) ≡ is_utf8 xs
is_utf8-swapped xs =
    elim (is_utf8 xs) as (λ b. is_utf8 xs ≡ b → is_utf8 (map nul_as_newline xs) ≡ b) [
      | true ↦ λ text. is_utf8-from_IsUtf8 (map nul_as_newline xs)
          (text_swapped [] xs (map nul_as_newline xs) (swaps xs) (IsUtf8-from_is_utf8 xs text))
      | false ↦ λ none. false_from_ne_true (is_utf8 (map nul_as_newline xs)) (λ text.
          both_ways (is_utf8 xs) none (is_utf8-from_IsUtf8 xs
          (text_swapped [] (map nul_as_newline xs) xs (swaps_back xs)
          (IsUtf8-from_is_utf8 (map nul_as_newline xs) text))))
    ] refl
