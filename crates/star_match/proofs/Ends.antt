-- The last byte of a text that a pattern matches.
use Rattle.std.proofs.Common.{◌≡◌, ℕ, suc, ◌-◌, ◌==◌, Bor, true, false, List, [], ◌∷◌, ◌++◌, length, refl, sym, subst}
use Rattle.std.proofs.Common.{ap, ◌∙◌, arith}
use Rattle.std.specs.Prelude.{Option, Some, None, slice_get, option_copied}
use Rattle.std.specs.Option.{option_eq}
use Rattle.std.proofs.lemmas.Bool.{ne_eqb, eq-eqb, false≢true}
use Rattle.star_match.specs.Star.{star, is_star, from_first, star_matches}
use Rattle.star_match.proofs.Computed.{begins, front_of}

-- the last byte
abbrev pub last_byte : List ℕ → Option ℕ
last_byte bytes = slice_get bytes (length bytes - 1)

last-step : (x y : ℕ) (ys : List ℕ) → last_byte (x ∷ y ∷ ys) ≡ last_byte (y ∷ ys)
last-step x y ys =
    let e : length (x ∷ y ∷ ys) - 1 ≡ suc (length (y ∷ ys) - 1) = omega arith in
    ap (slice_get (x ∷ y ∷ ys)) e

last-behind : (x b : ℕ) (ys : List ℕ) → last_byte ys ≡ Some b → last_byte (x ∷ ys) ≡ Some b
last-behind x b [] is = absurd cc
last-behind x b (y ∷ ys) is = last-step x y ys ∙ is

last-append : (b : ℕ) (xs ys : List ℕ) → last_byte ys ≡ Some b → last_byte (xs ++ ys) ≡ Some b
last-append b [] ys is = is
last-append b (x ∷ xs) ys is = last-behind x b (xs ++ ys) (last-append b xs ys is)

-- If a pattern ends in a plain byte, so does each text that it matches.
abbrev EndsSo : List ℕ → Type 0
EndsSo pattern = (text : List ℕ) (b : ℕ) → is_star b ≡ false → last_byte pattern ≡ Some b
    → star_matches pattern text ≡ true
    → last_byte text ≡ Some b

nothing_left : (text : List ℕ) → star_matches [] text ≡ true → text ≡ []
nothing_left [] m = refl
nothing_left (x ∷ text) m = absurd (false≢true m)

ends_nothing : EndsSo []
ends_nothing text b plain last m = absurd cc

ends_alone : (byte : ℕ) → EndsSo (byte ∷ [])
ends_alone byte text b plain last m =
    let same : byte ≡ b = cc in
    let other : is_star byte ≡ false = ap is_star same ∙ plain in
    let start = begins byte [] text other m in
    let text_is : text ≡ byte ∷ [] = start.1 ∙ ap (λ (t : List ℕ). byte ∷ t) (nothing_left start.0 start.2) in
    rw text_is last

ends_after_byte : (byte c : ℕ) (rest : List ℕ) → is_star byte ≡ false → EndsSo (c ∷ rest) → EndsSo (byte ∷ c ∷ rest)
ends_after_byte byte c rest other ends text b plain last m =
    let start = begins byte (c ∷ rest) text other m in
    rw (start.1) (last-behind byte b start.0 (ends start.0 b plain (sym (last-step byte c rest) ∙ last) start.2))

ends_after_star : (byte c : ℕ) (rest : List ℕ) → is_star byte ≡ true → EndsSo (c ∷ rest) → EndsSo (byte ∷ c ∷ rest)
ends_after_star byte c rest is ends text b plain last m =
    let front = front_of c text in
    let later : star_matches (c ∷ rest) (from_first c text) ≡ true = rw (is, star_matches) at m in
    subst (λ (t : List ℕ). last_byte t ≡ Some b) (sym front.2)
    (last-append b front.0 (from_first c text)
    (ends (from_first c text) b plain (sym (last-step byte c rest) ∙ last) later))

pub ends_so : (pattern : List ℕ) → EndsSo pattern
ends_so [] = ends_nothing
ends_so (byte ∷ []) = ends_alone byte
ends_so (byte ∷ c ∷ rest) =
    elim (is_star byte) as (λ x. is_star byte ≡ x → EndsSo (byte ∷ c ∷ rest)) [
      | true ↦ λ e. ends_after_star byte c rest e (ends_so (c ∷ rest))
      | false ↦ λ e. ends_after_byte byte c rest e (ends_so (c ∷ rest))
    ] refl

-- the same, as the code reads the last bytes
pub ends_alike : (pattern text : List ℕ) (p t : Option (Bor ℕ)) (byte : Bor ℕ) → option_copied p ≡ last_byte pattern
    → p ≡ Some byte → (byte.now ≡ star → ⊥)
    → option_copied t ≡ last_byte text → star_matches pattern text ≡ true
    → option_eq (λ x y. x.now == y.now) t (Some byte) ≡ true
ends_alike pattern text p None byte reported is plain end m =
    let last : last_byte pattern ≡ Some byte.now = sym reported ∙ ap option_copied is in
    let same = ends_so pattern text byte.now (ne_eqb byte.now star plain) last m in absurd cc
ends_alike pattern text p (Some own) byte reported is plain end m =
    let last : last_byte pattern ≡ Some byte.now = sym reported ∙ ap option_copied is in
    let same = ends_so pattern text byte.now (ne_eqb byte.now star plain) last m in
    let both : own.now ≡ byte.now = cc in
    eq-eqb own.now byte.now both
