-- A label and its packed form.
use Rattle.std.proofs.Common.{◌≡◌, ℕ, zero, suc, ◌+◌, List, [], ◌∷◌, ◌++◌, length, take, drop, Ok, sym, ap, ◌∙◌, arith}
use Rattle.std.proofs.Common.{length-drop}
use Rattle.std.specs.Int.{w32, w64, to_be_bytes, from_be_bytes}
use Rattle.std.proofs.lemmas.List.{take-append-drop, length-take-le, get_or-drop}
use Rattle.std.proofs.lemmas.Nat.{be_bytes_4, be_bytes_8, from_be_bytes-to_be_bytes_4, from_be_bytes-to_be_bytes_8}
use Rattle.hex.specs.Hex.{IsBytes}
use Rattle.tai_status.specs.Label.{Tai64n, IsLabel, packed}
use Rattle.tai_status.specs.Reading.{from_packed, from_parts}

-- two numbers within their ranges are the parts of a label
from_parts-label : (l : Tai64n) → IsLabel l → from_parts l.sec l.nano ≡ Ok l
from_parts-label l h = grind (arith, h.sec, h.nano)

-- What is packed is read.
pub from_packed-packed : (l : Tai64n) → IsLabel l → from_packed (packed l) ≡ Ok l
unfolding from_packed
from_packed-packed l h =
    let sec = from_be_bytes-to_be_bytes_8 l.sec (omega (arith, h.sec)) in
    let nano = from_be_bytes-to_be_bytes_4 l.nano (omega (arith, h.nano)) in
    ap (λ (s : ℕ). from_parts s (from_be_bytes w32 (to_be_bytes w32 l.nano))) sec
    ∙ ap (λ (n : ℕ). from_parts l.sec n) nano ∙ from_parts-label l h

-- The parts of a label that was read.
pub record HasParts (l : Tai64n) (s n : ℕ) : Type 0 where
  pub label : IsLabel l
  pub sec : l.sec ≡ s
  pub nano : l.nano ≡ n

parts-label : (sec nano : ℕ) (l : Tai64n) → from_parts sec nano ≡ Ok l → HasParts l sec nano
parts-label sec nano l h = grind (arith)

-- the two parts of what was read
from_packed-parts : (bytes : List ℕ) (l : Tai64n) → from_packed bytes ≡ Ok l
    → (length bytes ≡ 12) × (from_parts (from_be_bytes w64 (take 8 bytes)) (from_be_bytes w32 (drop 8 bytes)) ≡ Ok l)
unfolding from_packed
from_packed-parts bytes l h = grind (arith)

pub IsBytes-take : (n : ℕ) (bytes : List ℕ) → IsBytes bytes → IsBytes (take n bytes)
IsBytes-take zero bytes h i = omega arith
IsBytes-take (suc n) [] h i = omega arith
IsBytes-take (suc n) (b ∷ bytes) h zero = h 0
IsBytes-take (suc n) (b ∷ bytes) h (suc i) = IsBytes-take n bytes (λ k. h (suc k)) i

pub IsBytes-drop : (n : ℕ) (bytes : List ℕ) → IsBytes bytes → IsBytes (drop n bytes)
IsBytes-drop n bytes h i = rw (get_or-drop n bytes i 0) (h (n + i))

-- Whatever is read has this packed form.
pub packed-from_packed : (bytes : List ℕ) (l : Tai64n) → IsBytes bytes → from_packed bytes ≡ Ok l
    → IsLabel l × (bytes ≡ packed l)
packed-from_packed bytes l fits h =
    let parts = from_packed-parts bytes l h in
    let is : HasParts l (from_be_bytes w64 (take 8 bytes)) (from_be_bytes w32 (drop 8 bytes)) =
    parts-label _ _ l parts.1 in
    let len = parts.0 in
    let front = be_bytes_8 (take 8 bytes) l.sec (length-take-le 8 bytes (omega (arith, len)))
    (IsBytes-take 8 bytes fits) is.sec in
    let back = be_bytes_4 (drop 8 bytes) l.nano (rw length-drop (omega (arith, len))) (IsBytes-drop 8 bytes fits)
    is.nano in (
      is.label,
      sym (ap (λ (xs : List ℕ). xs ++ to_be_bytes w32 l.nano) front
          ∙ ap (λ (ys : List ℕ). take 8 bytes ++ ys) back ∙ take-append-drop 8 bytes),
    )
