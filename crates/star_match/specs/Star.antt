-- Which texts a pattern matches, by the multilog page of daemontools (cr.yp.to/daemontools/multilog.html). Patterns and
-- texts are lists of bytes.
use Rattle.std.specs.Prelude.{◌≡◌, ◌≢◌, ℕ, ◌==◌, Bool, true, false, ◌&&◌, ◌||◌, if◌then◌else◌, List, [], ◌∷◌, ◌++◌}
use Rattle.std.specs.List.{list_any}

-- the byte `*`
abbrev pub star : ℕ
star = 42

-- whether a byte of a pattern is a star
abbrev pub is_star : ℕ → Bool
is_star byte = byte == star

-- No byte of these is c.
abbrev pub IsWithout : ℕ → List ℕ → Type 0
IsWithout c bytes = list_any (λ byte. byte == c) bytes ≡ false

-- The pattern matches the whole text.
pub data Matches : List ℕ → List ℕ → Type 0 where
  -- The empty pattern matches the empty text.
  empty : Matches [] []
  -- A byte that is no star, with a rest after it, matches that byte followed by a text that the rest matches.
  byte_first : {byte : ℕ} {rest text : List ℕ} → byte ≢ star → Matches rest text
      → Matches (byte ∷ rest) (byte ∷ text)
  -- A last star matches every text.
  star_last : (text : List ℕ) → Matches (star ∷ []) text
  -- A star before c matches a part without c, followed by a text that the pattern from c on matches.
  star_before : {c : ℕ} {rest text : List ℕ} (part : List ℕ) → IsWithout c part → Matches (c ∷ rest) text
      → Matches (star ∷ c ∷ rest) (part ++ text)

-- whether two stars are adjacent
abbrev pub has_adjacent_stars : List ℕ → Bool
has_adjacent_stars [] = false
has_adjacent_stars (x ∷ []) = false
has_adjacent_stars (x ∷ y ∷ rest) = (is_star x && is_star y) || has_adjacent_stars (y ∷ rest)

-- the text from its first c on, or nothing if it has none
abbrev pub from_first : ℕ → List ℕ → List ℕ
from_first c [] = []
from_first c (byte ∷ text) = if byte == c then byte ∷ text else from_first c text

-- whether a pattern without adjacent stars matches a text: `Matches`, computed by one scan
abbrev pub star_matches : List ℕ → List ℕ → Bool
star_matches [] [] = true
star_matches [] (byte ∷ text) = false
star_matches (byte ∷ rest) text = elim (is_star byte) [
  | true ↦ elim rest [
    | [] ↦ true
    | c ∷ _ ↦ star_matches rest (from_first c text)
  ]
  | false ↦ elim text [
    | [] ↦ false
    | first ∷ after ↦ (first == byte) && star_matches rest after
  ]
]
