-- What `Matches` means for whole patterns. Each law is the contract of a function in `src/laws.rt`. A word is a run of
-- bytes without a star.
use Rattle.std.specs.Prelude.{◌≡◌, ◌↔◌, ⊤, ℕ, true, false, List, [], ◌∷◌, ◌++◌}
use Rattle.std.specs.Bool.{MatchBool}
use Rattle.std.specs.List.{concat}
use Rattle.star_match.specs.Star.{star, is_star, IsWithout, Matches, has_adjacent_stars, star_matches}
use Rattle.star_match.specs.Pairs.{has_pair}

-- A star at the end takes any bytes. A star before c takes any bytes without c.
abbrev pub StarTakes : List ℕ → List ℕ → Type 0
StarTakes [] part = ⊤
StarTakes (c ∷ rest) part = IsWithout c part

-- A byte of a pattern, before this rest, takes this part of a text. A byte that is no star takes itself.
abbrev pub Takes : ℕ → List ℕ → List ℕ → Type 0
Takes byte rest part = MatchBool (is_star byte) (StarTakes rest part) (part ≡ byte ∷ [])

-- The bytes of a pattern take these parts, in the same order.
abbrev pub TakeParts : List ℕ → List (List ℕ) → Type 0
TakeParts [] [] = ⊤
TakeParts [] (part ∷ parts) = ⊥
TakeParts (byte ∷ rest) [] = ⊥
TakeParts (byte ∷ rest) (part ∷ parts) = Takes byte rest part × TakeParts rest parts

-- A pattern matches the concatenations of what its bytes take, in the same order. The multilog page says it in this
-- way.
abbrev pub MatchesConcatenations : Type 0
MatchesConcatenations = (pattern text : List ℕ)
    → Matches pattern text ↔ ((parts : List (List ℕ)) × TakeParts pattern parts × (text ≡ concat parts))

-- If no two stars are next to each other, a text can be cut into such parts in at most one way. Therefore one scan
-- finds it.
abbrev pub HasOneCut : Type 0
HasOneCut = (pattern : List ℕ) (parts others : List (List ℕ)) → has_adjacent_stars pattern ≡ false
    → TakeParts pattern parts → TakeParts pattern others → concat parts ≡ concat others → parts ≡ others

-- A word matches itself, and no other text.
abbrev pub WordMatchesItself : Type 0
WordMatchesItself = (word text : List ℕ) → IsWithout star word → Matches word text ↔ (text ≡ word)

-- A star alone matches every text.
abbrev pub StarMatchesAll : Type 0
StarMatchesAll = (text : List ℕ) → Matches (star ∷ []) text

-- A word and a star match the texts that begin with the word.
abbrev pub WordAndStarMatchFront : Type 0
WordAndStarMatchFront = (word text : List ℕ) → IsWithout star word
    → Matches (word ++ star ∷ []) text ↔ ((after : List ℕ) × (text ≡ word ++ after))

-- A word between two stars matches the texts that contain the word, if its first byte c does not occur before it. A
-- star is therefore no search: `*ab*` does not match `aab`.
abbrev pub WordStandsAtFirst : Type 0
WordStandsAtFirst = (c : ℕ) (rest text : List ℕ) → IsWithout star (c ∷ rest)
    → Matches (star ∷ (c ∷ rest) ++ star ∷ []) text
    ↔ ((front after : List ℕ) × IsWithout c front × (text ≡ front ++ (c ∷ rest) ++ after))

-- A pattern has two adjacent stars exactly if it is a first part, two stars and a rest.
abbrev pub AdjacentStarsStand : Type 0
AdjacentStarsStand = (pattern : List ℕ)
    → (has_adjacent_stars pattern ≡ true) ↔ ((front after : List ℕ) × (pattern ≡ front ++ star ∷ star ∷ after))

-- If no two stars are adjacent, the computed result is the relation.
abbrev pub ComputesMatches : Type 0
ComputesMatches = (pattern text : List ℕ) → has_adjacent_stars pattern ≡ false
    → (star_matches pattern text ≡ true) ↔ Matches pattern text

-- A text that a pattern matches has each pair of adjacent bytes of the pattern, if neither byte is a star.
abbrev pub PairsStand : Type 0
PairsStand = (a b : ℕ) (pattern text : List ℕ) → is_star a ≡ false → is_star b ≡ false → has_pair a b pattern ≡ true
    → Matches pattern text → has_pair a b text ≡ true
