-- What the words of a svc command say, by the svc page of daemontools (cr.yp.to/daemontools/svc.html).
-- Words, letters and bytes are lists of bytes.
use Rattle.std.specs.Prelude.{◌≡◌, ℕ, ◌==◌, nat_le, Bool, true, not, ◌&&◌, if◌then◌else◌, List, [], ◌∷◌, length, drop}
use Rattle.std.specs.Prelude.{slice_index, codes, bytes_eq, filter, flat_map, find, Option}
use Rattle.std.specs.List.{list_all, IsDistinct}
use Rattle.sup_core.specs.Rules.{is_letter}

-- the word `--`
abbrev pub is_end : List ℕ → Bool
is_end word = bytes_eq word (codes "--")

-- An option word has two bytes or more, begins with `-`, and is not `--`.
abbrev pub is_option : List ℕ → Bool
is_option word = nat_le 2 (length word) && (slice_index word 0 == 45) && not (is_end word)

-- the option words: the longest front of the words that has no other word
abbrev pub option_words : List (List ℕ) → List (List ℕ)
option_words [] = []
option_words (word ∷ words) = if is_option word then word ∷ option_words words else []

-- the words from the first one on that is not an option word
abbrev pub after_options : List (List ℕ) → List (List ℕ)
after_options [] = []
after_options (word ∷ words) = if is_option word then after_options words else word ∷ words

-- the words without a `--` in the first place
abbrev pub without_end : List (List ℕ) → List (List ℕ)
without_end [] = []
without_end (word ∷ words) = if is_end word then words else word ∷ words

-- the services: the words after the option words, and after a `--` right after these
abbrev pub service_words : List (List ℕ) → List (List ℕ)
service_words words = without_end (after_options words)

-- the letters: the bytes of the option words, each without its `-`
abbrev pub option_letters : List (List ℕ) → List ℕ
option_letters words = flat_map (λ word. drop 1 word) (option_words words)

-- the first letter that is not a control byte
abbrev pub first_unknown : List ℕ → Option ℕ
first_unknown letters = find (λ letter. not (is_letter letter)) letters

-- the first letter of the option words that is not a control byte
abbrev pub unknown_in : List (List ℕ) → Option ℕ
unknown_in words = first_unknown (option_letters words)

-- the letters, without each one that comes earlier
abbrev pub without_earlier : List ℕ → List ℕ
without_earlier [] = []
without_earlier (letter ∷ letters) = letter ∷ filter (λ other. not (other == letter)) (without_earlier letters)

-- the bytes that each service gets, in order
abbrev pub order_bytes : List (List ℕ) → List ℕ
order_bytes words = without_earlier (option_letters words)

-- Each is a control byte, and none is there twice.
pub record AreKnownOnce (bytes : List ℕ) : Type 0 where
  pub known : list_all is_letter bytes ≡ true
  pub once : IsDistinct (λ letter other. letter == other) bytes
