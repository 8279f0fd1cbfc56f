-- Text between the marks of a page, and in their quotes (html.spec.whatwg.org).
use Rattle.std.specs.Prelude.{◌≢◌, ℕ, nat_le, nat_lt, ◌==◌, ◌&&◌, ◌||◌, Bool, if◌then◌else◌, List, [], ◌∷◌, ◌++◌, codes}
use Rattle.std.specs.Prelude.{encode_utf8, flat_map}
use Rattle.std.specs.Str.{chars}
use Rattle.hex.specs.Hex.{encode_lower}

-- whether a character is one of those from the first to the last
abbrev pub is_between : (first last char : ℕ) → Bool
is_between first last char = nat_le first char && nat_le char last

-- A character that is not seen, and can change how others are seen: a control character, or one that turns the
-- direction of text (U+202A to U+202E, U+2066 to U+2069).
abbrev pub is_hidden : ℕ → Bool
is_hidden char =
    nat_lt char 32 || (is_between 127 159 char || (is_between 8234 8238 char || is_between 8294 8297 char))

-- a byte as `\x` and its two hexadecimal digits
unfoldable pub hex_text : ℕ → List ℕ
hex_text byte = 92 ∷ 120 ∷ encode_lower (byte ∷ [])

-- a text in which each such character is written as its bytes in hexadecimal digits
abbrev pub visible_char : ℕ → List ℕ
visible_char char = if is_hidden char then flat_map hex_text (encode_utf8 char) else encode_utf8 char

abbrev pub visible : List ℕ → List ℕ
visible text = flat_map visible_char (chars text)

-- what is in a page for a byte of text
unfoldable pub entity : ℕ → List ℕ
entity byte =
    if byte == 38 then codes "&amp;"
    else if byte == 60 then codes "&lt;"
    else if byte == 62 then codes "&gt;"
    else if byte == 34 then codes "&quot;"
    else if byte == 39 then codes "&#39;"
    else byte ∷ []

-- what is in a page for a text
abbrev pub escaped : List ℕ → List ℕ
escaped text = flat_map entity (visible text)

-- How text in a page is read: each of these entities is the character that it names, and every other byte is itself. No
-- `&` is there that begins no entity, and no `<`, `>`, `"` or `'`.
pub data ReadsAs : (written text : List ℕ) → Type 0 where
  Nothing : ReadsAs [] []
  Plain : (byte : ℕ) → byte ≢ 38 → byte ≢ 60 → byte ≢ 62 → byte ≢ 34 → byte ≢ 39 → (written text : List ℕ)
      → ReadsAs written text → ReadsAs (byte ∷ written) (byte ∷ text)
  Ampersand : (written text : List ℕ) → ReadsAs written text → ReadsAs (codes "&amp;" ++ written) (38 ∷ text)
  Less : (written text : List ℕ) → ReadsAs written text → ReadsAs (codes "&lt;" ++ written) (60 ∷ text)
  Greater : (written text : List ℕ) → ReadsAs written text → ReadsAs (codes "&gt;" ++ written) (62 ∷ text)
  Quote : (written text : List ℕ) → ReadsAs written text → ReadsAs (codes "&quot;" ++ written) (34 ∷ text)
  Apostrophe : (written text : List ℕ) → ReadsAs written text → ReadsAs (codes "&#39;" ++ written) (39 ∷ text)

-- What is written for a text reads as that text, with its hidden characters shown.
abbrev pub TextReads : Type 0
TextReads = (text : List ℕ) → ReadsAs (escaped text) (visible text)
