-- Text without control characters.
use Rattle.std.specs.Prelude.{ℕ, ◌==◌, nat_lt, ◌||◌, Bool, if◌then◌else◌, List, [], ◌∷◌, flat_map}
use Rattle.hex.specs.Hex.{encode_lower}

-- An ASCII control character: it may end a line, or change what a terminal shows.
abbrev pub is_control : ℕ → Bool
is_control byte = nat_lt byte 32 || (byte == 127)

-- a byte; a control character becomes `\x` and its two hexadecimal digits
unfoldable pub shown_byte : ℕ → List ℕ
shown_byte byte = if is_control byte then 92 ∷ 120 ∷ encode_lower (byte ∷ []) else byte ∷ []

-- a text without control characters
abbrev pub shown : List ℕ → List ℕ
shown text = flat_map shown_byte text
