-- The bytes of pieces, and of the letters that carry them.
use Rattle.std.specs.Prelude.{ℕ, List, [], ◌∷◌, ◌++◌, take, map}
use Rattle.svc_mail.specs.declared.letter.Letter.{Letter}
use Rattle.svc_relay.specs.declared.piece.Piece.{Piece}

abbrev pub bytes_of : Piece → List ℕ
bytes_of piece = take piece.len piece.bytes

-- the bytes of pieces, one after the other
abbrev pub joined : List Piece → List ℕ
joined [] = []
joined (piece ∷ pieces) = bytes_of piece ++ joined pieces

-- the bytes of the pieces in these letters
abbrev pub bytes_in : List (Letter Piece) → List ℕ
bytes_in letters = joined (map (λ letter. letter.item) letters)
