-- How the text of a log is cut into files.
use Rattle.std.specs.Prelude.{◌≡◌, ℕ, ◌+◌, ◌-◌, ◌<◌, ◌≤◌, ◌==◌, nat_lt, nat_le, Bool, true, false, ◌&&◌, ◌||◌}
use Rattle.std.specs.Prelude.{List, [], ◌∷◌, ◌++◌, length, take}
use Rattle.std.specs.List.{flat_map}
use Rattle.tai_status.specs.Lines.{Sent}

-- Whether a file with this many bytes is full (multilog's page): it has the size; or it ends in a newline, and is at
-- most 2000 bytes below the size.
abbrev pub fills : ℕ → ℕ → Bool → Bool
fills size count ends = nat_le size count || (nat_le (size - 2000) count && ends)

-- whether bytes end in a newline
abbrev pub ends_line : List Sent → Bool
ends_line [] = false
ends_line (x ∷ []) = x.byte == 10
ends_line (x ∷ y ∷ ys) = ends_line (y ∷ ys)

-- whether a file that had n bytes is full after this piece
abbrev pub is_full : ℕ → ℕ → List Sent → Bool
is_full size n piece = nat_lt 0 (length piece) && fills size (n + length piece) (ends_line piece)

-- The file is full after this piece, and after no shorter prefix of it.
pub record IsPiece (size n : ℕ) (piece : List Sent) : Type 0 where
  pub full : is_full size n piece ≡ true
  pub least : (k : ℕ) → k < length piece → is_full size n (take k piece) ≡ false

-- A last piece. The file is not full after it, nor after a prefix of it.
pub record IsOpen (size n : ℕ) (rest : List Sent) : Type 0 where
  pub open_yet : (k : ℕ) → k ≤ length rest → is_full size n (take k rest) ≡ false

-- The file had n bytes before the first piece, and none before each other piece.
abbrev pub AreCut : ℕ → ℕ → List (List Sent) → List Sent → Type 0
AreCut size n [] rest = IsOpen size n rest
AreCut size n (piece ∷ pieces) rest = IsPiece size n piece × AreCut size 0 pieces rest

-- The text is these pieces, one after another, and a last piece. Each piece fills a file, and the last one fills none.
pub record IsCut (size n : ℕ) (text : List Sent) (pieces : List (List Sent)) (rest : List Sent) : Type 0 where
  pub whole : text ≡ flat_map (λ piece. piece) pieces ++ rest
  pub each : AreCut size n pieces rest
