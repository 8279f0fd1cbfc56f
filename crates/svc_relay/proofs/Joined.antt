-- The bytes of pieces, and of the letters that carry them.
use Rattle.std.proofs.Common.{◌≡◌, ℕ, ◌*◌, ◌^◌, ◌<◌, ◌≤◌, List, [], ◌∷◌, ◌++◌, length, map, refl, sym, ap, ◌∙◌, arith}
use Rattle.std.proofs.Common.{length-append, append_assoc}
use Rattle.std.proofs.lemmas.List.{append-nil, length-take, length-map, map-append}
use Rattle.svc_mail.specs.declared.letter.Letter.{Letter}
use Rattle.svc_relay.specs.declared.piece.Piece.{Piece}
use Rattle.svc_relay.specs.Pieces.{bytes_of, joined, bytes_in}

pub joined-append : (xs ys : List Piece) → joined (xs ++ ys) ≡ joined xs ++ joined ys
joined-append [] ys = refl
joined-append (x ∷ xs) ys = ap (λ l. bytes_of x ++ l) (joined-append xs ys)
    ∙ sym (append_assoc (bytes_of x) (joined xs) (joined ys))

pub joined-one : (xs : List Piece) (piece : Piece) → joined (xs ++ piece ∷ []) ≡ joined xs ++ bytes_of piece
joined-one xs piece = joined-append xs (piece ∷ []) ∙ ap (λ l. joined xs ++ l) (append-nil (bytes_of piece))

pub bytes_in-append : (xs ys : List (Letter Piece)) → bytes_in (xs ++ ys) ≡ bytes_in xs ++ bytes_in ys
bytes_in-append xs ys =
    ap joined (map-append (λ (l : Letter Piece). l.item) xs ys)
    ∙ joined-append (map (λ (l : Letter Piece). l.item) xs) (map (λ (l : Letter Piece). l.item) ys)

pub bytes_in-one : (xs : List (Letter Piece)) (letter : Letter Piece) → bytes_in (xs ++ letter ∷ [])
    ≡ bytes_in xs ++ bytes_of letter.item
bytes_in-one xs letter = bytes_in-append xs (letter ∷ [])
    ∙ ap (λ l. bytes_in xs ++ l) (append-nil (bytes_of letter.item))

joined-length : (pieces : List Piece) → length (joined pieces) ≤ 512 * length pieces
joined-length [] = omega arith
joined-length (piece ∷ pieces) =
    omega (
      arith,
      joined-length pieces,
      length-append (bytes_of piece) (joined pieces),
      length-take piece.len piece.bytes,
      piece.within,
    )

-- a count of bytes that were taken fits 128 bits
pub in_range : (letters : List (Letter Piece)) (n : ℕ) → length letters ≤ 2 ^ 62 → n ≤ length (bytes_in letters)
    → n < 2 ^ 128
in_range letters n few below =
    let all = joined-length (map (λ (l : Letter Piece). l.item) letters) in
    omega (arith, all, length-map letters (λ (l : Letter Piece). l.item), few, below)
