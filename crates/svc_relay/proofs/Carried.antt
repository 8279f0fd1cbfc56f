-- What an intake read, as its reader continues.
use Rattle.std.proofs.Common.{◌≡◌, ℕ, List, [], ◌∷◌, ◌++◌, take, Option, Some, None, sym, ap, ◌∙◌, subst}
use Rattle.std.proofs.lemmas.List.{append-nil}
use Rattle.std.specs.Io.KnownBytes.{Consumes, Keeps}
use Rattle.tai_status.specs.Counted.{Device, Gives}
use Rattle.tai_status.proofs.Stamped.{Consumes-then, Consumes-Keeps}
use Rattle.svc_relay.specs.declared.piece.Piece.{Piece}
use Rattle.svc_relay.specs.Pieces.{bytes_of, joined}
use Rattle.svc_mail.specs.Ends.{posted, WasFull}
use Rattle.svc_relay.specs.declared.turn.IntakeTurn.{IntakeTurn}
use Rattle.svc_relay.specs.declared.turn.IntakeTurn.TheVariants.{Moved, Idle, Ended}
use Rattle.svc_relay.specs.Carrying.{Carrying, IsIntakeTurn, as_list}
use Rattle.svc_relay.proofs.Joined.{joined-one}

-- a piece was read, and is kept
pub reads_piece : (opening old new : Device) (posted : List Piece) (kept : Option Piece) (piece : Piece)
    (bytes : List ℕ) → kept ≡ None
    → Gives opening old (joined (posted ++ as_list kept)) → Consumes old.bytes new.bytes bytes → bytes_of piece ≡ bytes
    → Gives opening new (joined (posted ++ piece ∷ []))
reads_piece opening old new posted kept piece bytes none read more is =
    let before : joined (posted ++ as_list kept) ≡ joined posted = ap (λ k. joined (posted ++ as_list k)) none
    ∙ ap joined (append-nil posted) in
    let all : joined (posted ++ as_list kept) ++ bytes ≡ joined (posted ++ piece ∷ []) =
    ap (λ l. l ++ bytes) before ∙ ap (λ l. joined posted ++ l) (sym is) ∙ sym (joined-one posted piece) in
    subst (λ (l : List ℕ). Gives opening new l) all
    (Consumes-then opening.bytes old.bytes new.bytes (joined (posted ++ as_list kept)) bytes read more)

-- the reader gave no byte
pub reads_none : (opening old new : Device) (xs buffer : List ℕ) (count : ℕ) → count ≡ 0 → Gives opening old xs
    → Consumes old.bytes new.bytes (take count buffer)
    → Gives opening new xs
reads_none opening old new xs buffer count none read more =
    let nothing : take count buffer ≡ [] = ap (λ n. take n buffer) none in
    subst (λ (l : List ℕ). Gives opening new l) (ap (λ l. xs ++ l) nothing ∙ append-nil xs)
    (Consumes-then opening.bytes old.bytes new.bytes xs (take count buffer) read more)

-- the reader failed
pub reads_not : (opening old new : Device) (xs : List ℕ) → Gives opening old xs → Keeps old.bytes new.bytes
    → Gives opening new xs
reads_not opening old new xs read kept = Consumes-Keeps opening.bytes old.bytes new.bytes xs read kept

-- a turn is a step that does not change the sender, and then a step that posts what the first one keeps
pub posts_kept : (old mid new : Carrying) (turned : IntakeTurn) (piece : Piece) → mid.sender ≡ old.sender
    → mid.kept ≡ Some piece
    → IsIntakeTurn mid turned new → IsIntakeTurn old turned new
posts_kept old mid new (Moved count) piece sender kept h = record {
  piece = h.piece;
  row = h.row ∙ ap (λ s. posted s ++ h.piece ∷ []) sender;
  bytes = h.bytes;
  some = h.some;
  kept = h.kept;
}
posts_kept old mid new Idle piece sender kept h = record {
  full = subst (λ s. WasFull s) sender h.full;
  row = h.row ∙ ap (λ s. posted s) sender;
  kept = h.kept;
}
posts_kept old mid new Ended piece sender kept h = let none : Some piece ≡ None = sym kept ∙ h.kept.0 in absurd cc
