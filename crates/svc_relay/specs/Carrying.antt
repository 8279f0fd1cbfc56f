-- The state of an intake: what it read, what it posted, and what it keeps.
use Rattle.std.specs.Prelude.{◌≡◌, ℕ, ◌<◌, List, [], ◌∷◌, ◌++◌, length, Option, None, Some, IsSome}
use Rattle.std.specs.declared.alloc.Global.{Global}
use Rattle.tai_status.specs.Counted.{Device, Gives, IsRead, Fails}
use Rattle.svc_mail.specs.declared.sender.Sender.{Sender}
use Rattle.svc_mail.specs.Ends.{posted, WasFull}
use Rattle.svc_relay.specs.declared.piece.Piece.{Piece}
use Rattle.svc_relay.specs.declared.turn.IntakeTurn.{IntakeTurn}
use Rattle.svc_relay.specs.declared.turn.IntakeTurn.TheVariants.{Moved, Idle, Ended}
use Rattle.svc_relay.specs.Pieces.{bytes_of, joined}

pub record Carrying : Type 0 where
  -- the reader as it was when the intake began, and as it is now
  pub opening : Device
  pub reader : Device
  pub sender : Sender Piece Global
  -- the piece that was read and not yet posted
  pub kept : Option Piece

-- an optional piece as a list
abbrev pub as_list : Option Piece → List Piece
as_list None = []
as_list (Some piece) = piece ∷ []

-- the pieces that were posted, followed by the one that is kept
abbrev pub pieces_in : Carrying → List Piece
pieces_in s = posted s.sender ++ as_list s.kept

-- The condition on every intake: the bytes that it read are those that it posted, followed by those that it keeps.
abbrev pub IsIntake : Carrying → Type 0
IsIntake s = Gives s.opening s.reader (joined (pieces_in s))

-- an intake that begins: nothing is posted or kept
abbrev pub beginning : Device → Sender Piece Global → Carrying
beginning reader sender = record { opening = reader; reader = reader; sender = sender; kept = None }

-- Nothing was read.
pub record DidNotRead (old new : Carrying) : Type 0 where
  pub reader : new.reader ≡ old.reader
  pub pieces : pieces_in new ≡ pieces_in old

-- One piece with this many bytes, at least one, was posted, and nothing is kept.
pub record PostsOne (old : Carrying) (count : ℕ) (new : Carrying) : Type 0 where
  pub piece : Piece
  pub row : posted new.sender ≡ posted old.sender ++ piece ∷ []
  pub bytes : length (bytes_of piece) ≡ count
  pub some : 0 < count
  pub kept : new.kept ≡ None

-- The mailbox was full, and a piece is kept.
pub record IsRefused (old new : Carrying) : Type 0 where
  pub full : WasFull old.sender
  pub row : posted new.sender ≡ posted old.sender
  pub kept : IsSome new.kept

-- The reader is at its end. Nothing was kept, and nothing is.
pub record IsAtEnd (old new : Carrying) : Type 0 where
  pub read : IsRead new.reader
  pub sender : new.sender ≡ old.sender
  pub kept : (old.kept ≡ None) × (new.kept ≡ None)

-- The reader failed. Nothing was posted, and nothing was or is kept.
pub record IsUnread (old new : Carrying) : Type 0 where
  pub failed : Fails old.reader new.reader
  pub sender : new.sender ≡ old.sender
  pub kept : (old.kept ≡ None) × (new.kept ≡ None)

-- what a turn did
abbrev pub IsIntakeTurn : Carrying → IntakeTurn → Carrying → Type 0
IsIntakeTurn old (Moved count) new = PostsOne old count new
IsIntakeTurn old Idle new = IsRefused old new
IsIntakeTurn old Ended new = IsAtEnd old new
