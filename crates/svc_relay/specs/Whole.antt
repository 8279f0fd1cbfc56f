-- What an intake and a relay do together when a mailbox joins them.
use Rattle.std.specs.Prelude.{◌≡◌, ℕ, List, [], ◌∷◌, ◌++◌, IfSome}
use Rattle.svc_mail.specs.declared.letter.Letter.{Letter}
use Rattle.svc_mail.specs.Ends.{number_of, senders_at, taken_by, IsWholeHistory}
use Rattle.svc_relay.specs.declared.piece.Piece.{Piece}
use Rattle.svc_relay.specs.Pieces.{joined, bytes_in}
use Rattle.svc_relay.specs.Carrying.{Carrying, IsIntake, as_list, pieces_in}
use Rattle.svc_relay.specs.Passing.{Passing, IsRelay}

-- the bytes that an intake read
abbrev pub bytes_read : Carrying → List ℕ
bytes_read intake = joined (pieces_in intake)

-- the bytes that were put into all lives of a logger, joined
abbrev pub bytes_put : Passing → List ℕ
bytes_put relay = relay.earlier ++ relay.here

-- the bytes still between the two: those that the relay keeps, those left in the mailbox, and those that the intake
-- keeps
abbrev pub bytes_between : Carrying → Passing → List (Letter Piece) → List ℕ
bytes_between intake relay left = relay.kept ++ bytes_in left ++ joined (as_list intake.kept)

-- These bytes begin those.
abbrev pub Begins : List ℕ → List ℕ → Type 0
Begins front all = (rest : List ℕ) × (all ≡ front ++ rest)

-- The intake posts and the relay takes through one mailbox, which has no other sender. It was closed, with these
-- letters left.
pub record IsJoined (intake : Carrying) (relay : Passing) (left : List (Letter Piece)) : Type 0 where
  pub posts : IsIntake intake
  pub takes : IsRelay relay
  pub number : number_of intake.sender ≡ 0
  pub alone : senders_at relay.receiver ≡ 1
  pub closed : IsWholeHistory (intake.sender ∷ []) relay.receiver (taken_by relay.receiver ++ left)

-- for each intake, each relay, and the letters left in the closed mailbox between them
abbrev pub OfEachJoined : (Carrying → Passing → List (Letter Piece) → Type 0) → Type 0
OfEachJoined P =
    (intake : Carrying) (relay : Passing) (left : List (Letter Piece)) → IsJoined intake relay left
    → P intake relay left

-- what was read is what was put into all lives, followed by what is between
abbrev pub IsPutOrBetween : Carrying → Passing → List (Letter Piece) → Type 0
IsPutOrBetween intake relay left = bytes_read intake ≡ bytes_put relay ++ bytes_between intake relay left

-- what was put into all lives begins what was read
abbrev pub LivesBeginRead : Carrying → Passing → List (Letter Piece) → Type 0
LivesBeginRead intake relay left = Begins (bytes_put relay) (bytes_read intake)

-- what was put into all lives also begins all that the reader had to give, if that is known
abbrev pub LivesBeginAll : Carrying → Passing → List (Letter Piece) → Type 0
LivesBeginAll intake relay left = IfSome intake.opening.bytes (λ all. Begins (bytes_put relay) all)
