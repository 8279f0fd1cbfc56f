-- What is taken from a mailbox into a block.
use Rattle.std.specs.Prelude.{◌≡◌, ℕ, List, ◌++◌}
use Rattle.std.specs.declared.alloc.Global.{Global}
use Rattle.svc_mail.specs.declared.receiver.Receiver.{Receiver}
use Rattle.svc_mail.specs.Ends.{taken_by}
use Rattle.svc_relay.specs.declared.piece.Piece.{Piece}
use Rattle.svc_relay.specs.Pieces.{bytes_in}

-- The bytes that wait grew by those that were taken.
pub record Gathers (old new : Receiver Piece Global) (before after : List ℕ) : Type 0 where
  pub bytes : List ℕ
  pub taken : bytes_in (taken_by new) ≡ bytes_in (taken_by old) ++ bytes
  pub waits : after ≡ before ++ bytes
