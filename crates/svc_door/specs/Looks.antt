-- When the door looks at a connection again after a turn.
use Rattle.std.specs.Prelude.{◌≡◌, ⊤, ℕ, nat_lt, Option, Some, None, IsSome, IsNone}
use Rattle.svc_door.specs.Connection.{ConnectionState}
use Rattle.svc_door.specs.Rests.{spoke_at, looked_at}
use Rattle.svc_door.specs.declared.connection.Turn.{Turn}

-- A connection had a turn now. It keeps when it last gave bytes, and this decides that the door looks at it again at
-- this time.
pub record LooksAgain (old new : ConnectionState) (now due : ℕ) : Type 0 where
  pub turn : Turn
  pub spoke : new.spoke ≡ spoke_at turn (nat_lt old.taken new.taken) old.spoke now
  pub looks : looked_at turn new.watched new.spoke now ≡ Some due

-- The same, if there was a connection and it stays.
abbrev pub LooksAgainAt : (old new : Option ConnectionState) (now due : ℕ) → Type 0
LooksAgainAt None new now due = ⊤
LooksAgainAt (Some old) None now due = ⊤
LooksAgainAt (Some old) (Some new) now due = LooksAgain old new now due

-- There was a connection, and it is over.
abbrev pub HasClosed : (old new : Option ConnectionState) → Type 0
HasClosed old new = IsSome old × IsNone new
