-- What svscan's own control bytes ask for.
use Rattle.std.specs.Prelude.{◌≡◌, ℕ, ◌==◌, if◌then◌else◌, List, [], ◌∷◌, Option, Some, None}
use Rattle.std.specs.List.{All}
use Rattle.svscan_rounds.specs.declared.orders.Order.{Order}
use Rattle.svscan_rounds.specs.declared.orders.Order.TheVariants.{Round, End, Leave}

-- `a` asks for a round now, `x` for the end of all services, and `q` for svscan's own end. Every other byte asks for
-- nothing.
abbrev pub order_of : (byte : ℕ) → Option Order
order_of byte =
    if byte == 97 then Some Round else if byte == 120 then Some End else if byte == 113 then Some Leave else None

-- what svscan does next after a byte came, or after none came until the next round was due
abbrev pub order_at : Option ℕ → Option Order
order_at None = Some Round
order_at (Some byte) = order_of byte

-- A rest: bytes that ask for nothing, and then what ended it.
pub record Rest : Type 0 where
  pub passed : List ℕ
  pub last : Option ℕ

-- This is next after the rest: what its last byte asks for, or a round if no byte asked for anything.
pub record Decides (rest : Rest) (order : Order) : Type 0 where
  pub passed : All (λ byte. order_of byte ≡ None) rest.passed
  pub last : order_at rest.last ≡ Some order
