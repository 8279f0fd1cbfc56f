-- An input that comes in parts.
use Rattle.std.specs.Prelude.{◌≡◌, ⊤, ℕ, Bool, false, List, [], ◌∷◌, Option, Some, None}
use Rattle.tai_status.specs.Counted.{Device}

-- The part that is being read; the bytes of each later part, if they are visible; and whether a request to rotate the
-- logs after this part came in while it was read.
pub record Feed : Type 0 where
  pub device : Device
  pub behind : Option (List (List ℕ))
  pub rotates : Bool

-- an input with one part
abbrev pub in_one : Device → Feed
in_one device = record { device = device; behind = None; rotates = false }

-- The first of the later parts has these bytes, if they are visible, and the rest come after it.
abbrev pub IsNext : (behind : Option (List (List ℕ))) (bytes : Option (List ℕ)) (rest : Option (List (List ℕ))) → Type 0
IsNext None bytes rest = ⊤
IsNext (Some []) bytes rest = ⊥
IsNext (Some (part ∷ parts)) None rest = ⊥
IsNext (Some (part ∷ parts)) (Some bytes) None = ⊥
IsNext (Some (part ∷ parts)) (Some bytes) (Some rest) = (bytes ≡ part) × (rest ≡ parts)

-- The next part begins: no byte is lost, and the counts of the device continue.
pub record OpensNext (old new : Feed) : Type 0 where
  pub next : IsNext old.behind new.device.bytes new.behind
  pub reads : new.device.reads ≡ old.device.reads
  pub faults : new.device.faults ≡ old.device.faults
