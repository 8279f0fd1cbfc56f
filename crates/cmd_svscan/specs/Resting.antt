-- What a rest does to the host of the services, and what is heard in it.
use Rattle.std.specs.Prelude.{◌≡◌, ℕ, List, [], ◌∷◌, Option}
use Rattle.svc_host.specs.Rounds.{AreCollected, HostState}
use Rattle.cmd_svscan.specs.Serving.{IsNextByte, Serving}

-- Threads were joined, with this host as the result, and so on for the next one.
abbrev pub CollectsAlong : List HostState → (old new : HostState) → Type 0
CollectsAlong [] old new = new ≡ old
CollectsAlong (next ∷ hosts) old new = AreCollected old next × CollectsAlong hosts next new

-- Threads were joined, some number of times, and nothing else happened to the host.
abbrev pub AreCollectedInTurn : (old new : HostState) → Type 0
AreCollectedInTurn old new = (hosts : List HostState) × CollectsAlong hosts old new

-- A rest: threads were joined, and then this byte was heard, or none.
pub record Hears (old : Serving) (byte : Option ℕ) (new : Serving) : Type 0 where
  pub host : AreCollectedInTurn old.host new.host
  pub quiet : new.quiet ≡ old.quiet
  pub heard : IsNextByte old.given byte new.given
