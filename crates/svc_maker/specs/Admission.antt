-- How the parts that the maker keeps are admitted to the door.
use Rattle.std.specs.Prelude.{◌≡◌, Bool, List, [], ◌∷◌, Option, Some, None, MatchBool}
use Rattle.std.specs.Prelude.{flat_map, is_some}
use Rattle.std.specs.List.{list_any}
use Rattle.std.specs.Option.{option_map_or}
use Rattle.tai_status.specs.declared.cause.Cause.{Cause}
use Rattle.svc_host.specs.declared.host.Unmade.{Unmade}
use Rattle.svc_host.specs.declared.maker.PartFault.TheVariants as part
use Rattle.svc_house.specs.Calls.{ExtendedWhileKept}
use Rattle.svc_maker.specs.Calls.{Call, Admitted, Dismissed}
use Rattle.svc_maker.specs.Making.{KeptPart, Making}

-- the calls by which a part is to be admitted, under the number of its life and with the sockets of its folder; if it
-- is refused, it is dismissed with its sockets
abbrev pub admission : KeptPart → (fault : Option Cause) → List Call
admission kept None = Admitted kept.part.life kept.path None ∷ []
admission kept (Some cause) =
    Admitted kept.part.life kept.path (Some cause) ∷ Dismissed kept.part.life kept.path ∷ []

-- It was tried once to admit a part. If it is refused it still waits, and this is why.
pub record Asks (old new : KeptPart) (calls calls_now : Option (List Call)) : Type 0 where
  pub fault : Option Cause
  pub asked : ExtendedWhileKept calls calls_now (admission old fault)
  pub stands : new ≡ record old { waits = is_some fault; refused = fault }

-- It was tried to admit a part, if it waits for that.
abbrev pub Admits : (old new : KeptPart) (calls calls_now : Option (List Call)) → Type 0
Admits old new calls calls_now =
    MatchBool old.waits (Asks old new calls calls_now) ((new ≡ old) × (calls_now ≡ calls))

-- The same was done for each of these parts, one after the other.
abbrev pub AdmitsEach : (old new : List KeptPart) (calls calls_now : Option (List Call)) → Type 0
AdmitsEach [] [] calls calls_now = calls_now ≡ calls
AdmitsEach (kept ∷ old) (now ∷ new) calls calls_now =
    (middle : Option (List Call)) × Admits kept now calls middle × AdmitsEach old new middle calls_now
AdmitsEach old new calls calls_now = ⊥

-- The same was done for each part that the maker keeps, and nothing else changed.
pub record AdmitsAll (old new : Making) : Type 0 where
  pub each : AdmitsEach old.kept new.kept old.calls new.calls
  pub stands : new ≡ record old { calls = new.calls; kept = new.kept }

-- whether any part waits to be admitted
abbrev pub any_waits : List KeptPart → Bool
any_waits kept = list_any (λ (one : KeptPart). one.waits) kept

-- what the host gets about a part, if it was refused
abbrev pub refusal : KeptPart → List Unmade
refusal kept =
    option_map_or (λ cause. record { part = kept.part; fault = part.Refused cause } ∷ []) kept.refused []

-- the parts that were refused
abbrev pub refusals : List KeptPart → List Unmade
refusals kept = flat_map refusal kept
