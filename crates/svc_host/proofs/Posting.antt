-- What a post returns is exactly one of these.
use Rattle.std.proofs.Common.{◌≡◌, subst}
use Rattle.std.specs.Prelude.{⊤, Result, Ok, Err, OnErr}
use Rattle.svc_host.specs.declared.host.PostFault.{PostFault}
use Rattle.svc_host.specs.declared.host.PostFault.TheVariants as fault

-- Anything except that there is no such part.
abbrev IsThere : {A : Type 0} → Result A PostFault → Type 0
IsThere (Ok posted) = ⊤
IsThere (Err fault.Full) = ⊤
IsThere (Err fault.NoSuchPart) = ⊥

pub posted_is_there : {A : Type 0} {posted : A} → Ok posted ≡ Err fault.NoSuchPart → ⊥
posted_is_there is = subst IsThere is tt

pub full_is_there : {A : Type 0} → ◌≡◌ {A = Result A PostFault} (Err fault.Full) (Err fault.NoSuchPart) → ⊥
full_is_there is = subst IsThere is tt

-- What holds for a fault also holds in other words.
pub on_fault : {A E P Q : Type 0} (result : Result A E) → (P → Q) → OnErr result P → OnErr result Q
on_fault (Ok posted) so holds = tt
on_fault (Err fault) so holds = so holds
