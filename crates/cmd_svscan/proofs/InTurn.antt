-- Steps, one after the other.
use Rattle.std.proofs.Common.{Bool, true, false, List, [], ◌∷◌, ◌++◌, refl, subst, sym}
use Rattle.svc_host.specs.Ending.{EndsAll}
use Rattle.svc_host.specs.Parts.{HostPart}
use Rattle.svc_host.specs.Rounds.{AreCollected, HostState}
use Rattle.cmd_svscan.specs.Closing.{EndInTurn, EndsAlong}
use Rattle.cmd_svscan.specs.Looking.{JoinsUnless}
use Rattle.cmd_svscan.specs.Resting.{AreCollectedInTurn, CollectsAlong}

ends-along-more : (steps : List (List HostPart)) (old middle new : List HostPart) → EndsAlong steps old middle
    → EndsAll middle new → EndsAlong (steps ++ new ∷ []) old new
ends-along-more [] old middle new along last =
    (subst (λ (parts : List HostPart). EndsAll parts new) along last, refl)
ends-along-more (next ∷ steps) old middle new along last =
    (along.0, ends-along-more steps next middle new along.1 last)

-- one more step of the end of all services
pub ends-more : (old middle new : List HostPart) → EndInTurn old middle → EndsAll middle new → EndInTurn old new
ends-more old middle new so_far last = (so_far.0 ++ new ∷ [], ends-along-more so_far.0 old middle new so_far.1 last)

collects-along-more : (hosts : List HostState) (old middle new : HostState) → CollectsAlong hosts old middle
    → AreCollected middle new → CollectsAlong (hosts ++ new ∷ []) old new
collects-along-more [] old middle new along last =
    (subst (λ (host : HostState). AreCollected host new) along last, refl)
collects-along-more (next ∷ hosts) old middle new along last =
    (along.0, collects-along-more hosts next middle new along.1 last)

-- Threads were joined once more, or not.
pub collects-unless : (is_left_out : Bool) (old middle new : HostState) → AreCollectedInTurn old middle
    → JoinsUnless is_left_out middle new → AreCollectedInTurn old new
collects-unless true old middle new so_far same =
    (so_far.0, subst (λ (host : HostState). CollectsAlong so_far.0 old host) (sym same) so_far.1)
collects-unless false old middle new so_far last =
    (so_far.0 ++ new ∷ [], collects-along-more so_far.0 old middle new so_far.1 last)
