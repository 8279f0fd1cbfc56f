-- What svscan's end finds, one after the other.
use Rattle.std.proofs.Common.{◌≡◌, ◌≢◌, Bool, true, false, not, if◌then◌else◌, List, [], ◌∷◌, ◌++◌, map, filter, refl}
use Rattle.std.proofs.Common.{sym, ap, ◌∙◌, subst, ℕ, take, drop}
use Rattle.std.specs.List.{All}
use Rattle.std.proofs.lemmas.List.{map-append, take-append-drop}
use Rattle.std.proofs.lemmas.List.Elements.{All-nil, All-cons, All-head, All-tail, All-weaker, filter-append}
use mathlib.Core.List.{IsPrefix}
use Rattle.scan_table.specs.declared.part.PartId.{PartId}
use Rattle.svc_host.specs.Outputs.{CountsLost}
use Rattle.svc_host.specs.Parts.{AreHeard, HostPart, IsNowhere, IsReading, running_ids}
use Rattle.svc_host.specs.Rounds.{HostState}
use Rattle.cmd_svscan.specs.Leftovers.{AreRead, AreTaken, Lost, Reading}

-- one more reading
pub read-more : (read : List Reading) (old middle new : List HostPart) (one : Reading) → AreRead read old middle
    → AreHeard middle new → IsReading one.0 new one.1 → AreRead (read ++ one ∷ []) old new
read-more [] old middle new one so_far heard is =
    (new, subst (λ (parts : List HostPart). AreHeard parts new) so_far heard, is, refl)
read-more (first ∷ rest) old middle new one so_far heard is =
    (so_far.0, so_far.1, so_far.2, read-more rest so_far.0 middle new one so_far.3 heard is)

-- one more pair
pub taken-more : (lost : List Lost) (old middle new : HostState) (one : Lost) → AreTaken lost old middle
    → CountsLost one.0 one.1 middle new → AreTaken (lost ++ one ∷ []) old new
taken-more [] old middle new one so_far counts =
    (new, subst (λ (host : HostState). CountsLost one.0 one.1 host new) so_far counts, refl)
taken-more (first ∷ rest) old middle new one so_far counts =
    (so_far.0, so_far.1, taken-more rest so_far.0 middle new one so_far.2 counts)

-- The host has a part with this id.
abbrev pub IsSomewhere : List HostPart → PartId → Type 0
IsSomewhere parts id = IsNowhere id parts → ⊥

-- The host has the parts that run.
pub running-somewhere : (parts : List HostPart) → All (IsSomewhere parts) (running_ids parts)
running-somewhere [] = All-nil (IsSomewhere [])
running-somewhere (part ∷ parts) =
    let all = part ∷ parts in
    let rest : All (IsSomewhere all) (running_ids parts) =
    All-weaker (IsSomewhere parts) (IsSomewhere all)
    (λ id is nowhere. is (All-tail (λ (other : HostPart). other.id ≢ id) part parts nowhere)) (running_ids parts)
    (running-somewhere parts) in
    elim part.has_ended as (λ b. All (IsSomewhere all) (map (λ (other : HostPart). other.id)
    (if not b then part ∷ filter (λ (other : HostPart). not other.has_ended) parts
    else filter (λ (other : HostPart). not other.has_ended) parts))) [
      | true ↦ rest
      | false ↦ All-cons (IsSomewhere all) part.id (running_ids parts)
          (λ nowhere. All-head (λ (other : HostPart). other.id ≢ part.id) part parts nowhere refl) rest
    ]

-- A part that the host does not have was not there before.
was-nowhere : (id : PartId) (old new : List HostPart) → AreHeard old new → IsNowhere id new → IsNowhere id old
was-nowhere id [] new heard nowhere = All-nil (λ (part : HostPart). part.id ≢ id)
was-nowhere id (part ∷ parts) [] heard nowhere = absurd heard
was-nowhere id (part ∷ parts) (other ∷ others) heard nowhere =
    All-cons (λ (one : HostPart). one.id ≢ id) part parts
    (λ same. All-head (λ (one : HostPart). one.id ≢ id) other others nowhere (heard.0.goes_on.id ∙ same))
    (was-nowhere id parts others heard.1 (All-tail (λ (one : HostPart). one.id ≢ id) other others nowhere))

-- The host still has the parts that it had.
pub still-somewhere : (ids : List PartId) (old new : List HostPart) → AreHeard old new → All (IsSomewhere old) ids
    → All (IsSomewhere new) ids
still-somewhere ids old new heard were =
    All-weaker (IsSomewhere old) (IsSomewhere new) (λ id is nowhere. is (was-nowhere id old new heard nowhere)) ids
    were

-- those counted so far are the first of all of them
pub counted-so-far : {A B : Type 0} (f : A → B) (p : A → Bool) (xs : List A) (k : ℕ) (ys : List B)
    → ys ≡ map f (filter p (take k xs)) → IsPrefix ys (map f (filter p xs))
counted-so-far f p xs k ys is = (
  map f (filter p (drop k xs)),
  ap (λ l. l ++ map f (filter p (drop k xs))) is
      ∙ sym (map-append f (filter p (take k xs)) (filter p (drop k xs)))
      ∙ ap (map f) (sym (filter-append p (take k xs) (drop k xs)) ∙ ap (filter p) (take-append-drop k xs)),
)
