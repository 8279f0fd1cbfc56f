-- A line that a shell did not take.
use Rattle.std.proofs.Common.{◌≡◌, ℕ, Bool, true, false, List, [], ◌∷◌, ◌++◌, Option, Some, None, ap, ◌∙◌, append_assoc}
use Rattle.std.proofs.Common.{subst}
use Rattle.tai_status.specs.Extended.{Extended}
use Rattle.svc_system.specs.Shell.{ShellCall, Sent, Ended, Started, SendsLine}

extended-then : (a b c : Option (List ShellCall)) (first rest : List ShellCall) → Extended a b first
    → Extended b c rest → Extended a c (first ++ rest)
extended-then None b c first rest k l = tt
extended-then (Some xs) None c first rest k l = absurd k
extended-then (Some xs) (Some ys) None first rest k l = absurd l
extended-then (Some xs) (Some ys) (Some zs) first rest k l =
    l ∙ ap (λ (t : List ShellCall). t ++ rest) k ∙ append_assoc xs first rest

-- that shell was ended, and another one was started and sent the line
pub sends_anew : (line : List ℕ) (taken started taken_anew : Bool)
    (old reported ended begun new : Option (List ShellCall))
    → taken ≡ false → started ≡ true → Extended old reported (Sent line taken ∷ [])
    → Extended reported ended (Ended ∷ [])
    → Extended ended begun (Started started ∷ []) → Extended begun new (Sent line taken_anew ∷ [])
    → SendsLine line old new
sends_anew line taken started taken_anew old reported ended begun new not_taken is_started first end start last =
    record {
      taken = false;
      started = true;
      taken_anew = taken_anew;
      calls = extended-then old reported new (Sent line false ∷ []) _
          (subst (λ (t : Bool). Extended old reported (Sent line t ∷ [])) not_taken first)
          (extended-then reported ended new (Ended ∷ []) _ end
          (extended-then ended begun new (Started true ∷ []) _
          (subst (λ (s : Bool). Extended ended begun (Started s ∷ [])) is_started start) last));
    }
