-- Losses that are forgotten, one part after the other.
use Rattle.std.proofs.Common.{◌≡◌, ℕ, zero, suc, ◌<◌, ◌≤◌, List, [], ◌∷◌, length, map, refl, ap, arith}
use Rattle.std.proofs.Common.{slice_index_or, slice_set}
use Rattle.svc_host.specs.Parts.{HostPart, without_loss}

-- the parts, after the first of them, this many, have forgotten their losses
abbrev pub forgot_first : ℕ → List HostPart → List HostPart
forgot_first zero parts = parts
forgot_first (suc count) [] = []
forgot_first (suc count) (part ∷ parts) = without_loss part ∷ forgot_first count parts

pub forgot_past : (count : ℕ) (parts : List HostPart) → length parts ≤ count
    → forgot_first count parts ≡ map without_loss parts
forgot_past zero [] within = refl
forgot_past zero (part ∷ parts) within = absurd (omega (arith, within))
forgot_past (suc count) [] within = refl
forgot_past (suc count) (part ∷ parts) within =
    ap (λ l. without_loss part ∷ l) (forgot_past count parts (omega (arith, within)))

-- the next one
pub forgot_next : (count : ℕ) (parts : List HostPart) (d : HostPart) → count < length parts
    → slice_set (forgot_first count parts) count (without_loss (slice_index_or (forgot_first count parts) count d))
    ≡ forgot_first (suc count) parts
forgot_next zero [] d less = absurd (omega arith)
forgot_next zero (part ∷ parts) d less = refl
forgot_next (suc count) [] d less = absurd (omega arith)
forgot_next (suc count) (part ∷ parts) d less =
    ap (λ l. without_loss part ∷ l) (forgot_next count parts d (omega (arith, less)))
