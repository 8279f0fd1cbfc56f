-- Pairs.
use Rattle.std.proofs.Common.{◌≡◌, Option, Some, ap}

-- two equal pairs have equal second parts
pub second-same : {A B : Type 0} (a c : A) (b d : B) → ◌≡◌ {A = Option (A × B)} (Some (a, b)) (Some (c, d)) → b ≡ d
second-same {A} {B} a c b d e = let p : ◌≡◌ {A = A × B} (a, b) (c, d) = cc (e) in ap (λ (q : A × B). q.1) p
