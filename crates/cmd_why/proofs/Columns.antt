-- One more column.
use Rattle.std.proofs.Common.{◌≡◌, ℕ, ◌+◌, zero, suc, List, ◌++◌, arith}
use Rattle.std.specs.List.{flat_map, range_with_len}
use Rattle.std.proofs.lemmas.Grind.{common_steps}

signs-next : {X : Type 0} (f : ℕ → List X) (a n k : ℕ) → a + n ≡ k
    → flat_map f (range_with_len a (suc n)) ≡ flat_map f (range_with_len a n) ++ f k
signs-next f a zero k at = grind (arith, common_steps)
signs-next f a (suc n) k at =
    let rest = signs-next f (a + 1) n k (omega arith) in
    grind (arith, common_steps, rest)

pub signs_more : {X : Type 0} (f : ℕ → List X) (n : ℕ)
    → flat_map f (range_with_len 0 (n + 1)) ≡ flat_map f (range_with_len 0 n) ++ f n
signs_more f n = grind (arith, signs-next f 0 n n)
