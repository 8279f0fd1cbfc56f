-- The two readers of a station, for the tests.
use Rattle.std.proofs.Common.{◌≡◌, ℕ, zero, suc, ◌<◌, List, [], ◌∷◌, ◌++◌, length, refl, sym, ap, subst, Some}
use Rattle.std.proofs.Common.{length-append, arith}
use Rattle.std.specs.Prelude.{slice_get, All}
use Rattle.svc_station.specs.declared.reader.Reader.{Reader}
use Rattle.svc_station.specs.declared.rule.Origin.{Origin}
use Rattle.svc_station.specs.Ends.{AreAllReaders, AreNewReaders, IsNewReader, number_of, reader_station}

pub all_two : (s : Origin) (rs : List Reader) (a b : Reader) → rs ≡ a ∷ b ∷ [] → (reader_station a ≡ s)
    × (number_of a ≡ 0)
    → (reader_station b ≡ s) × (number_of b ≡ 1) → s.readers ≡ 2 → AreAllReaders s rs
all_two s rs a b is first second n = subst (λ l. AreAllReaders s l) (sym is) (each, number)
  where
    each : All (λ r. reader_station r ≡ s) (a ∷ b ∷ [])
    each zero d lt = first.0
    each (suc zero) d lt = second.0
    each (suc (suc k)) d lt = absurd (omega arith)

    number : (k : ℕ) → k < s.readers → (i : ℕ) × (r : Reader) × (slice_get (a ∷ b ∷ []) i ≡ Some r) × (number_of r ≡ k)
    number zero lt = (0, a, refl, first.1)
    number (suc zero) lt = (1, b, refl, second.1)
    number (suc (suc k)) lt = absurd (omega arith)

-- the two that were opened, taken from the end
pub opened_two : (s : Origin) (rs l : List Reader) (a b : Reader) → length rs ≡ 2 → AreNewReaders s rs
    → rs ≡ (l ++ a ∷ []) ++ b ∷ []
    → IsNewReader s 0 a × IsNewReader s 1 b
opened_two s rs [] a b n h e = let h' = subst (AreNewReaders s) e h in (h' 0 a refl, h' 1 b refl)
opened_two s rs (x ∷ []) a b n h e = absurd (omega (arith, ap length e))
opened_two s rs (x ∷ y ∷ l) a b n h e = absurd (omega (arith, ap length e, length-append (l ++ a ∷ []) (b ∷ [])))
