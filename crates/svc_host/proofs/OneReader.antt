-- The one reader of a station.
use Rattle.std.proofs.Common.{◌≡◌, ℕ, zero, suc, ◌<◌, List, [], ◌∷◌, ◌++◌, length, refl, sym, ap, ◌∙◌, subst, Some}
use Rattle.std.proofs.Common.{length-append, arith}
use Rattle.std.specs.Prelude.{slice_get, All}
use Rattle.svc_station.specs.declared.reader.Reader.{Reader}
use Rattle.svc_station.specs.declared.rule.Origin.{Origin}
use Rattle.svc_station.specs.Ends.{AreAllReaders, AreNewReaders, IsNewReader, number_of, reader_station}

pub all_one : (s : Origin) (rs none : List Reader) (a : Reader) → none ≡ [] → rs ≡ none ++ a ∷ [] → reader_station a ≡ s
    → number_of a ≡ 0
    → s.readers ≡ 1 → AreAllReaders s rs
all_one s rs none a empty pushed at first n =
    subst (λ l. AreAllReaders s l) (sym (pushed ∙ ap (λ l. l ++ a ∷ []) empty)) (each, number)
  where
    each : All (λ r. reader_station r ≡ s) (a ∷ [])
    each zero d lt = at
    each (suc k) d lt = absurd (omega arith)

    number : (k : ℕ) → k < s.readers → (i : ℕ) × (r : Reader) × (slice_get (a ∷ []) i ≡ Some r) × (number_of r ≡ k)
    number zero lt = (0, a, refl, first)
    number (suc k) lt = absurd (omega arith)

-- the one that was opened, taken off the end of the list, and what is left
pub opened_one : (s : Origin) (rs l : List Reader) (a : Reader) → length rs ≡ 1 → AreNewReaders s rs → rs ≡ l ++ a ∷ []
    → (l ≡ []) × IsNewReader s 0 a
opened_one s rs [] a n h e = let h' = subst (AreNewReaders s) e h in (refl, h' 0 a refl)
opened_one s rs (x ∷ l) a n h e = absurd (omega (arith, ap length e, length-append l (a ∷ [])))
