-- What the first bytes of a status file say.
use Rattle.std.proofs.Common.{◌≡◌, ◌≤◌, ◌<◌, ℕ, List, length, take, Err, sym, ap, ◌∙◌, ⊎_elim, arith}
use Rattle.std.proofs.lemmas.Bool.{cases_lt}
use Rattle.std.proofs.lemmas.Grind.{common_steps}
use Rattle.std.proofs.lemmas.List.{take_all, length-take-le}
use Rattle.tai_status.specs.Decoding.{status_from}
use Rattle.tai_status.specs.Loading.{loaded_from}
use Rattle.tai_status.specs.declared.record.RecordFault.TheVariants.{Length}

-- More bytes than the longer record has are no record.
too_long : (bytes : List ℕ) → 20 < length bytes → loaded_from bytes ≡ Err Length
unfolding loaded_from status_from
too_long bytes more = grind (arith, common_steps)

-- A prefix that may have more bytes than the longer record says what the whole file says.
pub front_gives : (n : ℕ) (file : List ℕ) → 20 < n → loaded_from (take n file) ≡ loaded_from file
front_gives n file more =
    let cut : n < length file → loaded_from (take n file) ≡ loaded_from file =
    λ (longer : n < length file). let size : length (take n file) ≡ n = length-take-le n file (omega arith) in
    too_long (take n file) (omega arith) ∙ sym (too_long file (omega arith)) in
    let whole : length file ≤ n → loaded_from (take n file) ≡ loaded_from file =
    λ (short : length file ≤ n). ap loaded_from (take_all n file short) in
    ⊎_elim cut whole (cases_lt n (length file))
