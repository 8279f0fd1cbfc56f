-- How many processes of a service began and ended, and the line with these counts.
use Rattle.std.specs.Prelude.{◌≡◌, ◌<◌, ℕ, ◌+◌, ◌-◌, ◌^◌, min, List, [], ◌∷◌, ◌++◌, codes, decimal, Option, Some, None}
use Rattle.svc_record.specs.declared.counts.Counts.{Counts}

abbrev pub no_counts : Counts
no_counts = record { starts = 0; deaths = 0 }

-- one more; a count stops at its maximum
abbrev pub one_more : ℕ → ℕ
one_more count = min (count + 1) (2 ^ 64 - 1)

abbrev pub one_started : Counts → Counts
one_started counts = record counts { starts = one_more counts.starts }

abbrev pub one_ended : Counts → Counts
one_ended counts = record counts { deaths = one_more counts.deaths }

-- the line of counts
abbrev pub counts_text : Counts → List ℕ
counts_text counts = decimal counts.starts ++ codes " " ++ decimal counts.deaths ++ 10 ∷ []

-- Both counts fit their type.
pub record IsCounts (counts : Counts) : Type 0 where
  pub starts : counts.starts < 2 ^ 64
  pub deaths : counts.deaths < 2 ^ 64

-- what a line of counts says; None if it is not the line of any counts
abbrev pub IsCountsIn : (line : List ℕ) → Option Counts → Type 0
IsCountsIn line (Some counts) = line ≡ counts_text counts
IsCountsIn line None = (counts : Counts) → IsCounts counts → line ≡ counts_text counts → ⊥
