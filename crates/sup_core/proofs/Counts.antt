-- How many records are asked for.
use Rattle.std.proofs.Common.{◌≡◌, ◌+◌, List, [], ◌∷◌, ◌++◌, ap, ◌∙◌, zero-add}
use Rattle.std.specs.Prelude.{if◌then◌else◌}
use Rattle.std.proofs.lemmas.List.Sums.{sum_by-append}
use Rattle.sup_core.specs.declared.asks.Ask.{Ask}
use Rattle.sup_core.specs.Asks.{is_write, count_of_writes}

-- one more ask
pub count_of_writes_push : (asks : List Ask) (ask : Ask)
    → count_of_writes (asks ++ ask ∷ []) ≡ count_of_writes asks + (if is_write ask then 1 else 0)
count_of_writes_push asks ask =
    sum_by-append (λ a. if is_write a then 1 else 0) asks (ask ∷ [])
    ∙ ap (λ n. count_of_writes asks + n) (zero-add (if is_write ask then 1 else 0))
