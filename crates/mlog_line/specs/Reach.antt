-- At which logs lines are selected.
use Rattle.std.specs.Prelude.{◌≡◌, ◌≢◌, ⊤, ℕ, Bool, true, false, List, length, Result}
use Rattle.std.specs.List.{list_all, list_any}
use Rattle.mlog_files.specs.Store.{StoreState}
use Rattle.mlog_files.specs.declared.tail.Tail.{Tail}
use Rattle.mlog_files.specs.declared.tail.LogFault.{LogFault}
use Rattle.mlog_line.specs.Given.{to_first}
use Rattle.mlog_line.specs.Outputs.{HandsText}
use Rattle.mlog_line.specs.declared.line_router.Reach.{Reach}
use Rattle.mlog_line.specs.declared.line_router.Reach.TheVariants as code

-- These flags, one for each log, are all set, or none is.
abbrev pub Reaches : Reach → List Bool → Type 0
Reaches code.Everywhere flags = list_all (λ flag. flag) flags ≡ true
Reaches code.Nowhere flags = list_any (λ flag. flag) flags ≡ false
Reaches code.Somewhere flags = ⊤

-- how many logs the lines of a reach go to, if it is all or none
abbrev pub logs_in : Reach → ℕ → ℕ
logs_in code.Everywhere count = count
logs_in code.Nowhere count = 0
logs_in code.Somewhere count = 0

-- Lines of this reach go to all logs or to none.
abbrev pub AllOrNone : Reach → Type 0
AllOrNone reach = reach ≢ code.Somewhere

-- The outcomes of a call that gives bytes to all logs or to none.
abbrev pub HandsAlike : {T : Type 0} (result : Result T LogFault) (tails now : List Tail) (was is : StoreState)
    (bytes : List ℕ) (reach : Reach) → Type 0
HandsAlike result tails now was is bytes reach =
    HandsText result tails now was is bytes (to_first (logs_in reach (length tails)))
