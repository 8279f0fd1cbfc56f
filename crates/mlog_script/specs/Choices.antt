-- Choices, as the code has them.
use Rattle.std.specs.Prelude.{◌≡◌, true, Bool, List}
use Rattle.std.specs.List.{list_all}

-- All flags of the alerts, the logs and the status files are set.
abbrev pub AreAllSet : (alerts logs files : List Bool) → Type 0
AreAllSet alerts logs files =
    (list_all (λ flag. flag) alerts ≡ true) × (list_all (λ flag. flag) logs ≡ true)
    × (list_all (λ flag. flag) files ≡ true)
