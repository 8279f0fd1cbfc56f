-- A known list was extended.
use Rattle.std.specs.Prelude.{◌≡◌, ⊤, List, ◌++◌, Option, Some, None}

-- The list was extended by these items, in order. If it was known before, it is known afterwards.
abbrev pub Extended : {A : Type 0} → (past now : Option (List A)) (more : List A) → Type 0
Extended None now more = ⊤
Extended (Some past) None more = ⊥
Extended (Some past) (Some now) more = now ≡ past ++ more
