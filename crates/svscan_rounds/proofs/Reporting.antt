-- Calls and lines, one after the other.
use Rattle.std.proofs.Common.{ℕ, List, [], ◌∷◌, ◌++◌, Option, Some, None, refl, sym, ap, ◌∙◌, subst, append_assoc}
use Rattle.std.proofs.Common.{append-nil}
use Rattle.tai_status.specs.Counted.{Device, Reports}
use Rattle.svscan_rounds.specs.Calls.{Call}
use Rattle.tai_status.specs.Extended.{Extended}
use Rattle.svscan_rounds.specs.Rounds.{ReportsAll}

-- calls after calls
pub extended-then : (a b c : Option (List Call)) (first rest : List Call) → Extended a b first → Extended b c rest
    → Extended a c (first ++ rest)
extended-then None b c first rest h k = tt
extended-then (Some a) None c first rest h k = absurd h
extended-then (Some a) (Some b) None first rest h k = absurd k
extended-then (Some a) (Some b) (Some c) first rest h k =
    k ∙ ap (λ (t : List Call). t ++ rest) h ∙ append_assoc a first rest

pub extended-none : (a : Option (List Call)) → Extended a a []
extended-none None = tt
extended-none (Some a) = sym (append-nil a)

-- lines after lines
pub reports-then : (first rest : List (List ℕ)) (a b c : Device) → ReportsAll first a b → ReportsAll rest b c
    → ReportsAll (first ++ rest) a c
reports-then [] rest a b c h k = subst (λ (d : Device). ReportsAll rest d c) h k
reports-then (line ∷ lines) rest a b c h k = (h.0, (h.1.0, reports-then lines rest h.0 b c h.1.1 k))

-- one line
pub reports-one : (line : List ℕ) (a b : Device) → Reports a b line → ReportsAll (line ∷ []) a b
reports-one line a b h = (b, (h, refl))
