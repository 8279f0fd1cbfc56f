use Rattle.std.proofs.Common.{◌≡◌, List, ℕ, ◌++◌, take, drop}
use Rattle.cmd_svc.specs.Words.{first_unknown, without_earlier}
use Rattle.cmd_svc.proofs.order.OrderBytes.add_all.Given as goal

abbrev pub invariant-loop-letter : goal.invariant-loop-letter
invariant-loop-letter l =
    (first_unknown (drop l.letter-index l.letters) ≡ first_unknown l.letters)
    × ((before : List ℕ) → l.initial.self ≡ without_earlier before
    → l.self ≡ without_earlier (before ++ take l.letter-index l.letters))
