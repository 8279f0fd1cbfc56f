use Rattle.std.proofs.Common.{◌≡◌, map, drop, List, ℕ, ◌++◌}
use Rattle.cmd_svc.specs.Words.{first_unknown, without_earlier, option_letters}
use Rattle.cmd_svc.proofs.words.read_letters.Given as goal

abbrev pub invariant-loop-word : goal.invariant-loop-word
invariant-loop-word l =
    (first_unknown (option_letters (map (λ word. word.now) (drop l.word-index l.words)))
    ≡ first_unknown (option_letters (map (λ word. word.now) l.words)))
    × ((before : List ℕ) × (l.bytes ≡ without_earlier before)
    × (before ++ option_letters (map (λ word. word.now) (drop l.word-index l.words))
    ≡ option_letters (map (λ word. word.now) l.words)))
