use Rattle.std.proofs.Common.{◌≡◌, map, take}
use Rattle.cmd_svc.proofs.words.copy_names.Given as goal

abbrev pub invariant-loop-word : goal.invariant-loop-word
invariant-loop-word g l = l.names.items ≡ map (λ word. word.now) (take l.word-index l.words)
