use Rattle.std.proofs.Common.{◌≡◌, map, length}
use Rattle.cmd_svc.specs.Words.{after_options}
use Rattle.cmd_svc.proofs.words.after_options.Given as goal

abbrev pub invariant-loop-rest : goal.invariant-loop-rest
invariant-loop-rest l = after_options (map (λ word. word.now) l.rest)
    ≡ after_options (map (λ word. word.now) l.fn.words)

abbrev pub decreases-loop-rest : goal.decreases-loop-rest
decreases-loop-rest l = length l.rest
