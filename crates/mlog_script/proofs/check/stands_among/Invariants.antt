use Rattle.std.proofs.Common.{◌≡◌, length, map, bytes_eq}
use Rattle.std.specs.List.{list_any}
use Rattle.mlog_script.proofs.check.stands_among.Given as goal

abbrev pub invariant-loop-rest : goal.invariant-loop-rest
invariant-loop-rest g l =
    list_any (λ other. bytes_eq other l.word) (map g.W.AsSlice.items l.rest)
    ≡ list_any (λ other. bytes_eq other l.word) (map g.W.AsSlice.items l.words)

abbrev pub decreases-loop-rest : goal.decreases-loop-rest
decreases-loop-rest g l = length l.rest
