use Rattle.std.proofs.Common.{sym, arith}
use Rattle.std.specs.Prelude.{◌==◌}
use Rattle.std.proofs.lemmas.List.Folds.{list_any_none}
use Rattle.svc_host.specs.declared.pair.Pair.{Pair}
use Rattle.svc_host.proofs.factory.has_pair.Goals as goal

pub returns : goal.returns
returns c =
    sym (list_any_none (λ (pair : Pair). pair.slot == c.args.slot) c.args.pairs.now
    (λ k d less. c.loop-pair.invariant k d (omega (arith, less, c.loop-pair-test.false))))
