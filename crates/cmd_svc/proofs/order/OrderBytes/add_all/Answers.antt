use Rattle.std.proofs.Common.{◌≡◌, ◌∙◌, get_or, true, rules}
use Rattle.sup_core.specs.Rules.{is_letter}
use Rattle.cmd_svc.proofs.Walk.{known_here, added_next}
use Rattle.cmd_svc.proofs.order.OrderBytes.add_all.Goals as goal

pub loop-letter-preserved : goal.loop-letter-preserved
loop-letter-preserved c =
    let known : is_letter (get_or c.args.letters.now c.loop-letter.letter-index 0) ≡ true = search rules in (
      known_here _ _ c.loop-letter-test.true known ∙ c.loop-letter.invariant.0,
      λ before e. added_next before _ _ _ _ c.loop-letter-test.true (c.loop-letter.invariant.1 before e) c.add.ensures,
    )
