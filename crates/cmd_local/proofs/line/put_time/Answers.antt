use Rattle.std.proofs.Common.{◌≡◌, ◌++◌, List, ℕ, OnOk, OnErr, subst, sym, ◌∙◌, arith}
use Rattle.tai_status.specs.Block.{Puts}
use Rattle.tai_status.specs.Counted.{WroteFront}
use Rattle.cmd_local.specs.Digits.{fraction}
use Rattle.cmd_local.proofs.Labels.{fraction_long}
use Rattle.cmd_local.proofs.line.put_time.Goals as goal

pub returns-else-nano-lt-NANOS-clause-ok : goal.returns-else-nano-lt-NANOS-clause-ok
returns-else-nano-lt-NANOS-clause-ok g c =
    let same : c.long_fraction.result ≡ fraction c.args.nano = c.long_fraction.ensures
    ∙ sym (fraction_long c.args.nano (grind (arith, c.if-nano-lt-NANOS.false))) in
    let put = c.put_both-else-nano-lt-NANOS in
    subst (λ (t : List ℕ).
    OnOk put.result (Puts c.args.writer.now put.new.writer c.args.block.now put.new.self (c.args.time.now ++ t)))
    same put.ensures.ok

pub returns-else-nano-lt-NANOS-clause-err : goal.returns-else-nano-lt-NANOS-clause-err
returns-else-nano-lt-NANOS-clause-err g c =
    let same : c.long_fraction.result ≡ fraction c.args.nano = c.long_fraction.ensures
    ∙ sym (fraction_long c.args.nano (grind (arith, c.if-nano-lt-NANOS.false))) in
    let put = c.put_both-else-nano-lt-NANOS in
    subst (λ (t : List ℕ).
    OnErr put.result (WroteFront c.args.writer.now put.new.writer (c.args.block.now ++ (c.args.time.now ++ t))))
    same put.ensures.err
