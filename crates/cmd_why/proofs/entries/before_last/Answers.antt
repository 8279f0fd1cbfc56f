use Rattle.std.proofs.Common.{arith}
use Rattle.std.proofs.lemmas.Grind.{common_steps}
use Rattle.cmd_why.specs.Entries.{is_of}
use Rattle.cmd_why.proofs.Lasts.{before-next}
use Rattle.cmd_why.proofs.entries.before_last.Goals.{then-is_of, else-is_of}
use Rattle.cmd_why.proofs.entries.before_last.Goals as goal

pub loop-place-preserved : goal.loop-place-preserved
loop-place-preserved c =
    let next = before-next (is_of c.args.kind) c.args.entries.now c.loop-place.place c.index-entries-place.result
    c.loop-place-test.true in
    elim c.if-is_of.branch [
      | then-is_of w ↦ grind (
        arith,
        common_steps,
        next,
        w.if-is_of,
        w.before-is,
        c.index-entries-place.is,
        c.is_of.ensures,
      )
      | else-is_of w ↦ grind (
        arith,
        common_steps,
        next,
        w.if-is_of,
        w.before-is,
        c.index-entries-place.is,
        c.is_of.ensures,
        c.loop-place.invariant,
      )
    ]
