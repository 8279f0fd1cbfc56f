use Rattle.std.proofs.Common.{arith}
use Rattle.std.proofs.lemmas.Grind.{common_steps}
use Rattle.cmd_why.specs.Entries.{is_of}
use Rattle.cmd_why.proofs.Lasts.{last-next}
use Rattle.cmd_why.proofs.entries.last_of.Goals.{then-is_of, else-is_of}
use Rattle.cmd_why.proofs.entries.last_of.Goals as goal

pub loop-event-preserved : goal.loop-event-preserved
loop-event-preserved c =
    let next = last-next (is_of c.args.kind) c.args.entries.now c.loop-event.event-index c.event-item.result
    c.loop-event-test.true in
    elim c.if-is_of.branch [
      | then-is_of w ↦ grind (arith, common_steps, next, w.if-is_of, w.last-is, c.event-item.is, c.is_of.ensures)
      | else-is_of w ↦ grind (
        arith,
        common_steps,
        next,
        w.if-is_of,
        w.last-is,
        c.event-item.is,
        c.is_of.ensures,
        c.loop-event.invariant,
      )
    ]
