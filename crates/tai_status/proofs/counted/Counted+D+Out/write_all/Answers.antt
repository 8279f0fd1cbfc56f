use Rattle.std.proofs.Common.{arith}
use Rattle.std.proofs.lemmas.Grind.{common_steps}
use Rattle.tai_status.proofs.Known.{Appends-further}
use Rattle.tai_status.proofs.counted.Counted+D+Out.write_all.Goals as goal

pub loop-at-preserved : goal.loop-at-preserved
loop-at-preserved g c =
    let kept = c.loop-at.invariant in (
      Appends-further c.args.self.now.bytes c.loop-at.self.bytes c.write.new.self.bytes c.args.piece.now c.loop-at.at
          c.in_ok-at.field-0 kept.0 c.in_ok-at.ensures.bytes,
      grind (arith, common_steps),
      grind (arith, common_steps),
      grind (arith, common_steps),
    )
