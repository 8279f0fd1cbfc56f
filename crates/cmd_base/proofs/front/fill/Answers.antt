use Rattle.std.proofs.Common.{rules, length, ◌-◌, subst, sym}
use Rattle.std.specs.Io.KnownBytes.{Consumes}
use Rattle.tai_status.proofs.Stamped.{Consumes-then}
use Rattle.cmd_base.proofs.Fronts.{filled-more}
use Rattle.cmd_base.proofs.front.fill.Goals as goal

pub loop-filled-preserved : goal.loop-filled-preserved
loop-filled-preserved g c =
    let from = c.loop-filled.filled in
    let buffer = c.loop-filled.buffer in
    let more = filled-more from (length buffer - from) c.in_ok-count.count buffer c.read.new.buf
    c.loop-filled.invariant.1 c.in_ok-count.ensures.bound.0 in (
      search rules,
      search rules,
      subst (Consumes _ _) (sym more)
          (Consumes-then _ _ _ _ _ c.loop-filled.invariant.2 c.in_ok-count.ensures.bytes.0),
    )
