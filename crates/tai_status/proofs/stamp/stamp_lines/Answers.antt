use Rattle.std.proofs.Common.{List, ℕ, take, subst, arith}
use Rattle.std.specs.Io.KnownBytes.{Consumes}
use Rattle.std.proofs.lemmas.Grind.{common_steps}
use Rattle.tai_status.proofs.Stamped.{SoFar-all, SoFar-nothing, SoFar-unread, SoFar-then, SoFar-unwritten}
use Rattle.tai_status.proofs.stamp.stamp_lines.Goals as goal

pub returns-in-Err-clause-read : goal.returns-in-Err-clause-read
returns-in-Err-clause-read g c =
    λ is. (c.reads.lines, SoFar-all (SoFar-unread c.read.new.self c.reads.invariant.0 c.in-Err.ensures.bytes))

pub returns-then-count-eq0-clause-done : goal.returns-then-count-eq0-clause-done
returns-then-count-eq0-clause-done g c =
    let none = c.if-count-eq0.true in
    let bytes = c.in-Ok.ensures.bytes in
    SoFar-all (SoFar-nothing c.read.new.self c.reads.invariant.0
    (subst (λ (n : ℕ). Consumes c.reads.reader.bytes c.read.new.self.bytes (take n c.read.new.into)) none bytes.0))

pub reads-preserved : goal.reads-preserved
reads-preserved g c = (
  SoFar-then c.reads.invariant.0
      (subst (λ (t : List ℕ). Consumes c.reads.reader.bytes c.read.new.self.bytes t) (grind (arith, common_steps))
      c.in-Ok.ensures.bytes.0) c.in-Ok-stamp_block.ensures.ok
      c.in-Ok-stamp_block.ensures.inside c.in-Ok-stamp_block.ensures.count,
  grind (arith, common_steps),
  grind (arith, common_steps),
  grind (arith, common_steps),
  grind (arith, common_steps),
)

pub returns-in-Err-stamp_block-clause-write : goal.returns-in-Err-stamp_block-clause-write
returns-in-Err-stamp_block-clause-write g c = λ is.
    SoFar-unwritten c.reads.invariant.0
    (subst (λ (t : List ℕ). Consumes c.reads.reader.bytes c.read.new.self.bytes t) (grind (arith, common_steps))
    c.in-Ok.ensures.bytes.0) c.in-Err-stamp_block.ensures.err
