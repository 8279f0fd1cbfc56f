use Rattle.std.proofs.Common.{ℕ, ◌+◌, ◌-◌, ◌≤◌, List, inl, refl, sym, subst, arith}
use Rattle.std.specs.List.{slice_range}
use Rattle.std.proofs.lemmas.Grind.{common_steps}
use Rattle.tai_status.specs.Counted.{Gives, Wrote, WroteFront}
use Rattle.cmd_local.specs.Lines.{localised_line}
use Rattle.cmd_local.specs.Passing.{IsHeld, SoFar}
use Rattle.cmd_local.proofs.Runs.{SoFar-nothing, SoFar-then, SoFar-ends, SoFar-ends_failed, SoFar-failed, Gives-nothing}
use Rattle.cmd_local.proofs.Runs.{none_read, read_on, moved_front}
use Rattle.cmd_local.proofs.localising.localise_input.Goals as goal

pub reads-init : goal.reads-init
reads-init g c = (
  SoFar-nothing (g.Z.Zone.ahead_at c.args.zone.now) c.args.reader.now c.args.writer.now,
  inl refl,
  grind (arith, common_steps),
  c.new-last.ensures,
  refl,
  refl,
)

pub returns-in-Ok-write_rest-clause-fault : goal.returns-in-Ok-write_rest-clause-fault
returns-in-Ok-write_rest-clause-fault g c =
    let wrote = subst (λ (t : List ℕ).
    Wrote c.reads.writer c.write_rest.new.writer (localised_line (g.Z.Zone.ahead_at c.args.zone.now) t))
    c.in_default.ensures.front c.in-Ok-write_rest.ensures.ok in (
      grind (arith, common_steps),
      grind (arith, common_steps),
      SoFar-ends c.reads.invariant.0 c.reads.invariant.1
          (Gives-nothing c.reads.reader c.read_behind.new.reader c.in_default.ensures.kept) wrote,
    )

pub returns-in-Err-clause-fault : goal.returns-in-Err-clause-fault
returns-in-Err-clause-fault g c =
    let wrote = subst (λ (t : List ℕ).
    WroteFront c.reads.writer c.write_rest.new.writer (localised_line (g.Z.Zone.ahead_at c.args.zone.now) t))
    c.in_default.ensures.front c.in-Err.ensures.err in (
      grind (arith, common_steps),
      SoFar-ends_failed c.reads.invariant.0 c.reads.invariant.1
          (Gives-nothing c.reads.reader c.read_behind.new.reader c.in_default.ensures.kept) wrote,
    )

pub returns-in-Ok-write_rest-2-clause-done : goal.returns-in-Ok-write_rest-2-clause-done
returns-in-Ok-write_rest-2-clause-done g c =
    let wrote = subst (λ (t : List ℕ). Wrote c.reads.writer c.write_rest-then-count-eq0.new.writer
    (localised_line (g.Z.Zone.ahead_at c.args.zone.now) t))
    c.in-Ok.ensures.front c.in-Ok-write_rest-2.ensures.ok in
    SoFar-ends c.reads.invariant.0 c.reads.invariant.1
    (subst (λ (t : List ℕ). Gives c.reads.reader c.read_behind.new.reader t)
    (none_read c.read_behind.new.bytes c.reads.held c.in-Ok.count c.if-count-eq0.true) c.in-Ok.ensures.bytes) wrote

pub returns-in-Err-write_rest-clause-fault : goal.returns-in-Err-write_rest-clause-fault
returns-in-Err-write_rest-clause-fault g c =
    let wrote = subst (λ (t : List ℕ). WroteFront c.reads.writer c.write_rest-then-count-eq0.new.writer
    (localised_line (g.Z.Zone.ahead_at c.args.zone.now) t))
    c.in-Ok.ensures.front c.in-Err-write_rest.ensures.err in (
      grind (arith, common_steps),
      SoFar-ends_failed c.reads.invariant.0 c.reads.invariant.1
          (subst (λ (t : List ℕ). Gives c.reads.reader c.read_behind.new.reader t)
          (none_read c.read_behind.new.bytes c.reads.held c.in-Ok.count c.if-count-eq0.true) c.in-Ok.ensures.bytes)
          wrote,
    )

pub reads-preserved : goal.reads-preserved
reads-preserved g c =
    let ahead = g.Z.Zone.ahead_at c.args.zone.now in
    let bytes = c.read_behind.new.bytes in
    let end = c.reads.held + c.in-Ok.count in
    let below : c.in-Ok-write_lines.start ≤ end = grind (arith, common_steps) in
    let few : end - c.in-Ok-write_lines.start ≤ 25 = grind (arith, common_steps) in
    let next = moved_front c.move_to_front.new.bytes bytes c.in-Ok-write_lines.start end below
    c.move_to_front.ensures in
    let so = SoFar-then (slice_range bytes c.reads.held end) c.reads.invariant.0 c.in-Ok.ensures.bytes
    (read_on bytes c.reads.bytes c.reads.held c.in-Ok.count c.in-Ok.ensures.front) c.in-Ok-write_lines.ensures.ok in (
      subst (λ (t : List ℕ). SoFar ahead c.args.reader.now c.read_behind.new.reader c.args.writer.now
          c.write_lines.new.writer c.write_lines.new.inside t) (sym next) so,
      subst (λ (t : List ℕ). IsHeld c.write_lines.new.inside t) (sym next) c.in-Ok-write_lines.ensures.held,
      few,
      c.write_lines.ensures.kept,
      grind (arith, common_steps),
      grind (arith, common_steps),
    )

pub returns-in-Err-write_lines-clause-fault : goal.returns-in-Err-write_lines-clause-fault
returns-in-Err-write_lines-clause-fault g c = (
  grind (arith, common_steps),
  SoFar-failed (slice_range c.read_behind.new.bytes c.reads.held (c.reads.held + c.in-Ok.count)) c.reads.invariant.0
      c.in-Ok.ensures.bytes
      (read_on c.read_behind.new.bytes c.reads.bytes c.reads.held c.in-Ok.count c.in-Ok.ensures.front)
      c.in-Err-write_lines.ensures.err,
)
