use Rattle.std.proofs.Common.{List, ℕ, take, subst, arith, refl, ◌∙◌}
use Rattle.std.specs.Io.KnownBytes.{Consumes}
use Rattle.std.proofs.lemmas.Grind.{common_steps}
use Rattle.mlog_core.proofs.Coming.{err_same, came_none, came_then, came_to_end, visible_block, visible_end}
use Rattle.mlog_files.proofs.Doing.{Stays-then}
use Rattle.mlog_core.proofs.Alike.{all_fed}
use Rattle.mlog_core.proofs.stream.run_lines.Goals as goal

pub reads-init : goal.reads-init
reads-init g c = record {
  came = came_none c.args.script.now _ (g.I.PartedInput.feed c.args.input.now).device refl;
  serves = c.requires.serves;
  written = c.requires.written;
  few = grind (arith, common_steps);
  faults = refl;
  reads = omega arith;
  behind = refl;
  stays = record { logs = refl; status_files = refl; asked = refl; steady = omega arith };
}

pub returns-in-Ok-feed_end-clause-runs : goal.returns-in-Ok-feed_end-clause-runs
returns-in-Ok-feed_end-clause-runs g c =
    record {
      done = came_to_end c.args.script.now _ _ _ (g.I.PartedInput.feed c.args.input.now).device
          (g.I.PartedInput.feed c.reads.input).device (g.I.PartedInput.feed c.read_part.new.self).device c.reads.lines
          refl c.reads.invariant.came
          (subst (λ (n : ℕ). Consumes (g.I.PartedInput.feed c.reads.input).device.bytes
          (g.I.PartedInput.feed c.read_part.new.self).device.bytes (take n c.read_part.new.into))
          c.if-count-eq0.true c.in-Ok.ensures.bytes.0) refl
          c.in-Ok-feed_end.ensures.ends.grows;
      came = λ is. cc;
      store = λ is. cc;
      spent = λ is. cc;
    }

pub returns-in-Err-feed_end-clause-runs : goal.returns-in-Err-feed_end-clause-runs
returns-in-Err-feed_end-clause-runs g c =
    let ended = subst (λ (n : ℕ). Consumes (g.I.PartedInput.feed c.reads.input).device.bytes
    (g.I.PartedInput.feed c.read_part.new.self).device.bytes (take n c.read_part.new.into)) c.if-count-eq0.true
    c.in-Ok.ensures.bytes.0 in
    record {
      done = tt;
      came = λ is. absurd (c.fault_of.ensures.other.0 (err_same _ _ is));
      store = λ is. visible_end c.args.script.now _ _ _ (g.I.PartedInput.feed c.args.input.now).device
          (g.I.PartedInput.feed c.reads.input).device (g.I.PartedInput.feed c.read_part.new.self).device c.reads.lines _
          _ (c.fault_of.ensures.only_store (err_same _ _ is)) refl
          c.reads.invariant.came ended refl c.in-Err-feed_end.ensures.ends.stopped;
      spent = λ is. visible_end c.args.script.now _ _ _ (g.I.PartedInput.feed c.args.input.now).device
          (g.I.PartedInput.feed c.reads.input).device (g.I.PartedInput.feed c.read_part.new.self).device c.reads.lines _
          _ (c.fault_of.ensures.only_spent (err_same _ _ is)) refl
          c.reads.invariant.came ended refl c.in-Err-feed_end.ensures.ends.stopped;
    }

pub reads-preserved : goal.reads-preserved
reads-preserved g c =
    let block = c.in-Ok-feed_block.ensures in
    let feeds = block.feeds in
    let begun = feeds.begun in
    let all = block.all in
    let before = c.reads.invariant in
    let few = before.few in
    let faults = before.faults in
    record {
      came = came_then c.args.script.now _ _ _ (g.I.PartedInput.feed c.args.input.now).device
          (g.I.PartedInput.feed c.reads.input).device (g.I.PartedInput.feed c.read_part.new.self).device c.reads.lines _
          _ before.came
          (subst (λ (t : List ℕ). Consumes (g.I.PartedInput.feed c.reads.input).device.bytes
          (g.I.PartedInput.feed c.read_part.new.self).device.bytes t) (grind (arith, common_steps))
          c.in-Ok.ensures.bytes.0)
          (all_fed c.args.script.now _ _ _ _ _ all feeds.went);
      serves = feeds.serves;
      written = block.written;
      few = grind (arith, common_steps, begun, all, few);
      faults = grind (arith, common_steps, faults);
      reads = let earlier = before.reads in grind (arith, common_steps, earlier);
      behind = c.read_part.ensures.behind ∙ before.behind;
      stays = Stays-then before.stays feeds.stays;
    }

pub returns-in-Err-feed_block-clause-runs : goal.returns-in-Err-feed_block-clause-runs
returns-in-Err-feed_block-clause-runs g c =
    let block = subst (λ (t : List ℕ). Consumes (g.I.PartedInput.feed c.reads.input).device.bytes
    (g.I.PartedInput.feed c.read_part.new.self).device.bytes t) (grind (arith, common_steps))
    c.in-Ok.ensures.bytes.0 in
    let why = c.fault_of-in-Err-feed_block.ensures in
    record {
      done = tt;
      came = λ is. absurd (why.other.0 (err_same _ _ is));
      store = λ is. visible_block c.args.script.now _ _ _ (g.I.PartedInput.feed c.args.input.now).device
          (g.I.PartedInput.feed c.reads.input).device (g.I.PartedInput.feed c.read_part.new.self).device c.reads.lines _
          _ _ (why.only_store (err_same _ _ is)) refl c.reads.invariant.came
          block c.in-Err-feed_block.ensures.feeds.stopped;
      spent = λ is. visible_block c.args.script.now _ _ _ (g.I.PartedInput.feed c.args.input.now).device
          (g.I.PartedInput.feed c.reads.input).device (g.I.PartedInput.feed c.read_part.new.self).device c.reads.lines _
          _ _ (why.only_spent (err_same _ _ is)) refl c.reads.invariant.came
          block c.in-Err-feed_block.ensures.feeds.stopped;
    }
