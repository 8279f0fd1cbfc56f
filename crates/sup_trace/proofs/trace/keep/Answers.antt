use Rattle.std.proofs.Common.{◌+◌, arith, refl}
use Rattle.sup_core.specs.History.{Opened}
use Rattle.sup_trace.specs.Trace.{kept_of}
use Rattle.sup_trace.proofs.Laws.{noted-full}
use Rattle.sup_trace.proofs.trace.keep.Goals as goal

pub returns-then-folded-lt-LAST_COUNT : goal.returns-then-folded-lt-LAST_COUNT
returns-then-folded-lt-LAST_COUNT g c =
    let kept = kept_of c.args.base.now c.args.entries.now c.args.folded.now in
    rw c.push_back.ensures.items (noted-full kept c.args.event c.in-Some.oldest c.step.new.self (c.args.folded.now + 1)
    c.requires.trace c.requires.condition c.requires.taken
    c.in-Some.ensures.value (c.step.ensures.state (Opened c.args.base.now) refl) (omega arith))

pub returns-else-folded-lt-LAST_COUNT : goal.returns-else-folded-lt-LAST_COUNT
returns-else-folded-lt-LAST_COUNT g c =
    let kept = kept_of c.args.base.now c.args.entries.now c.args.folded.now in
    rw c.push_back.ensures.items
    (noted-full kept c.args.event c.in-Some.oldest c.step.new.self c.args.folded.now c.requires.trace
    c.requires.condition c.requires.taken
    c.in-Some.ensures.value (c.step.ensures.state (Opened c.args.base.now) refl)
    (omega (arith, c.requires.trace.count)))
