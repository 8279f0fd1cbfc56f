use Rattle.std.proofs.Common.{sym}
use Rattle.sup_trace.specs.Trace.{kept_of, history_of}
use Rattle.sup_trace.proofs.Laws.{taken-answered, held-answered, IsKeptUp-noted, IsKeptUp-held, noted-seen, held-seen}
use Rattle.sup_trace.proofs.Laws.{reply-seen}
use Rattle.sup_trace.proofs.trace.Trace.note.Goals as goal

pub keep-requires-clause-trace : goal.keep-requires-clause-trace
keep-requires-clause-trace g c = c.self.invariant.trace

pub keep-requires-clause-taken : goal.keep-requires-clause-taken
keep-requires-clause-taken g c =
    let kept = kept_of c.self.inside.base c.self.inside.entries c.self.inside.folded in
    taken-answered kept c.args.event c.self.inside.machine c.step-reply.result c.in-Took.field-0
    c.self.invariant.replayed
    c.step-reply.ensures.reply c.in-Took.is

pub invariant_of-self : goal.invariant_of-self
invariant_of-self g c =
    let kept = kept_of c.self.inside.base c.self.inside.entries c.self.inside.folded in
    let taken =
    taken-answered kept c.args.event c.self.inside.machine c.step-reply.result c.in-Took.field-0
    c.self.invariant.replayed
    c.step-reply.ensures.reply c.in-Took.is in
    let at =
    IsKeptUp-noted kept c.args.event c.step-reply.new.self c.self.invariant.trace c.requires taken
    (c.step-reply.ensures.state (history_of kept) (sym c.self.invariant.replayed)) in
    rw c.keep.ensures at

pub invariant_of-self-in_default : goal.invariant_of-self-in_default
invariant_of-self-in_default g c =
    let kept = kept_of c.self.inside.base c.self.inside.entries c.self.inside.folded in
    let held =
    held-answered kept c.args.event c.self.inside.machine c.step-reply.result c.self.invariant.replayed
    c.step-reply.ensures.reply
    c.in_default.is in
    IsKeptUp-held kept c.args.event c.step-reply.new.self c.self.invariant.trace held
    (c.step-reply.ensures.state (history_of kept) (sym c.self.invariant.replayed))

pub returns-in-Took-clause-reply : goal.returns-in-Took-clause-reply
returns-in-Took-clause-reply g c =
    reply-seen _ c.args.self.now c.args.event _ _ c.self.view_is c.self.invariant.replayed c.step-reply.ensures.reply

pub returns-in-Took-clause-kept : goal.returns-in-Took-clause-kept
returns-in-Took-clause-kept g c =
    let kept = kept_of c.self.inside.base c.self.inside.entries c.self.inside.folded in
    let taken =
    taken-answered kept c.args.event c.self.inside.machine c.step-reply.result c.in-Took.field-0
    c.self.invariant.replayed
    c.step-reply.ensures.reply c.in-Took.is in
    rw c.keep.ensures (noted-seen kept c.args.self.now c.args.event c.self.view_is taken)

pub returns-in_default-clause-reply : goal.returns-in_default-clause-reply
returns-in_default-clause-reply g c =
    reply-seen _ c.args.self.now c.args.event _ _ c.self.view_is c.self.invariant.replayed c.step-reply.ensures.reply

pub returns-in_default-clause-kept : goal.returns-in_default-clause-kept
returns-in_default-clause-kept g c =
    let kept = kept_of c.self.inside.base c.self.inside.entries c.self.inside.folded in
    let held =
    held-answered kept c.args.event c.self.inside.machine c.step-reply.result c.self.invariant.replayed
    c.step-reply.ensures.reply
    c.in_default.is in
    held-seen kept c.args.self.now c.args.event c.self.view_is held
