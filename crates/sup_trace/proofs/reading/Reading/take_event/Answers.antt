use Rattle.std.proofs.Common.{List, sym, ◌∙◌, ap, arith, refl}
use Rattle.sup_core.specs.declared.event.Event.{Event}
use Rattle.sup_trace.specs.Content.{content_of, replay_of}
use Rattle.sup_trace.proofs.Steps.{machine_takes, replay-stepped, entry_refused, entry_full, entry_held, entry_taken}
use Rattle.sup_trace.proofs.Steps.{adds_entry, kind_of-memory}
use Rattle.sup_trace.proofs.reading.Reading.take_event.Goals as goal

pub invariant_of-self : goal.invariant_of-self
invariant_of-self g c =
    c.self.invariant
    ∙ ap (λ (entries : List Event). replay_of (content_of c.self.inside.base c.self.inside.folded entries))
    (sym c.in-Err-push.ensures.items)

pub invariant_of-self-2 : goal.invariant_of-self-2
invariant_of-self-2 g c =
    let content = content_of c.self.inside.base c.self.inside.folded c.self.inside.entries.items in
    replay-stepped content c.self.inside.machine c.step.new.self c.in-Ok.event c.push.new.self.items c.self.invariant
    (machine_takes content _ _ _ c.self.invariant c.if-not-takes.ensures.taken) c.step.ensures.state
    c.in-Ok-push.ensures.items

pub returns-in-Err-clause-fault : goal.returns-in-Err-clause-fault
returns-in-Err-clause-fault g c =
    λ other. entry_refused c.args.self.now c.in-Err.fault c.kind_of.result _ c.in-Err.ensures.exact c.kind_of.ensures

pub returns-in-Err-clause-memory : goal.returns-in-Err-clause-memory
returns-in-Err-clause-memory g c = λ memory. absurd (kind_of-memory c.in-Err.fault (sym c.kind_of.ensures ∙ memory))

pub returns-then-len-ge-MAX_CAPACITY-clause-fault : goal.returns-then-len-ge-MAX_CAPACITY-clause-fault
returns-then-len-ge-MAX_CAPACITY-clause-fault g c = λ other.
    entry_full _ c.args.self.now c.in-Ok.event _ c.self.view_is c.in-Ok.ensures.exact (omega arith)

pub returns-then-not-takes-clause-fault : goal.returns-then-not-takes-clause-fault
returns-then-not-takes-clause-fault g c = λ other.
    entry_held _ c.args.self.now c.in-Ok.event _ c.self.view_is c.in-Ok.ensures.exact (omega arith)
    (machine_takes (content_of c.self.inside.base c.self.inside.folded c.self.inside.entries.items) _ _ _
    c.self.invariant
    c.if-not-takes.ensures.taken)

pub returns-in-Err-push-clause-fault : goal.returns-in-Err-push-clause-fault
returns-in-Err-push-clause-fault g c = λ other. absurd (other refl)

pub returns-in-Err-push-clause-memory : goal.returns-in-Err-push-clause-memory
returns-in-Err-push-clause-memory g c = λ memory.
    adds_entry _ c.args.self.now c.in-Ok.event _ c.self.view_is c.in-Ok.ensures.exact (omega arith)
    (machine_takes (content_of c.self.inside.base c.self.inside.folded c.self.inside.entries.items) _ _ _
    c.self.invariant
    c.if-not-takes.ensures.taken)

pub returns-clause-ok : goal.returns-clause-ok
returns-clause-ok g c =
    entry_taken _ c.args.self.now c.in-Ok.event _ c.push.new.self.items c.self.view_is c.in-Ok.ensures.exact
    (omega arith)
    (machine_takes (content_of c.self.inside.base c.self.inside.folded c.self.inside.entries.items) _ _ _
    c.self.invariant
    c.if-not-takes.ensures.taken)
    c.in-Ok-push.ensures.items
