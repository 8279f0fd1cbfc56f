use Rattle.std.proofs.Common.{◌≡◌, ◌∷◌, ◌++◌, ◌+◌, ◌∙◌, ap, refl, add-one, drop, get_or, List}
use Rattle.std.proofs.Math.Seq.{drop-cons}
use Rattle.sup_core.specs.History.{Opened}
use Rattle.sup_core.specs.declared.event.Event.{Event}
use Rattle.cmd_why.specs.Timeline.{stretches, behind, ended_with, label_in, stepped}
use Rattle.cmd_why.proofs.Stretches.{entry-drawn}
use Rattle.cmd_why.proofs.timeline.stretches.Goals as goal

pub loop-event-preserved : goal.loop-event-preserved
loop-event-preserved g c =
    let entries = c.args.entries.now in
    let i = c.loop-event.event-index in
    let e = c.event-item.result in
    let now = c.args.now in
    let l = c.loop-event in
    let rest : drop i entries ≡ get_or entries i e ∷ drop (i + 1) entries =
    rw add-one (drop-cons entries i e c.loop-event-test.true) in
    let here : drop i entries ≡ e ∷ drop (i + 1) entries = cc (rest, c.event-item.is) in
    let state : c.step.new.self ≡ stepped l.machine e = c.step.ensures.state (Opened l.machine) refl in
    let more : c.behind-next.result ≡ behind now l.last (label_in e) c.step.new.self =
    cc (c.behind-next.ensures, c.label_in-label.ensures) in
    let grown : c.end_stretch.new.drawn.items ≡ l.drawn.items ++ ended_with now l.last (label_in e) =
    cc (c.in_ok-end_stretch.ensures, c.label_in-label.ensures) in
    l.invariant ∙ ap (λ (es : List Event). l.drawn.items ++ stretches now c.args.leads l.machine l.last es) here
    ∙ entry-drawn now c.args.leads l.machine c.step.new.self l.last c.behind-next.result e (drop (i + 1) entries)
    l.drawn.items
    c.end_stretch.new.drawn.items state more grown
