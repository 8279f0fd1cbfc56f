use Rattle.std.proofs.Common.{◌∙◌, ap, decimal, string_bytes}
use Rattle.sup_core.specs.State.{State}
use Rattle.sup_core.specs.Text.{event_text}
use Rattle.sup_trace.specs.Explained.{answer_at}
use Rattle.sup_trace.proofs.Places.{answer-made, line-made}
use Rattle.sup_trace.proofs.explained.explained_line.Goals as goal

pub returns-clause-line : goal.returns-clause-line
returns-clause-line g c = λ past stands.
    let phase = c.phase.ensures ∙ ap (λ (s : State). s.phase) (c.step-reply.ensures.state past stands) in
    line-made (λ line. string_bytes line) c.format.result (decimal c.args.number) c.as_str.result.now
    c.as_str-2.result.now
    (event_text c.args.event.now) (answer_at past c.args.event.now) (c.as_str.ensures.value
    ∙ c.event_text-event.ensures.text)
    (c.as_str-2.ensures.value ∙ c.answer_text-answer.ensures
    ∙ answer-made past c.args.event.now c.step-reply.result c.phase.result (c.step-reply.ensures.reply past stands)
    phase)
    c.format.ensures.ok
