use Rattle.std.proofs.Common.{sym, ap, ◌∙◌}
use Rattle.sup_core.specs.Reading.{event_from}
use Rattle.sup_core.proofs.Lines.{unknown_word}
use Rattle.sup_core.proofs.reading.parse_event.Goals as goal

pub returns-in-None : goal.returns-in-None
returns-in-None c =
    let unknown = unknown_word c.split_field.result.0.now _ (λ known is. let e = c.in-None.ensures.only known is in
    cc e) in
    sym (ap event_from c.split_field.ensures ∙ unknown)
