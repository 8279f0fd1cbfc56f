use Rattle.std.proofs.Common.{ap, ◌∙◌}
use Rattle.sup_core.specs.Reading.{fields, event_from}
use Rattle.sup_core.proofs.Lines.{event_from-event_text, event_text-event_from, IsEvent-event_from}
use Rattle.sup_core.proofs.reading.read_event.Goals as goal

pub returns-clause-found : goal.returns-clause-found
returns-clause-found c = event_text-event_from c.args.line.now c.parse_event.result c.parse_event.ensures

pub returns-clause-only : goal.returns-clause-only
returns-clause-only c = λ event range is.
    c.parse_event.ensures ∙ ap (λ line. event_from (fields line)) is ∙ event_from-event_text event range

pub returns-clause-event : goal.returns-clause-event
returns-clause-event c = IsEvent-event_from c.args.line.now c.parse_event.result c.parse_event.ensures
