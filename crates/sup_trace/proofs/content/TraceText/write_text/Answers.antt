use Rattle.std.proofs.Common.{◌≡◌, IfOk, subst, sym}
use Rattle.std.specs.List.{AllByRecursion}
use Rattle.sup_core.specs.History.{Opened}
use Rattle.sup_core.specs.Rules.{IsEvent}
use Rattle.sup_core.proofs.Laws.{AreTaken-events}
use Rattle.sup_trace.specs.Content.{content_of}
use Rattle.sup_trace.specs.Text.{trace_text}
use Rattle.sup_trace.proofs.content.TraceText.write_text.Goals as goal

pub trace_text-requires-clause-events : goal.trace_text-requires-clause-events
trace_text-requires-clause-events g c =
    subst (AllByRecursion IsEvent) (sym c.deref.ensures.value)
    (AreTaken-events (Opened c.self.inside.base) c.self.inside.entries.items c.self.invariant.taken)

pub returns-clause-text : goal.returns-clause-text
returns-clause-text g c =
    subst (λ content. IfOk c.trace_text.result (λ bytes. bytes.items ≡ trace_text content)) c.self.view_is
    (subst (λ entries. IfOk c.trace_text.result (λ bytes. bytes.items
    ≡ trace_text (content_of c.self.inside.base c.self.inside.folded entries)))
    c.deref.ensures.value c.trace_text.ensures.text)
