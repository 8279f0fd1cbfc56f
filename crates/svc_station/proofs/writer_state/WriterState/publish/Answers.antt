use Rattle.std.proofs.Common.{◌∷◌, ◌++◌, [], ap, sym, ◌∙◌}
use Rattle.sup_core.specs.History.{Opened}
use Rattle.sup_core.specs.Rules.{takes}
use Rattle.sup_core.specs.Runs.{followed_by}
use Rattle.sup_trace.specs.Trace.{history_of}
use Rattle.sup_trace.proofs.After.{takes-trace_after}
use Rattle.sup_trace.proofs.Taken.{IsEvent-is_event}
use Rattle.svc_station.proofs.writer_state.WriterState.publish.Goals as goal

pub show-requires-clause-pending : goal.show-requires-clause-pending
show-requires-clause-pending g c =
    let self = c.args.self in
    let event = c.args.event in
    let x = self.inner.desk.shown.value in
    let state = c.append.ensures.desk in
    let prefix = ap (λ d. d.shown.value.prefix) state ∙ self.same in
    let log = c.in-Ok.ensures.added self.prefix.seen.log self.owes in
    record {
      operation = c.of-operation.result;
      event = event;
      alone = c.in-Ok-append.ensures.pending ∙ ap (λ l. l ++ c.of-operation.result ∷ []) self.pending;
      adds = c.of-operation.ensures.event;
      ends = c.of-operation.ensures.prefix ∙ c.again.ensures;
      log = ap (λ f. f.seen.log) c.again-next.ensures ∙ log ∙ ap (λ f. f.seen.log ++ event ∷ []) (sym prefix);
      book = ap (λ f. f.seen.book) c.again-next.ensures ∙ c.in-Ok.ensures.book ∙ self.book
          ∙ ap (λ f. f.seen.book) (sym prefix);
      fit = IsEvent-is_event event c.requires.event;
      taken = ap (λ d. takes (history_of d.shown.value.trace) event) state
          ∙ ap (λ t. takes (history_of t) event) self.shown.0
          ∙ takes-trace_after x.opening x.trace.capacity x.prefix.seen.log event
          ∙ ap (λ f. takes (followed_by (Opened x.opening) f.seen.log) event) self.same
          ∙ c.requires.taken;
    }

pub of-operation-requires : goal.of-operation-requires
of-operation-requires g c = IsEvent-is_event c.args.event c.requires.event
