use Rattle.std.proofs.Common.{ap, ◌∙◌}
use Rattle.sup_core.specs.History.{Opened, state_of}
use Rattle.sup_core.specs.Runs.{followed_by}
use Rattle.sup_trace.specs.Trace.{replay}
use Rattle.svc_station.proofs.Told.{shown_state}
use Rattle.svc_station.proofs.writer_state.WriterState.machine.Goals as goal

pub returns : goal.returns
returns c = let x = c.args.self.now.inner.desk.shown.value in c.state.ensures
    ∙ ap (λ s. replay s.trace) c.published.ensures ∙ shown_state x c.args.self.now.shown
    ∙ ap (λ f. state_of (followed_by (Opened x.opening) f.seen.log)) c.args.self.now.same
