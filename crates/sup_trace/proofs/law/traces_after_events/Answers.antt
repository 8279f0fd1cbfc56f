use Rattle.sup_trace.proofs.After.{noted_along-new, replay-trace_after}
use Rattle.sup_trace.proofs.Laws.{noted-noted, noted_along-taken, replay-noted_along}
use Rattle.sup_trace.proofs.law.traces_after_events.Goals as goal

pub returns-clause-new : goal.returns-clause-new
returns-clause-new c = noted_along-new

pub returns-clause-any : goal.returns-clause-any
returns-clause-any c = noted_along-taken

pub returns-clause-in_two_goes : goal.returns-clause-in_two_goes
returns-clause-in_two_goes c = noted-noted

pub returns-clause-replays : goal.returns-clause-replays
returns-clause-replays c = replay-noted_along

pub returns-clause-replays_taken : goal.returns-clause-replays_taken
returns-clause-replays_taken c = replay-trace_after
