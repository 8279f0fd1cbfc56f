-- What a writer has, between two calls.
use Rattle.std.specs.Prelude.{◌≡◌, ℕ, List, []}
use Rattle.sup_core.specs.declared.event.Event.{Event}
use Rattle.sup_core.specs.State.{State}
use Rattle.sup_core.specs.History.{History, Opened}
use Rattle.sup_core.specs.Runs.{followed_by}
use Rattle.svc_station.specs.declared.writer_state.WriterState.{WriterState}
use Rattle.svc_station.specs.declared.rule.Origin.{Origin}
use Rattle.svc_station.specs.Shown.{origin_of}

abbrev pub state_station : WriterState → Origin
state_station state = origin_of state.inner.desk.shown.value

abbrev pub history_on : WriterState → History
history_on state = followed_by (Opened state.inner.desk.shown.value.opening) state.prefix.seen.log

-- all events that were added to the history
abbrev pub added_on : WriterState → List Event
added_on state = state.appender.prefix.seen.log

-- the same is shown
abbrev pub IsSameState : WriterState → WriterState → Type 0
IsSameState old new = (new.prefix ≡ old.prefix) × (new.inner.desk.shown.value ≡ old.inner.desk.shown.value)

-- nothing is published yet
pub record IsNewState (machine : State) (capacity count : ℕ) (state : WriterState) : Type 0 where
  pub opening : state.inner.desk.shown.value.opening ≡ machine
  pub room : state.inner.desk.shown.value.trace.capacity ≡ capacity
  pub readers : state.inner.desk.shown.value.readers ≡ count
  pub published : state.prefix.seen.log ≡ []
  pub added : added_on state ≡ []
