-- What a part takes of its own events is what a suite makes of them.
use Rattle.std.proofs.Common.{◌≡◌, true, false, List, [], ◌∷◌, ◌++◌, refl, sym, subst, ap, ◌∙◌, append-nil, Some}
use Rattle.std.proofs.Common.{if◌then◌else◌}
use Rattle.sup_core.specs.declared.asks.Reply.TheVariants.{Took}
use Rattle.sup_core.specs.declared.event.Event.{Event}
use Rattle.tai_status.specs.declared.phase.Phase.{Phase}
use Rattle.tai_status.specs.declared.phase.Phase.TheVariants as phase
use Rattle.sup_core.specs.State.{State, is_gone}
use Rattle.sup_core.specs.History.{History, Opened, Then, phase_of, state_of}
use Rattle.sup_core.specs.Rules.{asks_of, reply_to, takes}
use Rattle.sup_core.specs.Runs.{AreTaken, followed_by}
use Rattle.sup_core.proofs.Laws.{AreTaken-events, next-state, next-taken, reply_to-state, takes-gone, taken_of-all}
use Rattle.sup_trace.specs.Trace.{Kept, history_of, new_trace, noted_along, noted_if_taken, replay, trace_after}
use Rattle.sup_trace.proofs.Laws.{replay-noted_if_taken}
use Rattle.sup_trace.proofs.After.{noted_along-new, replay-trace_after}
use Rattle.scan_table.specs.declared.part.PartId.{PartId}
use Rattle.scan_table.specs.Table.{after_end}
use Rattle.suite_lines.specs.declared.out.StepOut.{StepOut}
use Rattle.suite_lines.specs.declared.out.StepOut.TheVariants as out
use Rattle.suite_core.specs.Parts.{PartState, parts_after, trace_of}
use Rattle.suite_core.specs.Suite.{SuiteState, outs_at, suite_at}
use Rattle.suite_core.specs.Run.{outs_along, suite_along}
use Rattle.suite_core.proofs.Names.{is_part-self}
use Rattle.suite_core.proofs.Traces.{trace_of-after}
use Rattle.host_law.specs.Alike.{PartsPublishAlike, answers_along, at_part}

-- One event that a part takes

pub trace_there : (parts : List PartState) (part : PartId) (event : Event) (kept : Kept) → trace_of parts part ≡ Some kept
    → trace_of (parts_after part event parts) part ≡ Some (noted_if_taken kept event)
trace_there parts part event kept there =
    trace_of-after parts part part event ∙ rw (there, is_part-self part) refl

pub took : (past : History) (event : Event) → takes past event ≡ true → reply_to past event ≡ Took (asks_of past event)
took past event taken = rw taken refl

pub replays : (past : History) (kept : Kept) (event : Event) → replay kept ≡ state_of past → takes past event ≡ true
    → replay (noted_if_taken kept event) ≡ state_of (Then past event)
replays past kept event same taken =
    replay-noted_if_taken kept event ∙ next-state (history_of kept) past event same
    ∙ ap state_of (next-taken past event taken)

answered : {A : Type 0} (part : PartId) (past : History) (kept : Kept) (event : Event) → replay kept ≡ state_of past
    → takes past event ≡ true
    → outs_at {A = A} part event (Some kept) ≡ out.At part (Took (asks_of past event)) (phase_of (Then past event)) ∷ []
answered part past kept event same taken =
    let reply : reply_to (history_of kept) event ≡ Took (asks_of past event) =
    reply_to-state (history_of kept) past event same ∙ took past event taken in
    let state = ap (λ (s : State). s.phase) (replays past kept event same taken) in
    rw (reply, state) refl

-- If a part is gone, it takes nothing more.
pub is_gone-gone : (p : Phase) → is_gone p ≡ true → p ≡ phase.Gone
is_gone-gone phase.Gone is = refl
is_gone-gone phase.Starting is = cc is
is_gone-gone phase.Settling is = cc is
is_gone-gone phase.Resting is = cc is
is_gone-gone phase.Up is = cc is
is_gone-gone phase.Down is = cc is

pub nothing_more : (past : History) (events : List Event) → is_gone (phase_of past) ≡ true → AreTaken past events
    → events ≡ []
nothing_more past [] gone taken = refl
nothing_more past (event ∷ events) gone taken =
    let held : takes past event ≡ false = takes-gone past event (is_gone-gone (phase_of past) gone) in
    let is : takes past event ≡ true = taken.1 in
    absurd (cc (held, is))

-- Events one after another

record Along (A : Type 0) (suite : SuiteState) (part : PartId) (past : History) (kept : Kept)
    (events : List Event) : Type 0 where
  trace : trace_of (suite_along suite (at_part {A = A} part events)).parts part ≡ Some (noted_along kept events)
  answers : outs_along suite (at_part {A = A} part events) ≡ answers_along part past events
  table : (suite_along suite (at_part {A = A} part events)).table
      ≡ (if is_gone (phase_of (followed_by past events)) then after_end suite.table part else suite.table)

pub reported : (suite : SuiteState) (part : PartId) (past : History) (kept : Kept) (event : Event)
    → trace_of suite.parts part ≡ Some kept
    → replay kept ≡ state_of past → takes past event ≡ true
    → (suite_at suite part event).table
    ≡ (if is_gone (phase_of (Then past event)) then after_end suite.table part else suite.table)
reported suite part past kept event there same taken =
    let state = ap (λ (s : State). s.phase) (replays past kept event same taken) in
    rw there (rw state refl)

along : {A : Type 0} (suite : SuiteState) (part : PartId) (past : History) (kept : Kept) (events : List Event)
    → replay kept ≡ state_of past → is_gone (phase_of past) ≡ false → AreTaken past events
    → trace_of suite.parts part ≡ Some kept
    → Along A suite part past kept events
along suite part past kept [] same here taken there = record { trace = there; answers = refl; table = rw here refl }
along {A = A} suite part past kept (event ∷ events) same here taken there =
    let after = suite_at suite part event in
    let grown = noted_if_taken kept event in
    let trace : trace_of after.parts part ≡ Some grown = trace_there suite.parts part event kept there in
    let state = replays past kept event same taken.1 in
    let table = reported suite part past kept event there same taken.1 in
    let first : outs_at {A = A} part event (trace_of suite.parts part)
    ≡ out.At part (Took (asks_of past event)) (phase_of (Then past event)) ∷ [] =
    ap (outs_at {A = A} part event) there ∙ answered part past kept event same taken.1 in
    elim (is_gone (phase_of (Then past event))) as (λ gone. is_gone (phase_of (Then past event)) ≡ gone
    → Along A suite part past kept (event ∷ events)) [
      | true ↦ λ gone.
          let none = nothing_more (Then past event) events gone taken.2 in
          subst (λ (es : List Event). Along A suite part past kept (event ∷ es)) (sym none) (record {
            trace = trace;
            answers = append-nil (outs_at {A = A} part event (trace_of suite.parts part)) ∙ first;
            table = table;
          })
      | false ↦ λ gone.
          let rest = along {A = A} after part (Then past event) grown events state gone taken.2 trace in
          let as_before : after.table ≡ suite.table = table ∙ rw gone refl in
          record {
            trace = rest.trace;
            answers = ap (λ (outs : List (StepOut A)). outs ++ outs_along after (at_part {A = A} part events)) first
                ∙ ap (λ (outs : List (StepOut A)). out.At part (Took (asks_of past event)) (phase_of (Then past event))
                ∷ outs) rest.answers;
            table = rest.table ∙ rw as_before refl;
          }
    ] refl

pub publishes : {A : Type 0} → PartsPublishAlike A
publishes {A = A} suite part machine capacity events room limit here taken there =
    let past = Opened machine in
    let is = along {A = A} suite part past (new_trace machine capacity) events refl here taken there in
    let whole : noted_along (new_trace machine capacity) events ≡ trace_after machine capacity events =
    noted_along-new machine capacity events room limit (AreTaken-events past events taken)
    ∙ ap (trace_after machine capacity) (taken_of-all past events taken) in
    record {
      trace = is.trace ∙ ap Some whole;
      replays = replay-trace_after machine capacity events;
      answers = is.answers;
      table = is.table;
    }
