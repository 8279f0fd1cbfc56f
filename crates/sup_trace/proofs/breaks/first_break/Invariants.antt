use Rattle.std.proofs.Common.{◌≡◌, ℕ, ◌<◌}
use Rattle.sup_core.specs.History.{state_of}
use Rattle.sup_trace.specs.Breaks.{BreaksAt}
use Rattle.sup_trace.specs.Explained.{before}
use Rattle.sup_trace.proofs.breaks.first_break.Given as goal

-- the machine before the entry at this place, with no break before it
abbrev pub invariant-loop-place : goal.invariant-loop-place
invariant-loop-place g l = record {
  machine : l.machine ≡ state_of (before l.content l.place);
  none : (place : ℕ) → place < l.place → ¬ BreaksAt l.content l.at place;
}
