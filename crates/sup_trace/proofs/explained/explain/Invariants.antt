use Rattle.std.proofs.Common.{◌≡◌, map, string_bytes, take}
use Rattle.sup_core.specs.History.{state_of}
use Rattle.sup_trace.specs.Explained.{before, explained}
use Rattle.sup_trace.proofs.explained.explain.Given as goal

-- the machine before the entry at this place, and the lines of the entries so far
abbrev pub invariant-loop-place : goal.invariant-loop-place
invariant-loop-place g l = record {
  machine : l.machine ≡ state_of (before l.content l.place);
  lines : map (λ line. string_bytes line) l.lines.items ≡ take l.place (explained l.content);
}
