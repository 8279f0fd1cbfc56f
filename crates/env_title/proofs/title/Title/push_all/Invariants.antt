use Rattle.std.proofs.Common.{◌≡◌, ◌++◌, length}
use Rattle.circular_buffer.specs.Buffer.{keep_last}
use Rattle.env_title.specs.Title.{without_nul}
use Rattle.env_title.proofs.title.Title.push_all.Given as goal

abbrev pub invariant-loop-at : goal.invariant-loop-at
invariant-loop-at g l = record {
  capacity : l.self-inside.items.capacity ≡ l.initial.self-inside.items.capacity;
  full : length l.self-inside.items.items ≡ l.self-inside.items.capacity;
  shown : keep_last l.self-inside.items.capacity (l.self-inside.items.items ++ without_nul l.rest)
      ≡ keep_last l.self-inside.items.capacity (l.initial.self-inside.items.items ++ without_nul l.fn.bytes);
}

abbrev pub decreases-loop-at : goal.decreases-loop-at
decreases-loop-at g l = length l.rest
