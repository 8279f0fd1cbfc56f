use Rattle.std.proofs.Common.{length, ◌-◌, ◌≤◌, take}
use Rattle.mlog_files.specs.Tails.{SameLimits, Puts}
use Rattle.mlog_files.proofs.tail.Tail.put.Given as goal

abbrev pub invariant-loop-at : goal.invariant-loop-at
invariant-loop-at g l = record {
  puts : Puts (g.S.LogStore.state l.fn.store) (g.S.LogStore.state l.store) l.log l.fn.self l.self l.reading
      (take l.at l.bytes);
  within : l.at ≤ length l.bytes;
  same : SameLimits l.fn.self l.self;
}

abbrev pub decreases-loop-at : goal.decreases-loop-at
decreases-loop-at g l = length l.bytes - l.at
