use Rattle.std.proofs.Common.{◌≤◌, ◌-◌, ℕ, List, take, length}
use Rattle.mlog_files.specs.Store.{Stays}
use Rattle.mlog_line.specs.LineRouter.{Serves}
use Rattle.mlog_core.specs.Scene.{scene, IsIn, Went}
use Rattle.mlog_core.proofs.feed.feed_parts.Given as goal

abbrev pub invariant-loop-len : goal.invariant-loop-len
invariant-loop-len g l = record {
  went : (line : List ℕ)
      → IsIn l.script
      (scene l.fn.inside l.fn.router (g.S.LogStore.state l.fn.store) (g.C.TimeSource.readings l.fn.clock)) line
      → Went l.script (scene l.fn.inside l.fn.router (g.S.LogStore.state l.fn.store)
      (g.C.TimeSource.readings l.fn.clock))
      (scene l.label l.router (g.S.LogStore.state l.store) (g.C.TimeSource.readings l.clock)) line (take l.len l.bytes)
      l.begun;
  within : l.len ≤ length l.bytes;
  begun : l.begun ≤ l.len;
  serves : Serves l.script l.router (g.S.LogStore.state l.store);
  stays : Stays (g.S.LogStore.state l.fn.store) (g.S.LogStore.state l.store);
}

abbrev pub decreases-loop-len : goal.decreases-loop-len
decreases-loop-len g l = length l.bytes - l.len
