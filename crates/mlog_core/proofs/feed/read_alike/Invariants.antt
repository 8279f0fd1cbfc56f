use Rattle.std.proofs.Common.{◌≡◌, ◌≤◌, ◌-◌, take, length}
use Rattle.mlog_script.specs.Selection.{Fits}
use Rattle.mlog_core.specs.Scene.{AreAlike}
use Rattle.mlog_core.proofs.feed.read_alike.Given as goal

abbrev pub invariant-lines : goal.invariant-lines
invariant-lines g l = record {
  alike : AreAlike l.script l.lines.reach (g.C.TimeSource.readings l.fn.clock) (g.C.TimeSource.readings l.clock)
      (take l.lines.len l.bytes) l.lines.count;
  empty : l.lines.count ≡ 0 → l.lines.len ≡ 0;
  within : l.lines.len ≤ length l.bytes;
  few : l.lines.count ≤ l.lines.len;
  tails : l.router.tails ≡ l.fn.router.tails;
  fits : Fits l.router.chosen l.script;
}

abbrev pub decreases-lines : goal.decreases-lines
decreases-lines g l = length l.bytes - l.lines.len
