use Rattle.std.proofs.Common.{◌≡◌, length}
use Rattle.mlog_files.specs.Store.{Stays}
use Rattle.mlog_line.specs.Given.{nothing}
use Rattle.mlog_line.specs.Outputs.{outputs, Takes}
use Rattle.mlog_line.specs.LineRouter.{IsWrittenUpTo}
use Rattle.mlog_line.proofs.logs.flush_all.Given as goal

abbrev pub invariant-loop-log : goal.invariant-loop-log
invariant-loop-log g l = record {
  takes : Takes (outputs l.fn.tails.items (g.S.LogStore.state l.fn.store))
      (outputs l.tails.items (g.S.LogStore.state l.store)) nothing;
  written : IsWrittenUpTo l.log l.tails.items;
  length : length l.tails.items ≡ length l.fn.tails.items;
  stays : Stays (g.S.LogStore.state l.fn.store) (g.S.LogStore.state l.store);
}
