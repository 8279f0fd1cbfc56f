use Rattle.std.proofs.Common.{◌≡◌, ◌≤◌, ℕ, List, length}
use Rattle.std.specs.Prelude.{slice_get}
use Rattle.tai_status.specs.Lines.{Sent}
use Rattle.mlog_files.specs.Store.{Stays}
use Rattle.mlog_line.specs.Given.{to_first, bytes_of}
use Rattle.mlog_line.specs.Outputs.{outputs, Takes}
use Rattle.mlog_line.proofs.logs.put_all_within.Given as goal

abbrev pub invariant-loop-log : goal.invariant-loop-log
invariant-loop-log g l = record {
  takes : (text : List Sent) → bytes_of text ≡ l.bytes
      → Takes (outputs l.fn.tails.items (g.S.LogStore.state l.fn.store))
      (outputs l.tails.items (g.S.LogStore.state l.store)) (to_first l.log text);
  others : (n : ℕ) → l.log ≤ n → slice_get l.tails.items n ≡ slice_get l.fn.tails.items n;
  length : length l.tails.items ≡ length l.fn.tails.items;
  stays : Stays (g.S.LogStore.state l.fn.store) (g.S.LogStore.state l.store);
}
