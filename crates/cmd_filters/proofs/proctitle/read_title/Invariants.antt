use Rattle.std.proofs.Common.{◌≡◌, ◌-◌, ◌^◌}
use Rattle.cmd_filters.specs.Title.{ShowsRead}
use Rattle.cmd_filters.proofs.proctitle.read_title.Given as goal

abbrev pub invariant-reads : goal.invariant-reads
invariant-reads g l =
    ShowsRead l.fn.len l.fn.reader l.reader l.title
    × (l.reader.faults ≡ l.fn.reader.faults)

abbrev pub decreases-reads : goal.decreases-reads
decreases-reads g l = 2 ^ 48 - l.reader.reads
