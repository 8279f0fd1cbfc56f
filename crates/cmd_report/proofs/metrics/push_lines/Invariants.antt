use Rattle.std.proofs.Common.{◌≡◌, ◌++◌, take}
use Rattle.std.specs.List.{flat_map}
use Rattle.cmd_report.specs.Metrics.{sample_line}
use Rattle.cmd_report.proofs.metrics.push_lines.Given as goal

abbrev pub invariant-loop-found : goal.invariant-loop-found
invariant-loop-found g l =
    l.out.items ≡ l.fn.out.items ++ flat_map (sample_line l.sample) (take l.found-index l.founds)
