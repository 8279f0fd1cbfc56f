use Rattle.std.proofs.Common.{◌≡◌, ◌++◌, take}
use Rattle.std.specs.List.{flat_map}
use Rattle.cmd_report.specs.Metrics.{sample_lines}
use Rattle.cmd_report.proofs.metrics.push_samples.Given as goal

abbrev pub invariant-loop-sample : goal.invariant-loop-sample
invariant-loop-sample g l =
    l.out.items ≡ l.fn.out.items ++ flat_map (λ sample. sample_lines sample l.founds) (take l.sample-index l.samples)
