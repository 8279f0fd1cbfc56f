use Rattle.std.proofs.Common.{◌≡◌, ◌++◌, take}
use Rattle.std.specs.List.{flat_map}
use Rattle.cmd_report.specs.Metrics.{label_byte}
use Rattle.cmd_report.proofs.metrics.push_label.Given as goal

abbrev pub invariant-loop-byte : goal.invariant-loop-byte
invariant-loop-byte g l =
    l.out.items ≡ l.fn.out.items ++ flat_map label_byte (take l.byte-index l.fn.text)
