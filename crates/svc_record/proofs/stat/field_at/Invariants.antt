use Rattle.std.proofs.Common.{◌≡◌, ◌-◌}
use Rattle.std.specs.Prelude.{slice_get}
use Rattle.sup_core.specs.Reading.{fields}
use Rattle.svc_record.proofs.stat.field_at.Given as goal

-- what is left still has the field
abbrev pub invariant-loop-passed : goal.invariant-loop-passed
invariant-loop-passed l =
    slice_get (fields l.behind) l.place ≡ slice_get (fields l.rest) (l.place - l.passed)
