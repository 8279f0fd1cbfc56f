use Rattle.std.proofs.Common.{◌≡◌, ◌+◌, drop, rules, ◌∙◌}
use Rattle.std.specs.Prelude.{Some}
use Rattle.env_title.specs.Faults.{first_fault, fault_at}
use Rattle.env_title.proofs.Faulty.{first-bad, reported}
use Rattle.env_title.proofs.Steps.{file_and_rest}
use Rattle.env_title.proofs.folder.check.Goals as goal

pub returns-in_err-check : goal.returns-in_err-check
returns-in_err-check c =
    let cut = file_and_rest c.args.files.now c.loop-place.place c.index-files-place.result c.loop-place-test.true
    c.index-files-place.is in
    let bad : fault_at c.loop-place.place c.index-files-place.result ≡ Some c.in_err-check.field-0.0 =
    reported _ c.check.result _ c.check.ensures c.in_err-check.was in
    let first : first_fault c.args.files.now ≡ Some c.in_err-check.field-0.0 =
    c.loop-place.invariant
    ∙ rw cut (first-bad c.loop-place.place c.index-files-place.result
    (drop (c.loop-place.place + 1) c.args.files.now) _ bad) in
    rw first (search rules)
