use Rattle.std.proofs.Common.{List, ℕ, map, ◌++◌, subst}
use Rattle.svscan_rounds.specs.declared.service_set.UnmadePart.{UnmadePart}
use Rattle.svscan_rounds.specs.declared.service_set.Untaken.{Untaken}
use Rattle.svscan_rounds.specs.Rounds.{
  name_report,
  too_many,
  unable_to_trace,
  unmade_report,
  untaken_report,
  ReportsAll,
}
use Rattle.svscan_rounds.proofs.Reporting.{reports-then}
use Rattle.svscan_rounds.proofs.rounds.report_out.Goals as goal

pub returns : goal.returns
returns g c =
    let out = c.args.out.now in
    let start = c.args.faults.now in
    let one = c.report_untaken.new.faults in
    let two = c.report_names.new.faults in
    let three = c.report_names-2.new.faults in
    let four = c.report_unmade.new.faults in
    let names = λ (what : List ℕ) (l : List (List ℕ)). map (name_report what) l in
    let first = subst (λ (l : List Untaken). ReportsAll (map untaken_report l) start one) c.deref.ensures.value
    c.report_untaken.ensures in
    let second = subst (λ (l : List (List ℕ)). ReportsAll (names unable_to_trace l) one two) c.as_slice.ensures
    c.report_names.ensures in
    let third = subst (λ (l : List (List ℕ)). ReportsAll (names too_many l) two three) c.as_slice-2.ensures
    c.report_names-2.ensures in
    let fourth = subst (λ (l : List UnmadePart). ReportsAll (map unmade_report l) three four) c.deref-2.ensures.value
    c.report_unmade.ensures in
    let last = map unmade_report out.unmade.items in
    reports-then (map untaken_report out.untaken.items) (names unable_to_trace out.untraced
    ++ (names too_many out.refused ++ last)) start one four first
    (reports-then (names unable_to_trace out.untraced) (names too_many out.refused ++ last) one two four second
    (reports-then (names too_many out.refused) last two three four third fourth))
