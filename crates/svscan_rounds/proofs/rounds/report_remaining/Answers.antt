use Rattle.std.proofs.Common.{rules, ◌≡◌, ◌+◌, ◌<◌, ℕ, List, [], ◌∷◌, ◌++◌, map, take, length, ap, sym, subst, ◌∙◌}
use Rattle.std.proofs.lemmas.List.{take_more, map-append}
use Rattle.tai_status.specs.Counted.{Reports}
use Rattle.svscan_rounds.specs.declared.service_set.Remaining.{Remaining}
use Rattle.svscan_rounds.specs.Rounds.{name_report, still_runs, remaining_report, ReportsAll}
use Rattle.svscan_rounds.proofs.Reporting.{reports-then, reports-one}
use Rattle.svscan_rounds.proofs.rounds.report_remaining.Goals as goal

pub loop-remaining-preserved : goal.loop-remaining-preserved
loop-remaining-preserved g c =
    let all = c.args.all.now in
    let i = c.loop-remaining.remaining-index in
    let old = c.args.faults.now in
    let middle = c.loop-remaining.faults in
    let new = c.report_parts.new.faults in
    let item = c.remaining-item.result in
    let within : i < length all = search rules in
    let text = c.as_bytes-in-loop-remaining.result.now in
    let name : c.as_bytes.result.now ≡ item.name = search rules in
    let what : text ≡ still_runs item.pid = search rules in
    let reported : Reports middle new (remaining_report item) =
    subst (λ (t : List ℕ). Reports middle new (name_report t item.name)) what
    (subst (λ (n : List ℕ). Reports middle new (name_report text n)) name c.report_parts.ensures.reported) in
    let is : take (i + 1) all ≡ take i all ++ item ∷ [] = take_more all i item within
    ∙ ap (λ (u : Remaining). take i all ++ u ∷ []) (sym c.remaining-item.is) in
    let lines : map remaining_report (take (i + 1) all) ≡ map remaining_report (take i all)
    ++ remaining_report item ∷ [] =
    ap (map remaining_report) is ∙ map-append remaining_report (take i all) (item ∷ []) in
    subst (λ (l : List (List ℕ)). ReportsAll l old new) (sym lines)
    (reports-then (map remaining_report (take i all))
    (remaining_report item ∷ []) old middle new c.loop-remaining.invariant
    (reports-one (remaining_report item) middle new reported))
