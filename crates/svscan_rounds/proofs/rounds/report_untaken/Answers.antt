use Rattle.std.proofs.Common.{rules, ◌≡◌, ◌+◌, ◌<◌, ℕ, List, [], ◌∷◌, ◌++◌, map, take, length, ap, sym, subst, ◌∙◌}
use Rattle.std.proofs.lemmas.List.{take_more, map-append}
use Rattle.tai_status.specs.Counted.{Reports}
use Rattle.svscan_rounds.specs.declared.service_set.Untaken.{Untaken}
use Rattle.svscan_rounds.specs.Rounds.{name_report, not_taken, untaken_report, ReportsAll}
use Rattle.svscan_rounds.proofs.Reporting.{reports-then, reports-one}
use Rattle.svscan_rounds.proofs.rounds.report_untaken.Goals as goal

pub loop-untaken-preserved : goal.loop-untaken-preserved
loop-untaken-preserved g c =
    let all = c.args.all.now in
    let i = c.loop-untaken.untaken-index in
    let old = c.args.faults.now in
    let middle = c.loop-untaken.faults in
    let new = c.report_parts.new.faults in
    let item = c.untaken-item.result in
    let within : i < length all = search rules in
    let text = c.as_bytes-in-loop-untaken.result.now in
    let name : c.as_bytes.result.now ≡ item.name = search rules in
    let what : text ≡ not_taken item.count = search rules in
    let reported : Reports middle new (untaken_report item) =
    subst (λ (t : List ℕ). Reports middle new (name_report t item.name)) what
    (subst (λ (n : List ℕ). Reports middle new (name_report text n)) name c.report_parts.ensures.reported) in
    let is : take (i + 1) all ≡ take i all ++ item ∷ [] = take_more all i item within
    ∙ ap (λ (u : Untaken). take i all ++ u ∷ []) (sym c.untaken-item.is) in
    let lines : map untaken_report (take (i + 1) all) ≡ map untaken_report (take i all) ++ untaken_report item ∷ [] =
    ap (map untaken_report) is ∙ map-append untaken_report (take i all) (item ∷ []) in
    subst (λ (l : List (List ℕ)). ReportsAll l old new) (sym lines)
    (reports-then (map untaken_report (take i all)) (untaken_report item ∷ []) old middle new c.loop-untaken.invariant
    (reports-one (untaken_report item) middle new reported))
