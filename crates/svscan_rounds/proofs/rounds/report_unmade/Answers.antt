use Rattle.std.proofs.Common.{rules, ◌≡◌, ◌+◌, ◌<◌, ℕ, List, [], ◌∷◌, ◌++◌, map, take, length, ap, sym, subst, ◌∙◌}
use Rattle.std.proofs.lemmas.List.{take_more, map-append}
use Rattle.tai_status.specs.Counted.{Reports}
use Rattle.svscan_rounds.specs.declared.service_set.UnmadePart.{UnmadePart}
use Rattle.svscan_rounds.specs.Rounds.{name_report, not_made, unmade_report, ReportsAll}
use Rattle.svscan_rounds.proofs.Reporting.{reports-then, reports-one}
use Rattle.svscan_rounds.proofs.rounds.report_unmade.Goals as goal

pub loop-unmade-preserved : goal.loop-unmade-preserved
loop-unmade-preserved g c =
    let all = c.args.all.now in
    let i = c.loop-unmade.unmade-index in
    let old = c.args.faults.now in
    let middle = c.loop-unmade.faults in
    let new = c.report_parts.new.faults in
    let item = c.unmade-item.result in
    let within : i < length all = search rules in
    let text = c.as_bytes-in-loop-unmade.result.now in
    let name : c.as_bytes.result.now ≡ item.name = search rules in
    let what : text ≡ not_made item.fault = search rules in
    let reported : Reports middle new (unmade_report item) =
    subst (λ (t : List ℕ). Reports middle new (name_report t item.name)) what
    (subst (λ (n : List ℕ). Reports middle new (name_report text n)) name c.report_parts.ensures.reported) in
    let is : take (i + 1) all ≡ take i all ++ item ∷ [] = take_more all i item within
    ∙ ap (λ (u : UnmadePart). take i all ++ u ∷ []) (sym c.unmade-item.is) in
    let lines : map unmade_report (take (i + 1) all) ≡ map unmade_report (take i all) ++ unmade_report item ∷ [] =
    ap (map unmade_report) is ∙ map-append unmade_report (take i all) (item ∷ []) in
    subst (λ (l : List (List ℕ)). ReportsAll l old new) (sym lines)
    (reports-then (map unmade_report (take i all)) (unmade_report item ∷ []) old middle new c.loop-unmade.invariant
    (reports-one (unmade_report item) middle new reported))
