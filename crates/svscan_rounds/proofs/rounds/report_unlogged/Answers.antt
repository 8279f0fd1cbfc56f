use Rattle.std.proofs.Common.{rules, ◌≡◌, ◌+◌, ◌<◌, ℕ, List, [], ◌∷◌, ◌++◌, map, take, length, ap, sym, subst, ◌∙◌}
use Rattle.std.proofs.lemmas.List.{take_more, map-append}
use Rattle.tai_status.specs.Counted.{Reports}
use Rattle.svscan_rounds.specs.declared.service_set.Unlogged.{Unlogged}
use Rattle.svscan_rounds.specs.Rounds.{name_report, unfinished, unlogged_report, ReportsAll}
use Rattle.svscan_rounds.proofs.Reporting.{reports-then, reports-one}
use Rattle.svscan_rounds.proofs.rounds.report_unlogged.Goals as goal

pub loop-unlogged-preserved : goal.loop-unlogged-preserved
loop-unlogged-preserved g c =
    let all = c.args.all.now in
    let i = c.loop-unlogged.unlogged-index in
    let old = c.args.faults.now in
    let middle = c.loop-unlogged.faults in
    let new = c.report_parts.new.faults in
    let item = c.unlogged-item.result in
    let within : i < length all = search rules in
    let text = c.as_bytes-in-loop-unlogged.result.now in
    let name : c.as_bytes.result.now ≡ item.name = search rules in
    let what : text ≡ unfinished item.what = search rules in
    let reported : Reports middle new (unlogged_report item) =
    subst (λ (t : List ℕ). Reports middle new (name_report t item.name)) what
    (subst (λ (n : List ℕ). Reports middle new (name_report text n)) name c.report_parts.ensures.reported) in
    let is : take (i + 1) all ≡ take i all ++ item ∷ [] = take_more all i item within
    ∙ ap (λ (u : Unlogged). take i all ++ u ∷ []) (sym c.unlogged-item.is) in
    let lines : map unlogged_report (take (i + 1) all) ≡ map unlogged_report (take i all) ++ unlogged_report item ∷ [] =
    ap (map unlogged_report) is ∙ map-append unlogged_report (take i all) (item ∷ []) in
    subst (λ (l : List (List ℕ)). ReportsAll l old new) (sym lines)
    (reports-then (map unlogged_report (take i all))
    (unlogged_report item ∷ []) old middle new c.loop-unlogged.invariant
    (reports-one (unlogged_report item) middle new reported))
