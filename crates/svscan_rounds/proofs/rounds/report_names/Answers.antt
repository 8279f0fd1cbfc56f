use Rattle.std.proofs.Common.{rules, ◌≡◌, ◌+◌, ◌<◌, ℕ, List, [], ◌∷◌, ◌++◌, map, take, length, ap, sym, subst, ◌∙◌}
use Rattle.std.proofs.lemmas.List.{take_more, map-append}
use Rattle.tai_status.specs.Counted.{Reports}
use Rattle.svscan_rounds.specs.Rounds.{name_report, ReportsAll}
use Rattle.svscan_rounds.proofs.Reporting.{reports-then, reports-one}
use Rattle.svscan_rounds.proofs.rounds.report_names.Goals as goal

pub loop-name-preserved : goal.loop-name-preserved
loop-name-preserved g c =
    let names = c.args.names.now in
    let i = c.loop-name.name-index in
    let what = c.args.what.now in
    let old = c.args.faults.now in
    let middle = c.loop-name.faults in
    let new = c.report_parts.new.faults in
    let name = c.as_str.result.now in
    let within : i < length names = search rules in
    let text : c.as_bytes.result.now ≡ name = search rules in
    let reported : Reports middle new (name_report what name) =
    subst (λ (bytes : List ℕ). Reports middle new (name_report what bytes)) text c.report_parts.ensures.reported in
    let is : take (i + 1) names ≡ take i names ++ name ∷ [] =
    take_more names i c.name-item.result within
    ∙ ap (λ (n : List ℕ). take i names ++ n ∷ []) (sym (c.as_str.ensures ∙ c.name-item.is)) in
    let lines : map (name_report what) (take (i + 1) names) ≡ map (name_report what) (take i names)
    ++ name_report what name
    ∷ [] =
    ap (map (name_report what)) is ∙ map-append (name_report what) (take i names) (name ∷ []) in
    subst (λ (l : List (List ℕ)). ReportsAll l old new) (sym lines)
    (reports-then (map (name_report what) (take i names))
    (name_report what name ∷ []) old middle new c.loop-name.invariant
    (reports-one (name_report what name) middle new reported))
