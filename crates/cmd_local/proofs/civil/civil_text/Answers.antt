use Rattle.std.proofs.Common.{◌∙◌, ap, sym, subst, Some, arith, rules, FitsSigned, w16, w64}
use Rattle.std.proofs.lemmas.Int.{ints, to_z-of_z}
use Rattle.std.proofs.lemmas.Bool.{false≢true}
use Rattle.jiff_core.specs.Calendar.{IsEpochDay}
use Rattle.cmd_local.specs.Civil.{plain, time_text}
use Rattle.cmd_local.proofs.Dates.{civil_text-late, civil_text-early, civil_text-outside}
use Rattle.cmd_local.proofs.civil.civil_text.Goals as goal

pub returns-in_default : goal.returns-in_default
returns-in_default c =
    let fits : FitsSigned w64 c.args.second = search rules in
    let small : FitsSigned w64 c.div_euclid.result = search rules in
    let day = simp to_z-of_z at c.div_euclid.ensures in
    let only = simp to_z-of_z at c.in_default.ensures.succeeds.1 in
    sym (civil_text-outside c.args.second (λ is. false≢true (only (subst IsEpochDay (sym day) is))))

pub returns-then-date-lt1900 : goal.returns-then-date-lt1900
returns-then-date-lt1900 c =
    let fits : FitsSigned w64 c.args.second = search rules in
    let small : FitsSigned w64 c.div_euclid.result = search rules in
    let year : FitsSigned w16 c.in-Ok.date.year = search rules in
    let day = simp to_z-of_z at c.div_euclid.ensures in
    let is = simp to_z-of_z at c.in-Ok.ensures.value in
    sym (civil_text-early c.in-Ok.date c.args.second (is ∙ day) (grind (arith, ints, c.if-date-lt1900.true)))

pub returns : goal.returns
returns c =
    let fits : FitsSigned w64 c.args.second = search rules in
    let small : FitsSigned w64 c.div_euclid.result = search rules in
    let year : FitsSigned w16 c.in-Ok.date.year = search rules in
    let day = simp to_z-of_z at c.div_euclid.ensures in
    let is = simp to_z-of_z at c.in-Ok.ensures.value in
    let second = simp to_z-of_z at c.second_of_day.ensures in
    ap Some (c.date_time_text.ensures ∙ ap (time_text (plain c.in-Ok.date)) second)
    ∙ sym (civil_text-late c.in-Ok.date c.args.second (is ∙ day) (grind (arith, ints, c.if-date-lt1900.false)))
