use Rattle.std.proofs.Common.{◌≡◌, None, arith, sym}
use Rattle.sup_core.proofs.Spelling.{none_spelt}
use Rattle.sup_trace.specs.Reading.{folded_of_text}
use Rattle.sup_trace.proofs.Parts.{SpellsFolded, folded_of_text-found, folded_of_text-only}
use Rattle.sup_trace.proofs.base.read_folded.Goals as goal

pub returns-in_err-folded : goal.returns-in_err-folded
returns-in_err-folded c =
    let text = c.args.text.now in
    let none : None ≡ folded_of_text text =
    none_spelt (SpellsFolded text) _ (folded_of_text-found text) λ folded h.
    let limit = h.limit in
    let e = c.in_err-folded.ensures.only folded (omega (arith, limit)) h.is in
    cc e in
    cc none

pub returns-then-folded-le-LAST_COUNT : goal.returns-then-folded-le-LAST_COUNT
returns-then-folded-le-LAST_COUNT c =
    sym (folded_of_text-only c.args.text.now c.in_ok-folded.folded
    (record { limit = omega arith; is = c.in_ok-folded.ensures.found }))

pub returns-else-folded-le-LAST_COUNT : goal.returns-else-folded-le-LAST_COUNT
returns-else-folded-le-LAST_COUNT c =
    let text = c.args.text.now in
    none_spelt (SpellsFolded text) _ (folded_of_text-found text) λ folded h.
    let limit = h.limit in
    let e = c.in_ok-folded.ensures.only folded (omega (arith, limit)) h.is in
    let same : c.in_ok-folded.folded ≡ folded = cc e in
    omega (arith, same, limit)
