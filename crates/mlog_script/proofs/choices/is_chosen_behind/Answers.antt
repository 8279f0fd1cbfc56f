use Rattle.std.proofs.Common.{◌-◌, ◌∙◌, sym, ap, map, take, length, Option, Bool, List, ℕ}
use Rattle.std.specs.Prelude.{unwrap_or}
use Rattle.mlog_script.specs.Placed.{last_given}
use Rattle.mlog_script.specs.Selection.{decision}
use Rattle.mlog_script.specs.Action.{act}
use Rattle.mlog_script.proofs.Choosing.{chosen_back}
use Rattle.mlog_script.proofs.choices.is_chosen_behind.Goals as goal

pub returns-in-Some : goal.returns-in-Some
returns-in-Some g c =
    let rest = c.loop-rest.rest.now in
    let earlier : Bool = unwrap_or (last_given (decision c.args.front.now) (map act (take (length rest - 1) rest)))
    c.args.before in
    sym (ap (λ (o : Option Bool). unwrap_or o earlier) (sym c.decision.ensures ∙ c.in-Some.is))
    ∙ sym (chosen_back act c.args.front.now rest c.last-item.result c.args.before c.in-len1-up.len_at_least
    c.last-item.is) ∙ c.loop-rest.invariant

pub loop-rest-preserved : goal.loop-rest-preserved
loop-rest-preserved g c =
    let rest = c.loop-rest.rest.now in
    let earlier : Bool = unwrap_or (last_given (decision c.args.front.now) (map act (take (length rest - 1) rest)))
    c.args.before in
    sym (chosen_back act c.args.front.now rest c.last-item.result c.args.before c.in-len1-up.len_at_least c.last-item.is
    ∙ ap (λ (o : Option Bool). unwrap_or o earlier) (sym c.decision.ensures ∙ c.in_default-decision.is))
    ∙ c.loop-rest.invariant

pub returns-then-pays : goal.returns-then-pays
returns-then-pays g c =
    c.is_chosen_noted.ensures
    ∙ ap (λ (front : List ℕ). unwrap_or (last_given (decision front) (map act c.args.actions.now)) c.args.before)
    c.note.ensures
