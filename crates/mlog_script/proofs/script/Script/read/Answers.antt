use Rattle.std.proofs.Common.{◌∙◌, sym, subst, ap, List, Ok}
use Rattle.std.specs.List.{list_any}
use Rattle.std.proofs.lemmas.Simd.{map-map}
use Rattle.mlog_script.specs.Script.{Act}
use Rattle.mlog_script.specs.Action.{act, AreQuiet}
use Rattle.std.proofs.Common.{map}
use Rattle.mlog_script.specs.Script.{is_stamp, is_pattern}
use Rattle.mlog_script.proofs.Limits.{actions_within}
use Rattle.mlog_script.proofs.Maps.{list_any-map}
use Rattle.mlog_script.proofs.script.Script.read.Goals as goal

pub returns-clause-ok : goal.returns-clause-ok
returns-clause-ok g c = c.in_ok-actions.ensures.ok
    ∙ sym (map-map (λ (action : Act). Ok action) act c.in_ok-actions.actions.items)

pub invariant_of-result : goal.invariant_of-result
invariant_of-result g c = (
  actions_within (map g.W.AsSlice.items c.args.words.now) (map act c.in_ok-actions.actions.items)
      (c.in_ok-actions.ensures.ok ∙ sym (map-map (λ (action : Act). Ok action) act c.in_ok-actions.actions.items)),
  c.any_stamp-stamps.ensures ∙ sym (list_any-map is_stamp act c.deref.result.now)
      ∙ ap (λ (acts : List _). list_any is_stamp (map act acts)) c.deref.ensures.value,
  c.any_pattern-has_patterns.ensures ∙ sym (list_any-map is_pattern act c.deref-2.result.now)
      ∙ ap (λ (acts : List _). list_any is_pattern (map act acts)) c.deref-2.ensures.value,
  subst (λ (actions : List _). AreQuiet c.quiet_front-quiet.result (map act actions)) c.deref-3.ensures.value
      c.quiet_front-quiet.ensures,
)
