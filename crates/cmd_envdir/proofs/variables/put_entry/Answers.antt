use Rattle.std.proofs.Common.{rules, ◌∙◌, subst}
use Rattle.std.proofs.lemmas.Str.Pattern.{IsSplitOnceResult}
use Rattle.cmd_envdir.proofs.Puts.{not_text, on_ok_map, split}
use Rattle.cmd_envdir.proofs.variables.put_entry.Goals as goal

pub returns-in_default : goal.returns-in_default
returns-in_default g c = not_text c.args.variables.now c.args.entry.now c.in_default.ensures.cases.0

pub returns-in_ok-from_str-in-Some-2 : goal.returns-in_ok-from_str-in-Some-2
returns-in_ok-from_str-in-Some-2 g c =
    let parts = subst (IsSplitOnceResult 61 c.in-Ok.text.now) c.in-Some.is c.split_once.ensures.cases in
    let so = split c.args.variables.now c.in-Ok.text.now c.args.entry.now _ _ c.in-Some.name c.in-Some.value
    c.in-Ok.ensures.cases.0 c.in-Ok.ensures.cases.1 parts (search rules) c.in_ok-from_str-in-Some.ensures.ok
    c.in_ok-from_str-in-Some-2.ensures.ok in
    on_ok_map c.put.result (λ is. is ∙ so) c.put.ensures.ok
