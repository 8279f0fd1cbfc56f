use Rattle.std.proofs.Common.{◌≡◌, ◌∙◌, ap, ap₂, subst, rules, map}
use Rattle.std.proofs.lemmas.Result.{IfOk-weaker}
use Rattle.clap.specs.Words.{App, FailsBy, app_of, fault_of, is_simple, matches_of, rule_of, with_rule}
use Rattle.clap.specs.Faults.{is_simple_and_free}
use Rattle.trace_words.specs.Words.{break_rule, file_rule, local_rule, trace_line}
use Rattle.trace_words.proofs.Line.{line-without_extras, trace_line-free, trace_line-simple}
use Rattle.trace_words.proofs.match_words.Goals as goal

-- the command that is matched has the command line of `trace`
line : (c : goal.After-try_get_matches_from) → app_of c.in_ok-arg-3.field-0 ≡ trace_line
line c =
    let file_is : rule_of c.action-file.result ≡ file_rule = search rules in
    let break_is : rule_of c.action-at.result ≡ break_rule = search rules in
    let local_is : rule_of c.action-local.result ≡ local_rule = search rules in
    let bare = line-without_extras c.new-4.result c.no_binary_name.result c.disable_help_flag.result
    c.disable_version_flag.result _
    c.new-4.ensures.app (search rules) (search rules) (search rules) in
    c.in_ok-arg-3.ensures.shape (search rules)
    ∙ ap₂ with_rule (c.in_ok-arg-2.ensures.shape (search rules)
    ∙ ap₂ with_rule (c.in_ok-arg.ensures.shape (search rules) ∙ ap₂ with_rule bare file_is) break_is) local_is

pub returns-clause-kinds : goal.returns-clause-kinds
returns-clause-kinds c =
    let parse = c.try_get_matches_from in
    subst (λ (a : App). FailsBy (fault_of a (map (λ word. word.now) c.args.words.now)) parse.result) (line c)
    (parse.ensures.kinds (ap is_simple_and_free (line c) ∙ trace_line-free))

pub returns-clause-matches : goal.returns-clause-matches
returns-clause-matches c =
    let parse = c.try_get_matches_from in
    IfOk-weaker parse.result _ _ (λ m h. (h (ap is_simple (line c) ∙ trace_line-simple)).0
    ∙ ap (λ (a : App). matches_of a (map (λ word. word.now) c.args.words.now)) (line c)) parse.ensures.matches
