use Rattle.std.proofs.Common.{◌∙◌, ap, rules, codes, inl, inr}
use Rattle.clap.specs.Words.{found_of, rows_of}
use Rattle.clap.proofs.WalkLemmas.{first_value-rows}
use Rattle.trace_words.specs.Words.{is_set}
use Rattle.trace_words.proofs.Requests.{asked-found, asked-refused, asked-without_file}
use Rattle.trace_words.proofs.parse_words.Goals as goal

-- src/lib.rt:38:19
pub returns-in-Err-2-clause-wrong : goal.returns-in-Err-2-clause-wrong
returns-in-Err-2-clause-wrong c _ =
    elim c.in-Err-2.ensures.kinds [
      | inl memory ↦ absurd (search rules)
      | inr among ↦ asked-refused _ _ among
    ]

-- src/lib.rt:34:1
pub returns-in-Some-clause-asked : goal.returns-in-Some-clause-asked
returns-in-Some-clause-asked c =
    let rows = rows_of (found_of c.in-Ok.matches) in
    let flag = c.get_str-in-Some-2.ensures ∙ first_value-rows (found_of c.in-Ok.matches) (codes "local") in
    asked-found _ rows _ _ _ c.in-Ok.ensures.kinds c.in-Ok.ensures.matches
    (c.in-Some.ensures ∙ first_value-rows (found_of c.in-Ok.matches) (codes "FILE"))
    (c.get_str-in-Some.ensures ∙ first_value-rows (found_of c.in-Ok.matches) (codes "break"))
    (c.is_set.ensures ∙ ap is_set flag)

-- src/lib.rt:31:1
pub returns-clause-wrong : goal.returns-clause-wrong
returns-clause-wrong c _ =
    asked-without_file _ (rows_of (found_of c.in-Ok.matches)) c.in-Ok.ensures.kinds c.in-Ok.ensures.matches
    (c.in-None.ensures ∙ first_value-rows (found_of c.in-Ok.matches) (codes "FILE"))
