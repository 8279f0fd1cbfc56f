use Rattle.std.proofs.Common.{◌≡◌, ◌∙◌, ap, ℕ, List, is_ok, rules, subst, sym, true}
use Rattle.mlog_script.specs.Script.{said}
use Rattle.mlog_script.proofs.Faults.{says_at, said_before}
use Rattle.mlog_script.proofs.read.add_all.Goals as goal

pub add-requires : goal.add-requires
add-requires g c =
    subst (λ (word : List ℕ). is_ok (said word) ≡ true)
    (sym (c.as_slice.ensures ∙ ap g.W.AsSlice.items c.index-words-place.is))
    (says_at g.W.AsSlice.items c.args.words.now c.loop-place.place _ c.loop-place-test.true c.requires.lawful)

pub returns-in-Err-clause-read : goal.returns-in-Err-clause-read
returns-in-Err-clause-read g c =
    c.in-Err.ensures.err (search rules) ∙ c.loop-place.invariant
    ∙ said_before g.W.AsSlice.items c.args.words.now c.loop-place.place
