use Rattle.std.proofs.Common.{◌≡◌, ◌∙◌, ap, ℕ, List, None, Some, map, refl, subst, take}
use Rattle.mlog_script.specs.Script.{fault_of}
use Rattle.mlog_script.proofs.Faults.{reported_at, passed_at}
use Rattle.mlog_script.proofs.check.check_words.Goals as goal

pub returns-in-Some-clause-reported : goal.returns-in-Some-clause-reported
returns-in-Some-clause-reported g c =
    let before = map g.W.AsSlice.items (take c.loop-place.place c.args.words.now) in
    rw (reported_at g.W.AsSlice.items c.args.words.now c.loop-place.place _ c.in-Some.kind c.loop-place-test.true
    c.loop-place.invariant
    (subst (λ (word : List ℕ). Some c.in-Some.kind ≡ fault_of before word)
    (c.as_slice.ensures ∙ ap g.W.AsSlice.items c.index-words-place.is) c.in-Some.ensures)) refl

pub loop-place-preserved : goal.loop-place-preserved
loop-place-preserved g c =
    let before = map g.W.AsSlice.items (take c.loop-place.place c.args.words.now) in
    passed_at g.W.AsSlice.items c.args.words.now c.loop-place.place _ c.loop-place-test.true c.loop-place.invariant
    (subst (λ (word : List ℕ). None ≡ fault_of before word)
    (c.as_slice.ensures ∙ ap g.W.AsSlice.items c.index-words-place.is) c.in_default.ensures)
