use Rattle.std.proofs.Common.{◌≡◌, ◌++◌, length, take, drop, subst, sym, ◌∙◌, refl, arith, ℕ}
use Rattle.mlog_files.specs.Files.{with_old}
use Rattle.mlog_files.proofs.Kept.{passed, found_place, last_place, reported_below}
use Rattle.mlog_files.proofs.memory.place_of.Goals as goal

pub loop-place-init : goal.loop-place-init
loop-place-init g c = λ old same. refl

pub returns-then-not-is_below-clause-place : goal.returns-then-not-is_below-clause-place
returns-then-not-is_below-clause-place g c = λ old same.
    found_place old c.args.olds.now c.loop-place.place c.index-olds-place.result c.loop-place-test.true
    (reported_below _ c.args.olds.now c.loop-place.place c.index-olds-place.result old c.name.result.now c.args.name.now
    c.index-olds-place.is c.name.ensures same
    (sym c.is_below.ensures ∙ c.if-not-is_below.true))
    (c.loop-place.invariant old same)

pub loop-place-preserved : goal.loop-place-preserved
loop-place-preserved g c = λ old same.
    passed old c.args.olds.now c.loop-place.place c.index-olds-place.result c.loop-place-test.true
    (reported_below _ c.args.olds.now c.loop-place.place c.index-olds-place.result old c.name.result.now c.args.name.now
    c.index-olds-place.is c.name.ensures same
    (sym c.is_below.ensures ∙ c.if-not-is_below.false))
    (c.loop-place.invariant old same)

pub returns-clause-place : goal.returns-clause-place
returns-clause-place g c = λ old same.
    let end : c.loop-place.place ≡ length c.args.olds.now = let a = c.loop-place-test.false in
    let b = c.loop-place.auto.place-end in omega (arith, a, b) in
    last_place old c.args.olds.now
    (subst (λ (n : ℕ). with_old old c.args.olds.now ≡ take n c.args.olds.now ++ with_old old (drop n c.args.olds.now))
    end (c.loop-place.invariant old same))
