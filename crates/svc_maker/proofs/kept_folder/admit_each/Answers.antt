use Rattle.std.proofs.Common.{◌≡◌, ℕ, suc, ◌+◌, slice_set, subst, arith}
use Rattle.svc_maker.proofs.Admitting.{AdmitsFirst, admits-each, admits-next, as-many}
use Rattle.svc_maker.proofs.kept_folder.admit_each.Goals as goal

pub loop-place-preserved : goal.loop-place-preserved
loop-place-preserved g c =
    let old = c.args.kept.now in
    let new = slice_set c.loop-place.kept c.loop-place.place c.admit.new.self in
    let calls = g.S.PartSystem.calls c.args.system.now in
    let calls_now = g.S.PartSystem.calls c.loop-place.system in
    let calls_next = g.S.PartSystem.calls c.admit.new.system in
    let next : suc c.loop-place.place ≡ c.loop-place.place + 1 = omega arith in
    let admitted : AdmitsFirst (c.loop-place.place + 1) old new calls calls_next =
    subst (λ (n : ℕ). AdmitsFirst n old new calls calls_next) next
    (admits-next c.loop-place.place old c.loop-place.kept calls calls_now calls_next c.index-kept-place.result
    c.admit.new.self (omega (arith, c.loop-place-test.true)) c.loop-place.invariant.admitted
    c.admit.ensures) in
    record { admitted = admitted; count = as-many (c.loop-place.place + 1) old new calls calls_next admitted }

pub returns : goal.returns
returns g c =
    admits-each c.loop-place.place c.args.kept.now c.loop-place.kept (g.S.PartSystem.calls c.args.system.now)
    (g.S.PartSystem.calls c.loop-place.system) (omega (arith, c.loop-place-test.false, c.loop-place.invariant.count))
    c.loop-place.invariant.admitted
