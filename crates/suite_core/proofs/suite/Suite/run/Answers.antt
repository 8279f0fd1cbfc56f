use Rattle.std.proofs.Common.{◌≡◌, length, take, subst, arith}
use Rattle.suite_core.specs.Run.{AreAccepted}
use Rattle.suite_core.specs.Places.{IsSuite}
use Rattle.suite_core.proofs.Runs.{ran-more, by-own-events, leaves-others, replies-by-history}
use Rattle.suite_core.proofs.Begins.{begins-as-rows-say}
use Rattle.suite_core.proofs.suite.Suite.run.Goals as goal

pub loop-place-preserved : goal.loop-place-preserved
loop-place-preserved g c =
    ran-more c.args.self.now c.loop-place.self c.step.new.self c.args.out.now.items c.loop-place.out.items
    c.step.new.out.items c.args.events.now c.loop-place.place c.index-events-place.result
    c.loop-place.invariant c.loop-place-test.true c.index-events-place.is c.in_default.ensures.taken
    c.in_default.ensures.ok c.in_default.ensures.outs

pub returns-in-Err-clause-replies : goal.returns-in-Err-clause-replies
returns-in-Err-clause-replies g c =
    replies-by-history c.args.self.now c.args.events.now c.loop-place.place
    (subst IsSuite c.self.view_is c.self.invariant) c.requires c.loop-place.invariant.accepted

pub returns-in-Err-clause-own : goal.returns-in-Err-clause-own
returns-in-Err-clause-own g c =
    by-own-events c.args.self.now c.args.events.now c.loop-place.place (subst IsSuite c.self.view_is c.self.invariant)
    c.requires

pub returns-in-Err-clause-others : goal.returns-in-Err-clause-others
returns-in-Err-clause-others g c =
    leaves-others c.args.self.now c.args.events.now c.loop-place.place (subst IsSuite c.self.view_is c.self.invariant)
    c.requires

pub returns-clause-replies : goal.returns-clause-replies
returns-clause-replies g c =
    let all : c.loop-place.place ≡ length c.args.events.now = omega (arith, c.loop-place.invariant.within) in
    replies-by-history c.args.self.now c.args.events.now (length c.args.events.now)
    (subst IsSuite c.self.view_is c.self.invariant) c.requires
    (subst (λ n. AreAccepted c.args.self.now (take n c.args.events.now)) all c.loop-place.invariant.accepted)

pub returns-clause-own : goal.returns-clause-own
returns-clause-own g c =
    by-own-events c.args.self.now c.args.events.now (length c.args.events.now)
    (subst IsSuite c.self.view_is c.self.invariant) c.requires

pub returns-clause-others : goal.returns-clause-others
returns-clause-others g c =
    leaves-others c.args.self.now c.args.events.now (length c.args.events.now)
    (subst IsSuite c.self.view_is c.self.invariant) c.requires

pub returns-in-Err-clause-begins : goal.returns-in-Err-clause-begins
returns-in-Err-clause-begins g c =
    begins-as-rows-say c.args.self.now c.args.events.now c.loop-place.place
    (subst IsSuite c.self.view_is c.self.invariant) c.requires c.loop-place.invariant.accepted

pub returns-clause-begins : goal.returns-clause-begins
returns-clause-begins g c =
    let all : c.loop-place.place ≡ length c.args.events.now = omega (arith, c.loop-place.invariant.within) in
    begins-as-rows-say c.args.self.now c.args.events.now (length c.args.events.now)
    (subst IsSuite c.self.view_is c.self.invariant) c.requires
    (subst (λ n. AreAccepted c.args.self.now (take n c.args.events.now)) all c.loop-place.invariant.accepted)
