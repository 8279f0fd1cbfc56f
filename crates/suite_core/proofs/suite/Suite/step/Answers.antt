use Rattle.std.proofs.Common.{◌≡◌, ◌++◌, None, OnOk, Result, Ok, Err, sym, subst, ap, ◌∙◌}
use Rattle.std.proofs.lemmas.Result.{on_ok_weaker}
use Rattle.suite_lines.specs.declared.event.SuiteEvent.TheVariants.{Scan}
use Rattle.suite_core.specs.Places.{IsSuite}
use Rattle.suite_core.specs.Suite.{suite_after, outs_of, refusal}
use Rattle.suite_core.proofs.Runs.{one-own, one-leaves, one-replies}
use Rattle.suite_core.proofs.Begins.{one-begins}
use Rattle.suite_core.proofs.suite.Suite.step.Goals as goal

pub returns-in-Scan-clause-ok : goal.returns-in-Scan-clause-ok
returns-in-Scan-clause-ok g c =
    subst (λ e. OnOk c.take_scan.result (c.take_scan.new.self ≡ suite_after c.args.self.now e))
    (sym (c.in-Scan.is ∙ ap (λ rows. Scan rows c.in-Scan.label) (sym c.as_slice.ensures))) c.take_scan.ensures.ok

pub returns-in-Scan-clause-outs : goal.returns-in-Scan-clause-outs
returns-in-Scan-clause-outs g c =
    subst (λ e. OnOk c.take_scan.result (c.take_scan.new.out.items ≡ c.args.out.now.items ++ outs_of c.args.self.now e))
    (sym (c.in-Scan.is ∙ ap (λ rows. Scan rows c.in-Scan.label) (sym c.as_slice.ensures))) c.take_scan.ensures.outs

pub returns-in-Scan-clause-own : goal.returns-in-Scan-clause-own
returns-in-Scan-clause-own g c =
    on_ok_weaker c.take_scan.result
    (one-own c.args.self.now c.take_scan.new.self c.args.event.now (subst IsSuite c.self.view_is c.self.invariant)
    c.requires)
    (returns-in-Scan-clause-ok g c)

both : {T E P Q R : Type 0} (r : Result T E) → (P → Q → R) → OnOk r P → OnOk r Q → OnOk r R
both (Ok value) f p q = f p q
both (Err why) f p q = tt

pub returns-in-Scan-clause-others : goal.returns-in-Scan-clause-others
returns-in-Scan-clause-others g c =
    on_ok_weaker c.take_scan.result
    (one-leaves c.args.self.now c.take_scan.new.self c.args.event.now (subst IsSuite c.self.view_is c.self.invariant))
    (returns-in-Scan-clause-ok g c)

pub returns-in-Scan-clause-replies : goal.returns-in-Scan-clause-replies
returns-in-Scan-clause-replies g c = both c.take_scan.result (λ free goes id own kept this.
    let other = sym c.in-Scan.is ∙ this in cc other) c.take_scan.ensures.taken c.take_scan.ensures.outs

pub returns-in-Scan-clause-begins : goal.returns-in-Scan-clause-begins
returns-in-Scan-clause-begins g c =
    both c.take_scan.result
    (λ free goes. one-begins c.args.self.now c.take_scan.new.self c.args.event.now
    (subst IsSuite c.self.view_is c.self.invariant)
    (subst (λ e. refusal c.args.self.now e ≡ None)
    (sym (c.in-Scan.is ∙ ap (λ rows. Scan rows c.in-Scan.label) (sym c.as_slice.ensures))) free) goes)
    c.take_scan.ensures.taken (returns-in-Scan-clause-ok g c)

pub returns-in-At-clause-own : goal.returns-in-At-clause-own
returns-in-At-clause-own g c =
    on_ok_weaker c.take_at.result
    (λ goes. one-own c.args.self.now c.take_at.new.self c.args.event.now
    (subst IsSuite c.self.view_is c.self.invariant) c.requires
    (subst (λ e. c.take_at.new.self ≡ suite_after c.args.self.now e) (sym c.in-At.is) goes))
    c.take_at.ensures.ok

pub returns-in-At-clause-others : goal.returns-in-At-clause-others
returns-in-At-clause-others g c =
    on_ok_weaker c.take_at.result
    (λ goes. one-leaves c.args.self.now c.take_at.new.self c.args.event.now
    (subst IsSuite c.self.view_is c.self.invariant)
    (subst (λ e. c.take_at.new.self ≡ suite_after c.args.self.now e) (sym c.in-At.is) goes))
    c.take_at.ensures.ok

pub returns-in-At-clause-replies : goal.returns-in-At-clause-replies
returns-in-At-clause-replies g c =
    both c.take_at.result
    (λ free goes. one-replies c.args.self.now c.take_at.new.self c.args.event.now
    (subst IsSuite c.self.view_is c.self.invariant) c.args.out.now.items c.take_at.new.out.items
    (subst (λ e. refusal c.args.self.now e ≡ None) (sym c.in-At.is) free)
    (subst (λ e. c.take_at.new.out.items ≡ c.args.out.now.items ++ outs_of c.args.self.now e) (sym c.in-At.is) goes))
    c.take_at.ensures.taken c.take_at.ensures.outs

pub returns-in-At-clause-begins : goal.returns-in-At-clause-begins
returns-in-At-clause-begins g c =
    on_ok_weaker c.take_at.result (λ goes rows label this. let other = sym c.in-At.is ∙ this in cc other)
    c.take_at.ensures.ok
