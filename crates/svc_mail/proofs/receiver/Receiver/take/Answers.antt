use Rattle.std.proofs.Common.{◌≡◌, [], ◌∷◌, length, length-append, true, ap, sym, subst, arith}
use Rattle.crossbeam_queue.specs.Passes.{view}
use Rattle.svc_mail.specs.History.{StartsWith}
use Rattle.svc_mail.proofs.Steps.{takes, looks}
use Rattle.svc_mail.proofs.Told.{found_empty}
use Rattle.svc_mail.proofs.receiver.Receiver.take.Goals as goal

pub pop_as-requires-clause-rule : goal.pop_as-requires-clause-rule
pop_as-requires-clause-rule g c =
    let may : (view c.args.self.now.mark).takes ≡ true = ap (λ v. v.takes) c.args.self.now.knows in
    (takes _ _ may, looks _ _ may)

pub returns-in-Some-pop_as-clause-same : goal.returns-in-Some-pop_as-clause-same
returns-in-Some-pop_as-clause-same g c =
    (c.in-Some-pop_as.ensures.queue.0, ap (λ v. v.all) c.in-Some-pop_as.ensures.rule.0)

pub returns-in-Some-pop_as-clause-taken : goal.returns-in-Some-pop_as-clause-taken
returns-in-Some-pop_as-clause-taken g c = ap (λ v. v.taken) c.in-Some-pop_as.ensures.rule.0

pub returns-in-Some-pop_as-clause-history : goal.returns-in-Some-pop_as-clause-history
returns-in-Some-pop_as-clause-history g c = (
  c.in-Some-pop_as.ensures.rule.1,
  c.in-Some-pop_as.ensures.rule.2,
  subst (StartsWith (view c.pop_as.new.pass).seen) (sym (ap (λ v. v.taken) c.in-Some-pop_as.ensures.rule.0))
      c.in-Some-pop_as.ensures.rule.3,
  c.in-Some-pop_as.ensures.rule.4,
)

pub returns-in-Some-pop_as-clause-heard : goal.returns-in-Some-pop_as-clause-heard
returns-in-Some-pop_as-clause-heard g c = ap (λ v. v.heard) c.in-Some-pop_as.ensures.rule.0

pub returns-in-Some-pop_as-clause-within : goal.returns-in-Some-pop_as-clause-within
returns-in-Some-pop_as-clause-within g c =
    let s = c.args.self.now in
    omega (
      arith,
      s.counted,
      ap (λ v. length v.taken) c.in-Some-pop_as.ensures.rule.0,
      length-append (view s.mark).taken (c.in-Some-pop_as.letter ∷ []),
    )

pub returns-in-None-pop_as-clause-same : goal.returns-in-None-pop_as-clause-same
returns-in-None-pop_as-clause-same g c =
    (c.in-None-pop_as.ensures.queue.0, ap (λ v. v.all) c.in-None-pop_as.ensures.rule.0)

pub returns-in-None-pop_as-clause-taken : goal.returns-in-None-pop_as-clause-taken
returns-in-None-pop_as-clause-taken g c = ap (λ v. v.taken) c.in-None-pop_as.ensures.rule.0

pub returns-in-None-pop_as-clause-history : goal.returns-in-None-pop_as-clause-history
returns-in-None-pop_as-clause-history g c = ap (λ v. v.seen) c.in-None-pop_as.ensures.rule.0

pub returns-in-None-pop_as-clause-empty : goal.returns-in-None-pop_as-clause-empty
returns-in-None-pop_as-clause-empty g c = found_empty (view c.args.self.now.mark) c.in-None-pop_as.ensures.rule.1

pub returns-in-None-pop_as-clause-heard : goal.returns-in-None-pop_as-clause-heard
returns-in-None-pop_as-clause-heard g c = ap (λ v. v.heard) c.in-None-pop_as.ensures.rule.0

pub returns-in-None-pop_as-clause-within : goal.returns-in-None-pop_as-clause-within
returns-in-None-pop_as-clause-within g c =
    let s = c.args.self.now in
    omega (arith, s.counted, s.within, ap (λ v. length v.taken) c.in-None-pop_as.ensures.rule.0)
