use Rattle.std.proofs.Common.{◌≡◌, ◌+◌, ℕ, List, Err, subst, ap, ◌∙◌}
use Rattle.tai_status.specs.Counted.{Wrote, WroteFront}
use Rattle.tai_status.proofs.Known.{AppendsFront-more}
use Rattle.cmd_sim.specs.declared.fault.SimFault.TheVariants as fault
use Rattle.cmd_sim.specs.Sim.{said}
use Rattle.cmd_sim.specs.Progress.{text_said}
use Rattle.cmd_sim.proofs.session.Session.answer_line.Goals as goal

pub returns-in-Err-clause-refused : goal.returns-in-Err-clause-refused
returns-in-Err-clause-refused g c = λ number why is past stands.
    let same : c.give_up.result ≡ fault.Refused number why = cc is in
    c.in-Err.ensures.refused why (ap Err (c.give_up.ensures.refused number why same).1) past stands

pub returns-in-Err-clause-refused_wrote : goal.returns-in-Err-clause-refused_wrote
returns-in-Err-clause-refused_wrote g c = λ number why is.
    let same : c.give_up.result ≡ fault.Refused number why = cc is in (
      (c.give_up.ensures.refused number why same).0 ∙ ap (λ (n : ℕ). n + 1) c.in-Err.ensures.count,
      subst (λ (t : List ℕ). Wrote c.args.writer.now c.give_up.new.writer t) c.in-Err.ensures.waiting
          (c.give_up.ensures.refused_wrote number why same),
    )

pub returns-in-Err-clause-refused_works : goal.returns-in-Err-clause-refused_works
returns-in-Err-clause-refused_works g c = λ number why is.
    let same : c.give_up.result ≡ fault.Refused number why = cc is in c.give_up.ensures.refused_works number why same

pub returns-in-Err-clause-memory : goal.returns-in-Err-clause-memory
returns-in-Err-clause-memory g c = λ is.
    let same : c.give_up.result ≡ fault.OutOfMemory = cc is in
    c.in-Err.ensures.memory (ap Err (c.give_up.ensures.memory same).0)

pub returns-in-Err-clause-memory_wrote : goal.returns-in-Err-clause-memory_wrote
returns-in-Err-clause-memory_wrote g c = λ is.
    let same : c.give_up.result ≡ fault.OutOfMemory = cc is in
    subst (λ (t : List ℕ). Wrote c.args.writer.now c.give_up.new.writer t) c.in-Err.ensures.waiting
    (c.give_up.ensures.memory same).1

pub returns-in-Err-clause-write : goal.returns-in-Err-clause-write
returns-in-Err-clause-write g c = λ is past stands.
    let same : c.give_up.result ≡ fault.Write = cc is in
    AppendsFront-more (text_said (said past c.args.line.now))
    (subst (λ (t : List ℕ). WroteFront c.args.writer.now c.give_up.new.writer t) c.in-Err.ensures.waiting
    (c.give_up.ensures.write same).0)
