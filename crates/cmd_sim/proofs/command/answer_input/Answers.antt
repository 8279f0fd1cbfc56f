use Rattle.std.proofs.Common.{Err, ap, inl, refl}
use Rattle.cmd_base.specs.Console.{console}
use Rattle.cmd_sim.proofs.Steps.{ends_by}
use Rattle.cmd_sim.proofs.Headline.{all_run, headline_by}
use Rattle.cmd_sim.proofs.command.answer_input.Goals as goal

pub returns-in-Err : goal.returns-in-Err
returns-in-Err g c =
    let old = console c.args.reader.now c.args.writer.now c.args.faults.now in
    let new = console c.answer_lines.new.reader c.answer_lines.new.writer c.report_fault.new.faults in
    let ends = ends_by c.report_fault.result old new c.in-Err.fault
    c.report_fault.ensures.status c.report_fault.ensures.reported
    (λ line why e. (c.in-Err.ensures.refused line why (ap Err e), c.in-Err.ensures.refused_works line why (ap Err e)))
    (λ e. c.in-Err.ensures.memory (ap Err e)) (λ e. c.in-Err.ensures.read (ap Err e))
    (λ e. c.in-Err.ensures.write (ap Err e)) in
    record { ends = ends; headline = headline_by c.report_fault.result old new ends }

pub returns-in-Ok-clause-headline : goal.returns-in-Ok-clause-headline
returns-in-Ok-clause-headline g c =
    inl (
      refl,
      all_run c.args.reader.now.bytes c.args.writer.now.bytes c.answer_lines.new.writer.bytes
          c.in-Ok.ensures.all,
    )
