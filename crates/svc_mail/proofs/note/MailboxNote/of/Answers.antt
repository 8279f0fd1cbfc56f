use Rattle.crossbeam_queue.specs.Passes.{view}
use Rattle.svc_mail.proofs.Steps.{tells}
use Rattle.svc_mail.proofs.note.MailboxNote.of.Goals as goal

pub another-requires-clause-rule : goal.another-requires-clause-rule
another-requires-clause-rule g c = tells _ (view c.args.mark.now)
