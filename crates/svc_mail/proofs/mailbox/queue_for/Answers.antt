use Rattle.svc_mail.proofs.Steps.{begins}
use Rattle.svc_mail.proofs.mailbox.queue_for.Goals as goal

pub ruled-requires-clause-rule : goal.ruled-requires-clause-rule
ruled-requires-clause-rule g c = begins
