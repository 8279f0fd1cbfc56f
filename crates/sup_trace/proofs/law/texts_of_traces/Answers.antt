use Rattle.sup_trace.proofs.Heard.{content_from-found}
use Rattle.sup_trace.proofs.Whole.{content_from-only}
use Rattle.sup_trace.proofs.law.texts_of_traces.Goals as goal

pub returns-clause-read : goal.returns-clause-read
returns-clause-read c = content_from-only

pub returns-clause-content : goal.returns-clause-content
returns-clause-content c = content_from-found
