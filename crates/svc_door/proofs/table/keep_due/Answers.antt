use Rattle.std.proofs.Common.{rules}
use Rattle.std.proofs.lemmas.Fn.{filter_same}
use Rattle.svc_door.proofs.table.keep_due.Goals as goal

pub returns-clause-due : goal.returns-clause-due
returns-clause-due c = filter_same _ _ _ (λ x b f' k. search rules) _ _ c.retain.ensures.filtered
