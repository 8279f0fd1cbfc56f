use Rattle.std.proofs.Common.{rules}
use Rattle.std.proofs.lemmas.Fn.{filter_same}
use Rattle.svc_maker.proofs.pipes.leave_pipes.Goals as goal

pub returns-clause-pipes : goal.returns-clause-pipes
returns-clause-pipes c = filter_same _ _ _ (λ x b f' k. search rules) _ _ c.retain.ensures.filtered
