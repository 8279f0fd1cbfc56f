use Rattle.std.proofs.Common.{rules}
use Rattle.std.proofs.lemmas.Fn.{filter_same}
use Rattle.svc_host.proofs.host.take_away.Goals as goal

pub returns-clause-parts : goal.returns-clause-parts
returns-clause-parts g c = filter_same _ _ _ (λ x b f' k. search rules) _ _ c.retain.ensures.filtered
