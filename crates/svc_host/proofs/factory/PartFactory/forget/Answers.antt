use Rattle.std.proofs.Common.{rules}
use Rattle.std.proofs.lemmas.Fn.{filter_same}
use Rattle.svc_host.proofs.factory.PartFactory.forget.Goals as goal

pub returns-clause-pairs : goal.returns-clause-pairs
returns-clause-pairs g c = filter_same _ _ _ (λ x b f' k. search rules) _ _ c.retain.ensures.filtered
