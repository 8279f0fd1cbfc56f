use Rattle.std.proofs.Common.{subst}
use Rattle.svc_relay.specs.Passing.{IsRelay}
use Rattle.svc_relay.proofs.Relayed.{relay_facts}
use Rattle.svc_relay.proofs.relay.Relay.earlier.Goals as goal

pub returns-clause-bytes : goal.returns-clause-bytes
returns-clause-bytes g c =
    subst (λ s. IsRelay s) c.self.view_is
    (relay_facts c.self.inside.receiver c.self.inside.earlier c.self.inside.here _ c.self.inside.put _ _
    c.self.invariant)
