use Rattle.std.proofs.Common.{ap, ◌∙◌, append-nil}
use Rattle.svc_relay.specs.Whole.{bytes_put}
use Rattle.svc_host.proofs.pair.begin_life.Goals as goal

pub returns-in-Some-clause-bytes : goal.returns-in-Some-clause-bytes
returns-in-Some-clause-bytes g c = ap bytes_put c.replace.ensures.next ∙ append-nil (bytes_put c.args.relay.now)
