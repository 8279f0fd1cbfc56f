use mathlib.Core.List.{IsPrefix}
use Rattle.svc_mail.specs.Ends.{IsSameReceiver}
use Rattle.svc_relay.specs.Whole.{bytes_put}
use Rattle.svc_host.proofs.pair.put_on.Given as goal

abbrev pub invariant-loop : goal.invariant-loop
invariant-loop g l =
    (goal.iterator-loop g).can_next l.iterator' × (goal.iterator-loop g).is_finite l.iterator'
    × IsSameReceiver l.fn.relay.receiver l.relay.receiver × IsPrefix (bytes_put l.fn.relay) (bytes_put l.relay)
