use Rattle.std.proofs.Common.{◌-◌, length}
use Rattle.svc_mail.specs.Ends.{IsSameReceiver}
use Rattle.svc_relay.specs.Gathering.{Gathers}
use Rattle.svc_relay.proofs.relay.gather.Given as goal

abbrev pub invariant-loop-receiver : goal.invariant-loop-receiver
invariant-loop-receiver g l = IsSameReceiver l.fn.receiver l.receiver
    × Gathers l.fn.receiver l.receiver l.fn.waiting l.waiting

abbrev pub decreases-loop-receiver : goal.decreases-loop-receiver
decreases-loop-receiver g l = 32768 - length l.waiting
