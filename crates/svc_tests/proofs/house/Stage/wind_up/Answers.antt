use Rattle.std.proofs.Common.{◌≡◌, ap}
use Rattle.svc_tests.proofs.Pair.{two_senders, pushed_two}
use Rattle.svc_tests.proofs.house.Stage.wind_up.Goals as goal

pub wind_up_twice-writer-requires-clause-senders : goal.wind_up_twice-writer-requires-clause-senders
wind_up_twice-writer-requires-clause-senders g c =
    let self = c.args.self in
    let one = rw c.expect.ensures at c.push.ensures.items in
    let two = rw c.expect-2.ensures at c.push-2.ensures.items in
    two_senders self.mailbox _ self.first self.second (pushed_two _ _ _ self.first self.second self.no_senders one two)
    self.first_is.0 self.second_is.0 self.first_is.1 self.second_is.1 self.two
