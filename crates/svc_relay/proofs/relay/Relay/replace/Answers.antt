use Rattle.std.proofs.Common.{◌+◌, ◌≤◌, ◌^◌, ◌∙◌, [], length, ap, drop, arith}
use Rattle.std.proofs.Math.Seq.{take-add}
use Rattle.svc_mail.specs.Ends.{taken_by}
use Rattle.svc_relay.specs.Pieces.{bytes_in}
use Rattle.svc_relay.specs.Passing.{next_life, passing}
use Rattle.svc_relay.proofs.Joined.{in_range}
use Rattle.svc_relay.proofs.relay.Relay.replace.Goals as goal

pub overflow_add-self : goal.overflow_add-self
overflow_add-self g c =
    let receiver = c.self.inside.receiver in
    let few : length (taken_by receiver) ≤ 2 ^ 62 = omega (arith, receiver.counted, receiver.within) in
    let small = in_range (taken_by receiver) _ few c.self.invariant.within in
    omega (arith, small)

pub returns-clause-next : goal.returns-clause-next
returns-clause-next g c =
    let inside = c.self.inside in
    let shown = g.O.Outlet.bytes c.args.outlet in
    let failures = g.O.Outlet.failures c.args.outlet in
    ap (λ o. passing inside.receiver (inside.earlier + inside.here) 0 inside.waiting inside.put (g.O.Outlet.bytes o)
    (g.O.Outlet.failures o)) c.replace.ensures.after
    ∙ ap (λ earlier. record {
      receiver = inside.receiver;
      earlier = earlier;
      here = [];
      kept = drop inside.put inside.waiting;
      shown = shown;
      failures = failures;
    }) (take-add inside.earlier inside.here (bytes_in (taken_by inside.receiver)))
    ∙ ap (λ s. next_life s shown failures) c.self.view_is
