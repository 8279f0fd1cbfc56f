use Rattle.std.proofs.Common.{◌≡◌, ◌+◌, ◌<◌, ◌≤◌, ◌^◌, length, take, drop, refl, ap, sym, ◌∙◌, subst, arith}
use Rattle.std.proofs.lemmas.List.{take_rest}
use Rattle.std.specs.Io.KnownBytes.{append_known}
use Rattle.svc_mail.specs.Ends.{taken_by}
use Rattle.svc_relay.specs.Passing.{IsRelayTurn, passing}
use Rattle.svc_relay.proofs.Joined.{in_range}
use Rattle.svc_relay.proofs.Relayed.{breaks, puts, puts_all, relay_facts}
use Rattle.svc_relay.proofs.relay.Relay.put.Goals.{then-broken, else-broken}
use Rattle.svc_relay.proofs.relay.Relay.put.Goals as goal

pub overflow_add-self-2 : goal.overflow_add-self-2
overflow_add-self-2 g c =
    let inside = c.self.inside in
    let receiver = inside.receiver in
    let count = c.put_all-count.result.0 in
    let part = take_rest c.as_slice.result.now inside.put ∙ ap (λ l. drop inside.put l) c.as_slice.ensures in
    let few : count ≤ length (drop inside.put inside.waiting) =
    omega (arith, c.put_all-count.ensures.within, ap length part) in
    let old = g.O.Outlet.bytes inside.outlet in
    let counted = puts receiver inside.earlier inside.here inside.waiting inside.put old
    (append_known old (take count (drop inside.put inside.waiting))) count few refl c.self.invariant in
    let letters : length (taken_by receiver) ≤ 2 ^ 62 = omega (arith, receiver.counted, receiver.within) in
    omega (arith, in_range (taken_by receiver) _ letters counted.within)

pub invariant_of-self : goal.invariant_of-self
invariant_of-self g c =
    let inside = c.self.inside in
    let count = c.put_all-count.result.0 in
    let part = take_rest c.as_slice.result.now inside.put ∙ ap (λ l. drop inside.put l) c.as_slice.ensures in
    let few : count ≤ length (drop inside.put inside.waiting) =
    omega (arith, c.put_all-count.ensures.within, ap length part) in
    let old = g.O.Outlet.bytes inside.outlet in
    puts inside.receiver inside.earlier inside.here inside.waiting inside.put old
    (g.O.Outlet.bytes c.put_all-count.new.outlet) count few
    (c.put_all-count.ensures.front ∙ ap (λ l. append_known old (take count l)) part) c.self.invariant

pub returns-clause-bytes : goal.returns-clause-bytes
returns-clause-bytes g c =
    let inside = c.self.inside in
    let count = c.put_all-count.result.0 in
    let part = take_rest c.as_slice.result.now inside.put ∙ ap (λ l. drop inside.put l) c.as_slice.ensures in
    let few : count ≤ length (drop inside.put inside.waiting) =
    omega (arith, c.put_all-count.ensures.within, ap length part) in
    let old = g.O.Outlet.bytes inside.outlet in
    let new = g.O.Outlet.bytes c.put_all-count.new.outlet in
    relay_facts inside.receiver inside.earlier (inside.here + count) inside.waiting (inside.put + count) new
    (g.O.Outlet.failures c.put_all-count.new.outlet)
    (puts inside.receiver inside.earlier inside.here inside.waiting inside.put old new count few
    (c.put_all-count.ensures.front ∙ ap (λ l. append_known old (take count l)) part) c.self.invariant)

pub returns-clause-turned : goal.returns-clause-turned
returns-clause-turned g c =
    let inside = c.self.inside in
    let receiver = inside.receiver in
    let earlier = inside.earlier in
    let here = inside.here in
    let waiting = inside.waiting in
    let at = inside.put in
    let count = c.put_all-count.result.0 in
    let part = take_rest c.as_slice.result.now at ∙ ap (λ l. drop at l) c.as_slice.ensures in
    let old = g.O.Outlet.bytes inside.outlet in
    let new = g.O.Outlet.bytes c.put_all-count.new.outlet in
    let extended = c.put_all-count.ensures.front ∙ ap (λ l. append_known old (take count l)) part in
    let failures = g.O.Outlet.failures inside.outlet in
    let failed = g.O.Outlet.failures c.put_all-count.new.outlet in
    let after = passing receiver earlier (here + count) waiting (at + count) new failed in
    subst (λ s. IsRelayTurn s c.if-broken.result after) c.self.view_is (elim c.if-broken.branch [
      | then-broken w ↦
          let part_put = c.put_all-count.ensures.broken w.if-broken.true in
          let less : count < length (drop at waiting) = omega (arith, part_put, ap length part) in
          subst (λ t. IsRelayTurn (passing receiver earlier here waiting at old failures) t after) (sym w.result-is)
          (breaks receiver earlier here waiting at old new failures failed count less
          (c.put_all-count.ensures.failed w.if-broken.true) extended c.self.invariant)
      | else-broken w ↦
          let all : count ≡ length (drop at waiting) = c.put_all-count.ensures.all w.if-broken.false ∙ ap length part in
          let some : 0 < length (drop at waiting) = omega (arith, c.requires, ap (λ s. length s.kept) c.self.view_is) in
          subst (λ t. IsRelayTurn (passing receiver earlier here waiting at old failures) t after) (sym w.result-is)
          (puts_all receiver earlier here waiting at old new failures failed count all some
          (c.put_all-count.ensures.works w.if-broken.false) extended c.self.invariant)
    ])
