use Rattle.std.proofs.Common.{◌≡◌, ◌≤◌, [], length, take, drop, ap, sym, ◌∙◌, subst, arith}
use Rattle.svc_mail.specs.Ends.{taken_by, WasEmpty}
use Rattle.svc_relay.specs.Pieces.{bytes_in}
use Rattle.svc_relay.specs.Gathering.{Gathers}
use Rattle.svc_relay.proofs.Relayed.{drop_past, filled, relay_facts}
use Rattle.svc_relay.proofs.relay.Relay.refill.Goals as goal

pub returns-clause-none : goal.returns-clause-none
returns-clause-none g c nothing =
    let inside = c.self.inside in
    let had = c.fill.ensures.none nothing in
    let past : length inside.waiting ≤ inside.put =
    omega (arith, c.if-self-as_slice.false, ap length c.as_slice.ensures) in
    let none : drop inside.put inside.waiting ≡ [] = drop_past inside.put inside.waiting past in
    let gathers = subst (λ before. Gathers inside.receiver c.fill.new.receiver before c.fill.new.waiting)
    c.clear.ensures c.fill.ensures.bytes in (
      record {
        empty = subst (λ r. WasEmpty r) (ap (λ s. s.receiver) c.self.view_is) (c.fill.ensures.empty nothing);
        kept = (sym (ap (λ s. s.kept) c.self.view_is) ∙ none, had.0);
        taken = had.1 ∙ ap (λ s. taken_by s.receiver) c.self.view_is;
        here = ap (λ letters. take inside.here (drop inside.earlier (bytes_in letters))) had.1
            ∙ ap (λ s. s.here) c.self.view_is;
        outlet = (ap (λ s. s.shown) c.self.view_is, ap (λ s. s.failures) c.self.view_is);
      },
      relay_facts c.fill.new.receiver inside.earlier inside.here c.fill.new.waiting 0 (g.O.Outlet.bytes inside.outlet)
          (g.O.Outlet.failures inside.outlet)
          (filled inside.receiver c.fill.new.receiver inside.earlier inside.here inside.waiting c.fill.new.waiting
          inside.put (g.O.Outlet.bytes inside.outlet) none gathers c.self.invariant),
    )
