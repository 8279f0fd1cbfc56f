use Rattle.std.proofs.Common.{◌≡◌, ◌++◌, IfSome, ap, sym, ◌∙◌, subst}
use Rattle.svc_station.specs.Ends.{published, history_of}
use Rattle.svc_house.specs.declared.pending.Pending.{Pending}
use Rattle.svc_house.specs.declared.pending.Pending.TheVariants as variant
use Rattle.svc_house.specs.Calls.{bytes_in, outcomes_in, answers_in}
use Rattle.svc_house.specs.Pending.{events_in}
use Rattle.svc_house.proofs.Finding.{look_bytes, look_outcomes, look_ready, look_reading}
use Rattle.svc_house.proofs.house.House.look.Goals as goal

pub invariant_of-self : goal.invariant_of-self
invariant_of-self g c =
    let inside = c.self.inside in
    let events = published inside.writer in
    let machine = c.machine-machine.result in
    let found = c.find-self-inside.ensures in
    let pending = c.find-self-inside.result in
    let old = g.W.World.calls inside.world in
    let new = g.W.World.calls c.find-self-inside.new.world in
    let none : inside.pending ≡ variant.Empty = ap (λ s. s.pending) c.self.view_is ∙ c.requires.pending in record {
      bytes = look_bytes events pending (g.I.Inbox.given inside.inbox) (g.I.Inbox.given c.find-self-inside.new.inbox)
          (ap (λ h. bytes_in (events ++ events_in h)) (sym none) ∙ c.self.invariant.bytes) found.given;
      outcomes = look_outcomes events pending machine.phase machine.until old new
          (subst (λ (h : Pending). IfSome old (λ calls. outcomes_in (events ++ events_in h) ≡ answers_in calls)) none
          c.self.invariant.outcomes) found.polls found.vain;
      ready = look_ready (history_of inside.writer) machine pending c.machine-machine.ensures found.ready;
      reading = look_reading pending machine.phase old new found.polls;
    }
