use Rattle.std.proofs.Common.{◌≡◌, ◌++◌, ◌∷◌, [], All, refl, ap, sym, ◌∙◌, subst}
use Rattle.sup_core.specs.Rules.{asks_of}
use Rattle.svc_station.specs.Ends.{published, history_of, opening_of}
use Rattle.svc_house.specs.declared.pending.Pending.{Pending}
use Rattle.svc_house.specs.Calls.{ExtendedWhileKept, IsAsk, requested, bytes_in}
use Rattle.svc_house.specs.Pending.{events_in, rest_of}
use Rattle.svc_house.specs.Standing.{HoldsLastReading, Standing, past_of}
use Rattle.svc_house.proofs.Asking.{asks-fit}
use Rattle.svc_house.proofs.Publishing.{asked-as, found-same, publish_outcomes, publish_ready, publish_reading}
use Rattle.svc_house.proofs.Publishing.{rest_reading, took-asks, took-taken}
use Rattle.svc_house.proofs.house.House.publish.Goals as goal

pub request-requires : goal.request-requires
request-requires g c =
    let past = history_of c.self.inside.writer in
    let says = sym c.in-Ok-Took.field-0-is ∙ c.in-Ok-Took.ensures.reply in
    subst (All IsAsk) (sym (c.as_slice.ensures.asks ∙ took-asks past c.args.event c.in-Ok-Took.asks says))
    (asks-fit past c.args.event)

pub invariant_of-self : goal.invariant_of-self
invariant_of-self g c =
    let inside = c.self.inside in
    let event = c.args.event in
    let events = published inside.writer in
    let after = published c.publish.new.self in
    let pending = inside.pending in
    let rest = c.rest-self-inside.result in
    let is : rest ≡ rest_of pending = c.rest-self-inside.ensures in
    let old = g.W.World.calls inside.world in
    let new = g.W.World.calls c.request.new.world in
    let next : events_in pending ≡ event ∷ events_in (rest_of pending) =
    subst (λ (h : Pending). events_in h ≡ event ∷ events_in (rest_of h)) (sym (ap (λ s. s.pending) c.self.view_is))
    c.requires in
    let says = sym c.in-Ok-Took.field-0-is ∙ c.in-Ok-Took.ensures.reply in
    let added : after ≡ events ++ event ∷ [] =
    c.in-Ok-Took.ensures.published ∙ rw (took-taken (history_of inside.writer) event c.in-Ok-Took.asks says) refl in
    let asked = asked-as (history_of inside.writer) event c.in-Ok-Took.asks c.as_slice.result.now old new
    c.as_slice.ensures.asks says c.request.ensures.calls in
    let same : after ++ events_in rest ≡ events ++ events_in pending =
    ap (λ h. after ++ events_in h) is ∙ ap (λ l. l ++ events_in (rest_of pending)) added
    ∙ found-same events event pending next in record {
      bytes = ap bytes_in same ∙ c.self.invariant.bytes;
      outcomes = publish_outcomes (events ++ events_in pending) (after ++ events_in rest)
          (asks_of (history_of inside.writer) event) old new same
          asked c.self.invariant.outcomes;
      ready = publish_ready (opening_of inside.writer) (opening_of c.publish.new.self) events after event
          pending rest
          (ap (λ v. v.opening) c.publish.ensures.same) added is next
          c.self.invariant.ready;
      reading = subst (λ (h : Pending). HoldsLastReading h new) (sym is) (rest_reading pending new);
    }

pub returns-in-Ok-Took-clause-reading : goal.returns-in-Ok-Took-clause-reading
returns-in-Ok-Took-clause-reading g c =
    let inside = c.self.inside in
    let event = c.args.event in
    let pending = inside.pending in
    let next : events_in pending ≡ event ∷ events_in (rest_of pending) =
    subst (λ (h : Pending). events_in h ≡ event ∷ events_in (rest_of h)) (sym (ap (λ s. s.pending) c.self.view_is))
    c.requires in
    let old = g.W.World.calls inside.world in
    let new = g.W.World.calls c.request.new.world in
    publish_reading pending event (asks_of (history_of inside.writer) event) old new next
    (asked-as (history_of inside.writer) event c.in-Ok-Took.asks c.as_slice.result.now old new c.as_slice.ensures.asks
    (sym c.in-Ok-Took.field-0-is ∙ c.in-Ok-Took.ensures.reply) c.request.ensures.calls) c.self.invariant.reading

pub returns-in-Ok-Took-clause-requested : goal.returns-in-Ok-Took-clause-requested
returns-in-Ok-Took-clause-requested g c =
    let inside = c.self.inside in
    subst (λ (s : Standing g.row.I.Denot). ExtendedWhileKept s.calls (g.W.World.calls c.request.new.world)
    (requested (asks_of (past_of s) c.args.event))) c.self.view_is
    (asked-as (history_of inside.writer) c.args.event c.in-Ok-Took.asks c.as_slice.result.now
    (g.W.World.calls inside.world) (g.W.World.calls c.request.new.world) c.as_slice.ensures.asks
    (sym c.in-Ok-Took.field-0-is ∙ c.in-Ok-Took.ensures.reply) c.request.ensures.calls)
