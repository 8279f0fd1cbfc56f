use Rattle.std.proofs.Common.{ap, sym, ◌∙◌}
use Rattle.svc_house.proofs.Halves.{Found, Published, turned-found, refused-found}
use Rattle.svc_house.proofs.house.House.turn_mended.Given as given
use Rattle.svc_house.proofs.house.House.turn_mended.Goals as goal

found : (g : given.Over) (c : goal.After-publish-in-Some-look g)
    → Found c.args.self.now c.in-Some-look.event c.look.new.self
found g c =
    let look = c.in-Some-look.ensures in record {
      none = sym (ap (λ s. s.pending) c.self.view_is) ∙ c.in_default.ensures;
      same = look.same;
      events = look.events;
      next = look.pending;
      polls = look.polls;
      listens = look.listens;
      gate = look.gate;
    }

done : (g : given.Over) (c : goal.After-publish-in-Some-look g)
    → Published c.look.new.self c.in-Some-look.event c.publish-in-Some-look.result c.publish-in-Some-look.new.self
done g c =
    let publish = c.publish-in-Some-look.ensures in record {
      took = publish.took;
      events = publish.published;
      requested = publish.requested;
      reading = publish.reading;
      pending = publish.pending;
      nones = publish.nones;
      gate = publish.gate;
      refused = publish.refused;
    }

pub returns-in-Some-look-clause-turned : goal.returns-in-Some-look-clause-turned
returns-in-Some-look-clause-turned g c =
    turned-found c.args.self.now c.look.new.self c.publish-in-Some-look.new.self c.in-Some-look.event
    c.publish-in-Some-look.result (found g c) (done g c)

pub returns-in-Some-look-clause-refused : goal.returns-in-Some-look-clause-refused
returns-in-Some-look-clause-refused g c =
    refused-found c.args.self.now c.look.new.self c.publish-in-Some-look.new.self c.in-Some-look.event
    c.publish-in-Some-look.result (found g c) (done g c)
