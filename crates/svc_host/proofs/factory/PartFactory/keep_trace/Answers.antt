use Rattle.std.proofs.Common.{refl, ◌∙◌}
use Rattle.svc_host.proofs.Calling.{trace-noted}
use Rattle.svc_host.proofs.factory.PartFactory.keep_trace.Goals as goal

pub returns-in-By-clause-hands : goal.returns-in-By-clause-hands
returns-in-By-clause-hands g c =
    let part = c.growth.new.self in
    trace-noted c.args.part.now.kept part c.hand_trace.new.part c.hand_trace.result c.in-By.count part.id
    c.deref.result.now (g.M.Maker.calls c.args.self.now.maker) (g.M.Maker.calls c.hand_trace.new.self.maker) refl
    (c.deref.ensures.value ∙ c.in-By.ensures.shows.1) c.hand_trace.ensures.noted c.hand_trace.ensures.handed
