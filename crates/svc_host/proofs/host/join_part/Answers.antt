use Rattle.std.proofs.Common.{subst, [], ◌∷◌, ◌∙◌}
use Rattle.svc_house.specs.Calls.{ExtendedWhileKept}
use Rattle.svc_host.specs.Calls.{EndedPart, HandsTrace}
use Rattle.svc_host.proofs.Going.{goes_on_then}
use Rattle.svc_host.proofs.host.join_part.Goals as goal

pub returns-clause-same : goal.returns-clause-same
returns-clause-same g c =
    goes_on_then _ _ _ c.join.ensures.same
    (goes_on_then _ _ _ c.keep_trace-has_trace.ensures.heard.goes_on c.note_loss.ensures.same)

pub returns-clause-gives_back : goal.returns-clause-gives_back
returns-clause-gives_back g c = λ always. record {
  read = c.keep_trace-has_trace.new.part;
  goes_on = goes_on_then _ _ _ c.join.ensures.same c.keep_trace-has_trace.ensures.heard.goes_on;
  is_kept = c.keep_trace-has_trace.result;
  mid = g.M.Maker.calls c.keep_trace-has_trace.new.self.maker;
  hands = subst (λ kept. HandsTrace kept c.keep_trace-has_trace.new.part c.keep_trace-has_trace.result
      (g.M.Maker.calls c.args.factory.now.maker) (g.M.Maker.calls c.keep_trace-has_trace.new.self.maker))
      c.join.ensures.kept c.keep_trace-has_trace.ensures.hands;
  noted = c.note_loss.ensures.trace;
  returned = subst (λ id. ExtendedWhileKept (g.M.Maker.calls c.keep_trace-has_trace.new.self.maker)
      (g.M.Maker.calls c.ended.new.self) (EndedPart id ∷ []))
      (c.id.ensures ∙ c.keep_trace-has_trace.ensures.heard.goes_on.id ∙ c.join.ensures.same.id) c.ended.ensures.calls;
}
