use Rattle.std.proofs.Common.{◌++◌, [], ap, sym, ◌∙◌}
use Rattle.svc_house.specs.Calls.{bytes_in, outcomes_in, requested}
use Rattle.svc_house.proofs.Lists.{answers-extended, answers_in-requested, answered-none}
use Rattle.svc_house.proofs.house.House.open.Goals as goal

pub invariant_of-result : goal.invariant_of-result
invariant_of-result g c =
    let asks = c.as_slice.result.now in record {
      bytes = ap (λ l. bytes_in (l ++ [])) c.requires.published ∙ sym c.requires.given;
      outcomes = answers-extended (g.W.World.calls c.args.world) (g.W.World.calls c.request.new.world)
          (requested asks) [] _
          c.request.ensures.calls
          (answered-none (g.W.World.calls c.args.world) c.requires.answered)
          (ap (λ l. outcomes_in (l ++ [])) c.requires.published ∙ sym (answers_in-requested asks));
      ready = tt;
      reading = tt;
    }
