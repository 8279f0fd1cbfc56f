use Rattle.std.proofs.Common.{refl, [], ap, ◌∙◌, length}
use Rattle.svc_host.proofs.Calling.{hands-none, hands-then}
use Rattle.svc_host.proofs.Going.{heard_then, none_heard, set_length, step_heard}
use Rattle.svc_host.proofs.host.keep_traces.Goals as goal

pub loop-place-init : goal.loop-place-init
loop-place-init g c = record {
  heard = none_heard c.args.parts.now.items;
  count = refl;
  hands = hands-none (g.M.Maker.calls c.args.factory.now.maker);
}

pub loop-place-preserved : goal.loop-place-preserved
loop-place-preserved g c =
    let at = c.loop-place.invariant in
    let step = c.keep_trace.ensures.step in
    let mids = c.loop-place.parts.items in
    let place = c.loop-place.place in
    record {
      heard = heard_then c.args.parts.now.items mids c.keep_trace.new.parts.items at.heard
          (step_heard mids place c.keep_trace.new.parts.items step);
      count = ap length step.parts ∙ set_length mids place step.part ∙ at.count;
      hands = hands-then _ _ _ [] [] [] [] at.hands c.keep_trace.ensures.hands;
    }
