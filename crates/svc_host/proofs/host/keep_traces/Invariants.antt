use Rattle.std.proofs.Common.{◌≡◌, length}
use Rattle.svc_host.specs.Calls.{HandsOutNone}
use Rattle.svc_host.specs.Parts.{AreHeard}
use Rattle.svc_host.proofs.host.keep_traces.Given as goal

abbrev pub invariant-loop-place : goal.invariant-loop-place
invariant-loop-place g l = record {
  heard : AreHeard l.fn.parts.items l.parts.items;
  count : length l.parts.items ≡ length l.fn.parts.items;
  hands : HandsOutNone (g.M.Maker.calls l.fn.factory.maker) (g.M.Maker.calls l.factory.maker);
}
