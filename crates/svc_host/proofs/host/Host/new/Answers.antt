use Rattle.std.proofs.Common.{rules}
use Rattle.svc_host.proofs.Moving.{runs_same}
use Rattle.svc_host.proofs.host.Host.new.Goals as goal

pub invariant_of-result : goal.invariant_of-result
invariant_of-result g c = record {
  calls = g.M.Maker.calls c.args.maker;
  runs = runs_same _ _ (search rules);
}
