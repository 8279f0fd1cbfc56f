use Rattle.std.proofs.Common.{subst}
use Rattle.svc_host.specs.Rounds.{HostState, IsScanned}
use Rattle.host_tests.proofs.pasts.first_scan.Goals as goal

pub returns-in-Ok : goal.returns-in-Ok
returns-in-Ok g c = (
  c.in-Ok._out,
  subst (λ (old : HostState). IsScanned old c.args.rows.now c.args.label c.in-Ok._out c.scan.new.self)
      c.requires c.in-Ok.ensures.scanned,
)
