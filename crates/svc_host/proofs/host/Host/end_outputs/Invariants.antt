use Rattle.svc_host.specs.HostRun.{CameToBe, Runs}
use Rattle.svc_host.specs.Rounds.{HostState}
use Rattle.svc_host.proofs.host.Host.end_outputs.Given as goal

abbrev pub invariant-loop-at : goal.invariant-loop-at
invariant-loop-at g l =
    let now : HostState = record {
      table = l.self-inside.table;
      parts = l.self-inside.parts.items;
      calls = g.M.Maker.calls l.self-inside.factory.maker;
    } in
    record { came : CameToBe now; runs : Runs l.fn.self now }
