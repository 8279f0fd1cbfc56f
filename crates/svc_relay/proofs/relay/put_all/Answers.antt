use Rattle.std.proofs.Common.{◌+◌, ◌≤◌, length, take, ap, ◌∙◌, arith, length-drop}
use Rattle.std.proofs.lemmas.List.{take_rest}
use Rattle.std.specs.Io.KnownBytes.{append_known}
use Rattle.svc_relay.proofs.Relayed.{known_more}
use Rattle.svc_relay.proofs.relay.put_all.Goals as goal

pub loop-at-preserved : goal.loop-at-preserved
loop-at-preserved g c =
    let bytes = c.args.bytes.now in
    let at = c.loop-at.at in
    let count = c.in-Ok.count in
    let old = g.O.Outlet.bytes c.loop-at.outlet in (
      (let p : at + count ≤ length bytes =
          omega (arith, c.loop-at.invariant.0, c.in-Ok.ensures.within, length-drop at bytes) in p),
      known_more (g.O.Outlet.bytes c.args.outlet.now) old (g.O.Outlet.bytes c.put.new.self) bytes at count
          c.loop-at.invariant.1
          (c.in-Ok.ensures.front ∙ ap (λ l. append_known old (take count l)) (take_rest bytes at)),
      c.in-Ok.ensures.works ∙ c.loop-at.invariant.2,
    )
