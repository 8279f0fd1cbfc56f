use Rattle.std.proofs.Common.{◌≡◌, ◌-◌, ◌≤◌, length, take}
use Rattle.std.specs.Io.KnownBytes.{append_known}
use Rattle.svc_relay.proofs.relay.put_all.Given as goal

abbrev pub invariant-loop-at : goal.invariant-loop-at
invariant-loop-at g l =
    (l.at ≤ length l.bytes)
    × (g.O.Outlet.bytes l.outlet ≡ append_known (g.O.Outlet.bytes l.fn.outlet) (take l.at l.bytes))
    × (g.O.Outlet.failures l.outlet ≡ g.O.Outlet.failures l.fn.outlet)

abbrev pub decreases-loop-at : goal.decreases-loop-at
decreases-loop-at g l = length l.bytes - l.at
