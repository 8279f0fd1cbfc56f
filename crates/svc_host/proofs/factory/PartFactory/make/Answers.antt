use Rattle.std.proofs.Common.{inr}
use Rattle.svc_house.proofs.Extended.{extended-append}
use Rattle.svc_host.proofs.factory.PartFactory.make.Goals as goal

pub returns-in_default-clause-asks : goal.returns-in_default-clause-asks
returns-in_default-clause-asks g c =
    inr (inr (c.in_ok-world.field-0.opening, extended-append _ _ _ _ _ c.in_ok-world.ensures.calls c.ended.ensures.calls))

pub returns-then-is_err-clause-asks : goal.returns-then-is_err-clause-asks
returns-then-is_err-clause-asks g c =
    inr (inr (c.in_ok-world.field-0.opening, extended-append _ _ _ _ _ c.in_ok-world.ensures.calls c.ended-then-is_err.ensures.calls))

pub returns-in_default-start-clause-asks : goal.returns-in_default-start-clause-asks
returns-in_default-start-clause-asks g c =
    inr (inr (c.in_ok-world.field-0.opening, extended-append _ _ _ _ _ c.in_ok-world.ensures.calls c.ended-in_default-start.ensures.calls))

pub returns-clause-asks : goal.returns-clause-asks
returns-clause-asks g c = rw c.new-2.ensures c.in_ok-world.ensures.calls
