use Rattle.std.proofs.Common.{inl, inr}
use Rattle.svc_house.proofs.Extended.{extended-none}
use Rattle.svc_host.proofs.pair.Pair.start.Goals as goal

pub returns-in_default-clause-failed : goal.returns-in_default-clause-failed
returns-in_default-clause-failed g c = inl (extended-none _)

pub returns-then-is_err-clause-failed : goal.returns-then-is_err-clause-failed
returns-then-is_err-clause-failed g c = inr (inr c.in_ok-output.ensures.calls)

pub returns-clause-asked : goal.returns-clause-asked
returns-clause-asked g c = c.in_ok-output.ensures.calls
