use Rattle.std.proofs.Common.{[], ◌∷◌, subst}
use Rattle.svc_house.specs.Calls.{ExtendedWhileKept}
use Rattle.svc_house.proofs.Extended.{extended-append}
use Rattle.svc_host.specs.Calls.{AskedIsRead, EndedOutput}
use Rattle.svc_host.proofs.host.end_output.Goals as goal

pub returns : goal.returns
returns g c = record {
  service = c.sight_at.result;
  logger = c.sight_at-2.result;
  mid = c.sight_at.new.parts.items;
  service_seen = c.sight_at.ensures;
  logger_seen = c.sight_at-2.ensures;
  is_read = c.is_read-is_read.result;
  asked = subst (λ at_once. ExtendedWhileKept (g.M.Maker.calls c.args.maker.now)
      (g.M.Maker.calls c.is_read-is_read.new.self)
      (EndedOutput c.args.slot at_once ∷ AskedIsRead c.args.slot c.is_read-is_read.result ∷ [])) c.lives-at_once.ensures
      (extended-append _ _ _ _ _ c.end_output.ensures.calls c.is_read-is_read.ensures.calls);
  leaves_so = c.may_leave.ensures;
}
