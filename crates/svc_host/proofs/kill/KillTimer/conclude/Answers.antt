use Rattle.std.proofs.Common.{refl, sym, ◌∙◌}
use Rattle.svc_house.specs.Mail.{sender_in}
use Rattle.svc_host.proofs.Killing.{refused}
use Rattle.svc_host.proofs.kill.KillTimer.conclude.Goals as goal

pub returns-then-is_err : goal.returns-then-is_err
returns-then-is_err g c =
    let ends = c.post.ensures in
    rw (sym c.self.view_is)
    (rw c.if-runs.true
    (refused _ _ (sender_in c.self.inside.sender) (sender_in c.post.new.self) c.post.result
    (sym c.is_err.ensures.value ∙ c.if-is_err.true) refl ends.same ends.unposted ends.unseen ends.unheard ends.full))
