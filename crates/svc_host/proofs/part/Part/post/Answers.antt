use Rattle.std.proofs.Common.{refl, sym}
use Rattle.svc_house.specs.Mail.{sender_in}
use Rattle.svc_host.proofs.Stepping.{posts_or_not}
use Rattle.svc_host.proofs.part.Part.post.Goals as goal

pub returns : goal.returns
returns g c =
    let ends = c.post.ensures in
    rw (sym c.self.view_is)
    (posts_or_not _ _ (sender_in c.self.inside.sender) (sender_in c.post.new.self) c.args.byte c.post.result refl
    ends.same
    ends.posted ends.unposted ends.unseen ends.unheard ends.full)
