use Rattle.std.proofs.Common.{sym, ◌∙◌}
use Rattle.svc_host.proofs.Senders.{last_sender}
use Rattle.svc_host.proofs.ends.open_box.Goals as goal

pub returns-clause-unposted : goal.returns-clause-unposted
returns-clause-unposted g c = (last_sender _ _ _ _ _ _ c.in-Ok.ensures.3 c.in-Some.ensures.items).2

pub returns-clause-untaken : goal.returns-clause-untaken
returns-clause-untaken g c = c.in-Ok.ensures.5

pub returns-clause-same : goal.returns-clause-same
returns-clause-same g c =
    (last_sender _ _ _ _ _ _ c.in-Ok.ensures.3 c.in-Some.ensures.items).0 ∙ sym c.in-Ok.ensures.4.0
