use Rattle.std.proofs.Common.{sym, ◌∙◌}
use Rattle.svc_host.proofs.Senders.{front_senders, last_sender}
use Rattle.svc_host.proofs.ends.open_mailbox.Goals as goal

pub returns-clause-unposted : goal.returns-clause-unposted
returns-clause-unposted c = (last_sender _ _ _ _ _ _ c.in-Ok.ensures.3 c.in-Some.ensures.items).2

pub returns-clause-room : goal.returns-clause-room
returns-clause-room c = (last_sender _ _ _ _ _ _ c.in-Ok.ensures.3 c.in-Some.ensures.items).5

pub returns-clause-untaken : goal.returns-clause-untaken
returns-clause-untaken c = c.in-Ok.ensures.5

pub returns-clause-inside : goal.returns-clause-inside
returns-clause-inside c =
    (last_sender _ _ _ _ _ _ c.in-Ok.ensures.3 c.in-Some.ensures.items).0 ∙ sym c.in-Ok.ensures.4.0

pub returns-clause-outside : goal.returns-clause-outside
returns-clause-outside c =
    (last_sender _ _ _ _ _ _ (front_senders _ _ _ _ _ _ c.in-Ok.ensures.3 c.in-Some.ensures.items)
    c.in-Some-pop.ensures.items).0
    ∙ sym c.in-Ok.ensures.4.0

pub returns-clause-timer : goal.returns-clause-timer
returns-clause-timer c =
    (last_sender _ _ _ _ _ _
    (front_senders _ _ _ _ _ _
    (front_senders _ _ _ _ _ _ c.in-Ok.ensures.3 c.in-Some.ensures.items)
    c.in-Some-pop.ensures.items)
    c.in-Some-pop-2.ensures.items).0
    ∙ sym c.in-Ok.ensures.4.0
