use Rattle.std.proofs.Common.{◌≡◌, ℕ, List, ap, sym, subst}
use Rattle.svc_mail.specs.declared.mailbox.Mailbox.{Mailbox}
use Rattle.svc_mail.specs.declared.sender.Sender.{Sender}
use Rattle.svc_mail.specs.Ends.{AreAllSenders}
use Rattle.svc_tests.proofs.house.wind_up_gone.Goals as goal

pub wind_up-requires-in-Err-clause-senders : goal.wind_up-requires-in-Err-clause-senders
wind_up-requires-in-Err-clause-senders g c =
    let back = c.in-Err.ensures.back in
    subst (λ (p : Mailbox ℕ g.row.A.Denot × List (Sender ℕ g.row.A.Denot)). AreAllSenders p.0 p.1)
    (λ i. (sym back.1 i, ap (λ v. v.items) (sym back.2) i)) c.requires.senders
