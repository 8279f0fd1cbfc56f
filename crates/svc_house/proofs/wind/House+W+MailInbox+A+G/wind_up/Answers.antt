use Rattle.std.proofs.Common.{◌≡◌, ℕ, List, ◌++◌, Some, ap, ◌∙◌, subst}
use Rattle.svc_mail.specs.declared.letter.Letter.{Letter}
use Rattle.svc_mail.specs.Ends.{box_of, senders_in, senders_at, receiver_home, taken_by}
use Rattle.svc_mail.specs.Whole.{NamesASender, RowsArrive}
use Rattle.svc_house.specs.Mail.{receiver_in}
use Rattle.svc_house.proofs.Winding.{second-same}
use Rattle.svc_house.proofs.wind.House+W+MailInbox+A+G.wind_up.Goals as goal

pub returns-in-Ok-clause-rows : goal.returns-in-Ok-clause-rows
returns-in-Ok-clause-rows g c =
    let receiver = c.self.inside.inbox.receiver in
    let letters = c.in-Ok.letters in
    let taken : taken_by receiver ≡ taken_by (receiver_in c.args.self.inbox) =
    ap (λ s. taken_by (receiver_in s.inbox)) c.self.view_is in
    subst (λ l. RowsArrive c.args.senders.items l letters) taken
    (c.every_letter_arrives.ensures.rows c.args.senders.items receiver letters c.in-Ok.ensures.left)

pub returns-in-Ok-clause-names : goal.returns-in-Ok-clause-names
returns-in-Ok-clause-names g c =
    let receiver = c.self.inside.inbox.receiver in
    let letters = c.in-Ok.letters in
    let source : Some (receiver_home receiver, senders_at receiver)
    ≡ Some (box_of c.args.mailbox, senders_in c.args.mailbox) = ap (λ s. s.source) c.self.view_is
    ∙ c.requires.receiver in
    let all : senders_at receiver ≡ senders_in c.args.mailbox =
    second-same (receiver_home receiver) (box_of c.args.mailbox) (senders_at receiver) (senders_in c.args.mailbox)
    source in
    let taken : taken_by receiver ≡ taken_by (receiver_in c.args.self.inbox) =
    ap (λ s. taken_by (receiver_in s.inbox)) c.self.view_is in
    subst (λ (p : ℕ × List (Letter ℕ)). NamesASender p.0 (p.1 ++ letters)) (λ i. (all i, taken i))
    (c.every_letter_arrives.ensures.senders c.args.senders.items receiver letters c.in-Ok.ensures.left)
