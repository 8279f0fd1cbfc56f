-- What an inbox over a mailbox gives, the sender that posts control bytes, and what it posted.
use Rattle.std.specs.Prelude.{ℕ, List, map}
use Rattle.svc_mail.specs.declared.letter.Letter.{Letter}
use Rattle.svc_mail.specs.declared.receiver.Receiver.{Receiver}
use Rattle.svc_mail.specs.declared.sender.Sender.{Sender}
use Rattle.svc_mail.specs.Ends.{posted}
use Rattle.svc_house.specs.declared.control_sender.ControlSender.{ControlSender}
use Rattle.svc_house.specs.declared.mail_inbox.MailInbox.{MailInbox}

-- the items of letters, in order
abbrev pub items_of : List (Letter ℕ) → List ℕ
items_of letters = map (λ letter. letter.item) letters

-- the receiver of the inbox, which takes the letters
abbrev pub receiver_in : {A : Type 0} → MailInbox A → Receiver ℕ A
receiver_in inbox = inbox.receiver

-- the sender that posts
abbrev pub sender_in : {A : Type 0} → ControlSender A → Sender ℕ A
sender_in control_sender = control_sender.sender

-- the control bytes that were posted, in order
abbrev pub posted_by : {A : Type 0} → ControlSender A → List ℕ
posted_by control_sender = posted (sender_in control_sender)
