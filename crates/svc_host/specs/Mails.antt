-- What a host knows of the mailbox of a part through its sender.
use Rattle.std.specs.Prelude.{◌≡◌, ℕ, List, ◌++◌, length, All}
use Rattle.svc_mail.specs.declared.letter.Letter.{Letter}
use Rattle.svc_mail.specs.declared.sender.Sender.{Sender}
use Rattle.svc_mail.specs.Ends.{heard_by, number_of, posted, room_of, seen_by, senders_of}
use Rattle.svc_mail.specs.History.{row_of, IsHistory, StartsWith, IsAmong}

-- The number of this sender, how many senders there are, and for how many letters there is room; also what this sender
-- posted, and what it saw and heard of.
pub record Mail : Type 0 where
  pub number : ℕ
  pub senders : ℕ
  pub room : ℕ
  pub posted : List ℕ
  pub seen : List (Letter ℕ)
  pub heard : List (List (Letter ℕ))

abbrev pub mail_of : {A : Type 0} → Sender ℕ A → Mail
mail_of sender = record {
  number = number_of sender;
  senders = senders_of sender;
  room = room_of sender;
  posted = posted sender;
  seen = seen_by sender;
  heard = heard_by sender;
}

-- At one moment the mailbox held as many letters as it has room for. The letters taken before, which include all that
-- this sender had heard of, and the held letters form a history. The history has this sender's row and continues what
-- it had seen.
abbrev pub WasFull : Mail → Type 0
WasFull mail =
    (taken held : List (Letter ℕ)) × (length held ≡ mail.room)
    × IsHistory (taken ++ held) × IsAmong mail.senders (taken ++ held)
    × (mail.posted ≡ row_of mail.number (taken ++ held)) × StartsWith (taken ++ held) mail.seen
    × All (StartsWith taken) mail.heard
