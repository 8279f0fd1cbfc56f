-- What svscan serves: the host of the services, when its next round is idle, and what its own inbox has given.
use Rattle.std.specs.Prelude.{◌≡◌, ℕ, List, [], ◌++◌, Option, None, Some}
use Rattle.svc_host.specs.Rounds.{HostState}
use Rattle.svc_house.specs.Calls.{as_list}
use Rattle.svc_house.specs.Mail.{items_of}
use Rattle.svc_house.specs.declared.mail_inbox.MailInbox.{MailInbox}
use Rattle.svc_mail.specs.Ends.{taken_by}
use Rattle.svscan_rounds.specs.declared.quiet.Quiet.{Quiet}

pub record Serving : Type 0 where
  pub host : HostState
  pub quiet : Quiet
  pub given : List ℕ

-- the bytes that an inbox gave, if there is one
abbrev pub given_by : {A : Type 0} → Option (MailInbox A) → List ℕ
given_by None = []
given_by (Some inbox) = items_of (taken_by inbox.receiver)

-- The byte is the next one from an inbox, or the inbox had none.
abbrev pub IsNextByte : (old : List ℕ) → Option ℕ → (new : List ℕ) → Type 0
IsNextByte old byte new = new ≡ old ++ as_list byte
