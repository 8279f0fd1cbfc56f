-- What `svc` sends, and how it ends (cr.yp.to/daemontools/svc.html).
use Rattle.std.specs.Prelude.{◌≡◌, ◌<◌, ◌⊎◌, ℕ, Bool, false, ◌||◌, if◌then◌else◌, List, [], ◌∷◌, ◌++◌, length}
use Rattle.std.specs.Prelude.{codes}
use Rattle.std.specs.Prelude.{bytes_eq, Option, Some, None, is_some, MatchOption, Result, IsErrOf, IsOkUnless}
use Rattle.hex.specs.Hex.{encode_lower}
use Rattle.tai_status.specs.Counted.{Device, Reports}
use Rattle.cmd_svc.specs.Words.{order_bytes, service_words, unknown_in}
use Rattle.svc_client.specs.Calls.{Call, Sent}
use Rattle.tai_status.specs.Extended.{Extended}
use Rattle.cmd_svc.specs.declared.order.SvcFault.{SvcFault}
use Rattle.cmd_svc.specs.declared.order.SvcFault.TheVariants as cause
use Rattle.svc_client.specs.declared.services.Unreached.{Unreached}
use Rattle.svc_client.specs.declared.services.Unreached.TheVariants as unreached
use Rattle.svc_client.specs.Turns.{InTurn}
use Rattle.cmd_svc.specs.Missing.{TellsEach, telling}

-- What `svc` works with: the calls that were made, and the device on which it reports faults.
pub record Effects : Type 0 where
  pub calls : Option (List Call)
  pub faults : Device

abbrev pub effects : (calls : Option (List Call)) (faults : Device) → Effects
effects calls faults = record { calls = calls; faults = faults }

-- What it works with while it sends: the same, and whether a service was not reached so far.
pub record Sending : Type 0 where
  pub effects : Effects
  pub missed : Bool

abbrev pub sending : (calls : Option (List Call)) (faults : Device) (missed : Bool) → Sending
sending calls faults missed = record { effects = effects calls faults; missed = missed }

-- Messages

-- why a service was not reached, as it is reported after its folder
abbrev pub reason : Unreached → List ℕ
reason unreached.NotRunning = codes ": not running" ++ 10 ∷ []
reason unreached.Denied = codes ": Permission denied" ++ 10 ∷ []
reason unreached.Unanswered = codes ": no answer" ++ 10 ∷ []

-- the warning about a service that can't be reached, up to its folder
abbrev pub svc_warning : List ℕ
svc_warning = codes "svc: warning: unable to control "

-- what is reported about a service that can't be reached, with the warning of the command that sends
abbrev pub unreached_report : (warning folder : List ℕ) (why : Unreached) → List ℕ
unreached_report warning folder why = warning ++ (folder ++ reason why)

-- what is reported about a letter that svc does not know
abbrev pub letter_report : (letter : ℕ) → List ℕ
letter_report letter = codes "svc: unknown letter " ++ (encode_lower (letter ∷ []) ++ 10 ∷ [])

-- what is reported if there is no memory
abbrev pub memory_report : List ℕ
memory_report = codes "svc: OutOfMemory" ++ 10 ∷ []

-- Services

-- If the bytes arrived, nothing is reported. If they did not, that is reported, with the reason.
abbrev pub ReportsFault : (warning : List ℕ) (fault : Option Unreached) (folder : List ℕ) (old new : Device) → Type 0
ReportsFault warning None folder old new = new ≡ old
ReportsFault warning (Some why) folder old new = Reports old new (unreached_report warning folder why)

-- These bytes are sent to the service in a folder, once. If they did not arrive, that is reported once, and remembered.
pub record Serves (warning bytes folder : List ℕ) (old new : Sending) : Type 0 where
  pub fault : Option Unreached
  pub sent : Extended old.effects.calls new.effects.calls (Sent folder bytes fault ∷ [])
  pub reported : ReportsFault warning fault folder old.effects.faults new.effects.faults
  pub missed : new.missed ≡ (is_some fault || old.missed)

-- Ends

-- Each service got the bytes of the words, which may be none, or it is reported that it can't be reached. Then it is
-- reported for each folder that does not exist why. The status says whether a service could not be reached.
pub record ServesWords (missed_status : ℕ) (words : List (List ℕ)) (status : ℕ) (old new : Effects) : Type 0 where
  pub missed : Bool
  pub served : Effects
  pub status_is : status ≡ (if missed then missed_status else 0)
  pub serves : InTurn (Serves svc_warning (order_bytes words)) (service_words words)
      (sending old.calls old.faults false) (sending served.calls served.faults missed)
  pub told : TellsEach (codes "svc: ") (service_words words)
      (telling served.calls served.faults) (telling new.calls new.faults)

-- Words are refused for their first unknown letter, and otherwise only for a lack of memory.
abbrev pub RefusesUnknown : {T : Type 0} → (words : List (List ℕ)) (order : Result T SvcFault) → Type 0
RefusesUnknown words order = MatchOption (unknown_in words) (IsOkUnless order cause.OutOfMemory)
    (λ letter. IsErrOf order (cause.UnknownLetter letter))

-- There is no memory for the names of the services: nothing is sent, and the lack is reported.
pub record LacksMemory (words : List (List ℕ)) (status : ℕ) (old new : Effects) : Type 0 where
  pub some : 0 < length (service_words words)
  pub status_is : status ≡ 111
  pub unsent : new.calls ≡ old.calls
  pub reported : Reports old.faults new.faults memory_report

-- A letter is unknown: nothing is sent to anybody, and the letter is reported.
pub record RefusesLetter (letter : ℕ) (status : ℕ) (old new : Effects) : Type 0 where
  pub status_is : status ≡ 100
  pub unsent : new.calls ≡ old.calls
  pub reported : Reports old.faults new.faults (letter_report letter)

-- How `svc` ends, by its words, with this status if a service could not be reached. The first letter that it does not
-- know is refused.
abbrev pub OrderEnds : (missed_status : ℕ) (words : List (List ℕ)) (status : ℕ) (old new : Effects) → Type 0
OrderEnds missed_status words status old new = MatchOption (unknown_in words)
    (ServesWords missed_status words status old new ⊎ LacksMemory words status old new)
    (λ letter. RefusesLetter letter status old new)

-- After a first word `-W`, it is a fault if a service could not be reached. Otherwise it is not.

abbrev pub is_strict : List ℕ → Bool
is_strict word = bytes_eq word (codes "-W")

abbrev pub missed_status : List (List ℕ) → ℕ
missed_status [] = 0
missed_status (word ∷ words) = if is_strict word then 111 else 0

-- the words without a `-W` in the first place
abbrev pub order_words : List (List ℕ) → List (List ℕ)
order_words [] = []
order_words (word ∷ words) = if is_strict word then words else word ∷ words

abbrev pub SvcEnds : (words : List (List ℕ)) (status : ℕ) (old new : Effects) → Type 0
SvcEnds words status old new = OrderEnds (missed_status words) (order_words words) status old new
