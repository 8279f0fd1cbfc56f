-- What is found about services: a look at each, its counts, and its last end.
use Rattle.std.specs.Prelude.{◌≡◌, ℕ, List, [], ◌∷◌, ◌++◌, map, Option, Some, None}
use Rattle.tai_status.specs.Extended.{Extended}
use Rattle.svc_client.specs.Calls.{Call, ReadNotice}
use Rattle.svc_client.specs.Sight.{Sight, sight}
use Rattle.cmd_svc.specs.Svstat.{Finds}
use Rattle.cmd_svc.specs.declared.look.ServiceLook.{ServiceLook}
use Rattle.cmd_svc.specs.declared.look.ServiceLook.TheVariants as look
use Rattle.svc_client.specs.declared.notice.Notice.TheVariants as notice
use Rattle.cmd_why.specs.Why.{ReadsExit}
use Rattle.svc_record.specs.declared.counts.Counts.{Counts}
use Rattle.svc_record.specs.declared.exit.Exit.{Exit}
use Rattle.svc_record.specs.Counts.{IsCountsIn}
use Rattle.cmd_report.specs.declared.found.FoundService.{FoundService}

-- What the file `counts` says, if it could be read. None if it is not the line of any counts.
abbrev pub AreCountsIn : (text : Option (List ℕ)) → Option Counts → Type 0
AreCountsIn None counts = counts ≡ None
AreCountsIn (Some text) counts = IsCountsIn text counts

-- The file `counts` of the service in a folder was read, and says this.
pub record ReadsCounts (folder : List ℕ) (counts : Option Counts) (past now : Option (List Call)) : Type 0 where
  pub text : Option (List ℕ)
  pub says : AreCountsIn text counts
  pub asked : Extended past now (ReadNotice folder notice.Counts text ∷ [])

-- The counts were read, and then the last end.
pub record ReadsPast (folder : List ℕ) (counts : Option Counts) (last : Option Exit) (past now : Option (List Call))
    : Type 0 where
  pub middle : Option (List Call)
  pub counts_read : ReadsCounts folder counts past middle
  pub last_read : ReadsExit folder last middle now

-- They are read if the status was read, and only then.
abbrev pub SeeksPast : ServiceLook → (folder : List ℕ) (counts : Option Counts) (last : Option Exit)
    (past now : Option (List Call)) → Type 0
SeeksPast (look.Standing loaded normally_up at course) folder counts last past now =
    ReadsPast folder counts last past now
SeeksPast other folder counts last past now = (counts ≡ None) × (last ≡ None) × (now ≡ past)

-- The service in a folder was looked at, and this was found.
pub record FindsOne (found : FoundService) (old new : Sight) : Type 0 where
  pub asked : Option (List Call)
  pub finds : Finds found.folder.now found.look old (sight asked new.readings)
  pub seeks : SeeksPast found.look found.folder.now found.counts found.last asked new.calls

-- These were found, one after the other.
abbrev pub FindsAll : List FoundService → (old new : Sight) → Type 0
FindsAll [] old new = new ≡ old
FindsAll (found ∷ founds) old new = (middle : Sight) × (FindsOne found old middle × FindsAll founds middle new)

abbrev pub folders_of : List FoundService → List (List ℕ)
folders_of founds = map (λ found. found.folder.now) founds

-- Each word was looked at, in order, and this was found.
pub record FindsWords (words : List (List ℕ)) (founds : List FoundService) (old new : Sight) : Type 0 where
  pub words_are : words ≡ folders_of founds
  pub finds : FindsAll founds old new

-- There was no memory: some words at the front were looked at.
pub record FindsFront (words : List (List ℕ)) (old new : Sight) : Type 0 where
  pub founds : List FoundService
  pub rest : List (List ℕ)
  pub words_are : words ≡ folders_of founds ++ rest
  pub finds : FindsAll founds old new
