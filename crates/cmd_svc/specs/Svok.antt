-- How `svok` ends (cr.yp.to/daemontools/svok.html).
use Rattle.std.specs.Prelude.{◌≡◌, ℕ, List, [], ◌∷◌, Option, Some, None}
use Rattle.svc_client.specs.Calls.{Call, Reached}
use Rattle.tai_status.specs.Extended.{Extended}
use Rattle.svc_client.specs.declared.services.Unreached.{Unreached}

-- the status for the answer
abbrev pub whether : (fault : Option Unreached) → ℕ
whether None = 0
whether (Some why) = 100

-- It was asked once whether the service is supervised. The status is 0 if it is, and otherwise 100.
pub record SaysWhether (folder : List ℕ) (status : ℕ) (past now : Option (List Call)) : Type 0 where
  pub fault : Option Unreached
  pub asked : Extended past now (Reached folder fault ∷ [])
  pub status_is : status ≡ whether fault

-- The words are not one folder: nothing is asked.
pub record AsksNothing (status : ℕ) (past now : Option (List Call)) : Type 0 where
  pub status_is : status ≡ 100
  pub unasked : now ≡ past

-- How `svok` ends, by its words, which must be one folder.
abbrev pub SvokEnds : (words : List (List ℕ)) (status : ℕ) (past now : Option (List Call)) → Type 0
SvokEnds [] status past now = AsksNothing status past now
SvokEnds (folder ∷ []) status past now = SaysWhether folder status past now
SvokEnds (folder ∷ other ∷ words) status past now = AsksNothing status past now
