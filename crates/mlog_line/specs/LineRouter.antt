-- The state of a router, which hands out lines to the outputs of a script.
use Rattle.std.specs.Prelude.{◌≡◌, ℕ, ◌+◌, ◌-◌, ◌^◌, min, ◌<◌, ◌≤◌, Bool, true, false, List, [], ◌++◌, length, fold}
use Rattle.std.specs.Prelude.{count_by, slice_get, Option, Some, None, IfSome, ⊤, Result, OnOk, IfErr}
use Rattle.tai_status.specs.Label.{Tai64n}
use Rattle.mlog_script.specs.Script.{Act, Plan, is_alert, is_log, is_file, log_plans}
use Rattle.mlog_script.specs.Selection.{Chosen, Fits, stamps, shown, chosen_line}
use Rattle.mlog_files.specs.Files.{Files}
use Rattle.mlog_files.specs.Store.{StoreState, Stays, Visible}
use Rattle.mlog_files.specs.Tails.{size_of, keep_of, waiting_in, marks_at, standing, found, room_in}
use Rattle.mlog_files.specs.declared.tail.Tail.{Tail}
use Rattle.mlog_files.specs.declared.tail.LogFault.{LogFault}
use Rattle.mlog_line.specs.Given.{so_far, of_line, of_put}
use Rattle.mlog_line.specs.Outputs.{outputs, Takes, Stops, Grows, StopsAt}

-- The ends of the logs; the outputs at which the line is selected, once that is decided; and its first bytes until
-- then.
pub record Place : Type 0 where
  pub tails : List Tail
  pub chosen : Chosen
  pub front : List ℕ
  pub decided : Bool

-- Either a line's front is kept, or its first 1000 bytes are there, and the outputs at which it is selected are
-- decided.
abbrev pub IsKeptOrDecided : Bool → List Act → Chosen → List ℕ → Tai64n → List ℕ → Type 0
IsKeptOrDecided false script chosen front label line = (front ≡ shown script label line) × (length front < 1000)
IsKeptOrDecided true script chosen front label line =
    (chosen ≡ chosen_line script label line) × (1000 ≤ length (shown script label line))

-- A line with this label has begun with these bytes, and has not ended.
abbrev pub IsAt : List Act → Place → Tai64n → List ℕ → Type 0
IsAt script place label line = IsKeptOrDecided place.decided script place.chosen place.front label line

-- A place serves a script over a store: it has the script's logs and status files.
pub record Serves (script : List Act) (place : Place) (store : StoreState) : Type 0 where
  pub fits : Fits place.chosen script
  pub tails : length place.tails ≡ count_by is_log script
  pub logs : count_by is_log script ≤ store.logs
  pub files : count_by is_file script ≤ store.status_files

-- The end of a log agrees with its plan and with the store.
pub record IsOpened (plan : Plan) (files : Option Files) (tail : Tail) : Type 0 where
  pub size : size_of tail ≡ plan.size
  pub keep : keep_of tail ≡ plan.keep
  pub waiting : waiting_in tail ≡ []
  pub stands : IfSome files (λ files. standing tail ≡ found files)

abbrev pub IsOpenedAt : Option Plan → Option Files → Option Tail → Type 0
IsOpenedAt None files None = ⊤
IsOpenedAt None files (Some tail) = ⊥
IsOpenedAt (Some plan) files None = ⊥
IsOpenedAt (Some plan) files (Some tail) = IsOpened plan files tail

-- All logs of a script were opened.
abbrev pub AreOpened : List Act → Visible → List Tail → Type 0
AreOpened script visible tails =
    (log : ℕ) → IsOpenedAt (slice_get (log_plans script) log) (visible.files log) (slice_get tails log)

-- No bytes wait.
abbrev pub IsWrittenAt : Option Tail → Type 0
IsWrittenAt None = ⊤
IsWrittenAt (Some tail) = waiting_in tail ≡ []

abbrev pub IsWritten : List Tail → Type 0
IsWritten tails = (log : ℕ) → IsWrittenAt (slice_get tails log)

-- No bytes wait in the logs below a number.
abbrev pub IsWrittenUpTo : ℕ → List Tail → Type 0
IsWrittenUpTo count tails = (log : ℕ) → log < count → IsWrittenAt (slice_get tails log)

-- How many old files were finished, and removed, in all logs. The counts stop at 2^64 - 1.
abbrev pub total_finished : List Tail → ℕ
total_finished tails = fold (λ total tail. min (2 ^ 64 - 1) (total + (marks_at tail).finished)) 0 tails

abbrev pub total_removed : List Tail → ℕ
total_removed tails = fold (λ total tail. min (2 ^ 64 - 1) (total + (marks_at tail).removed)) 0 tails

-- The script sends lines to logs only, and unchanged.
pub record IsBare (script : List Act) : Type 0 where
  pub unstamped : stamps script ≡ false
  pub unalerted : count_by is_alert script ≡ 0
  pub unfiled : count_by is_file script ≡ 0

-- Each log has room for this many bytes, with any values.
abbrev pub HasRoomAt : ℕ → Option Tail → Type 0
HasRoomAt count None = ⊤
HasRoomAt count (Some tail) = count ≤ room_in tail

abbrev pub HaveRoom : ℕ → List Tail → Type 0
HaveRoom count tails = (log : ℕ) → HasRoomAt count (slice_get tails log)

-- The outcomes of a call that puts bytes of a line. Either the line has these bytes more, and has given what it then
-- gives; or the call stopped, with its reason. The place serves the script as before.
pub record PutsLine {T : Type 0} (result : Result T LogFault) (script : List Act) (old new : Place)
    (was is : StoreState) (label : Tai64n) (bytes : List ℕ) : Type 0 where
  pub at : OnOk result ((line : List ℕ) → IsAt script old label line → IsAt script new label (line ++ bytes))
  pub grows : OnOk result ((line : List ℕ) → IsAt script old label line
      → Grows (outputs old.tails was) (outputs new.tails is)
      (so_far script label line) (so_far script label (line ++ bytes)))
  pub stopped : IfErr result (λ why. (line : List ℕ) → IsAt script old label line
      → StopsAt (outputs old.tails was) (outputs new.tails is)
      (so_far script label line) (so_far script label (line ++ bytes)) why)
  pub serves : Serves script new is
  pub stays : Stays was is

-- The outcomes of a call that ends a line. Either the line has given all that it gives; or the call stopped, with its
-- reason. The place serves the script as before.
pub record EndsLine {T : Type 0} (result : Result T LogFault) (script : List Act) (old new : Place)
    (was is : StoreState) (label : Tai64n) : Type 0 where
  pub grows : OnOk result ((line : List ℕ) → IsAt script old label line
      → Grows (outputs old.tails was) (outputs new.tails is) (so_far script label line) (of_line script label line))
  pub stopped : IfErr result (λ why. (line : List ℕ) → IsAt script old label line
      → StopsAt (outputs old.tails was) (outputs new.tails is)
      (so_far script label line) (of_line script label line) why)
  pub serves : Serves script new is
  pub stays : Stays was is

-- The outcomes of a call that decides, by a line's front, at which outputs the line is selected, and puts the front and
-- the bytes after it into the logs. Either it gave all of that; or it stopped, with its reason. The place serves the
-- script as before.
pub record Decides {T : Type 0} (result : Result T LogFault) (script : List Act) (old new : Place)
    (was is : StoreState) (label : Tai64n) (behind : List ℕ) : Type 0 where
  pub takes : OnOk result (Takes (outputs old.tails was) (outputs new.tails is)
      (of_put script label old.front (old.front ++ behind)))
  pub stopped : IfErr result (λ why. Stops (outputs old.tails was) (outputs new.tails is)
      (of_put script label old.front (old.front ++ behind)) why)
  pub serves : Serves script new is
  pub stays : Stays was is

-- A place is as before, except for the bytes that wait.
pub record SamePlace (old new : Place) : Type 0 where
  pub tails : length new.tails ≡ length old.tails
  pub chosen : new.chosen ≡ old.chosen
  pub front : new.front ≡ old.front
  pub decided : new.decided ≡ old.decided
