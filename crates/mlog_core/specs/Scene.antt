-- How far a run has come. No public contract names these definitions.
use Rattle.std.specs.Prelude.{◌≡◌, ℕ, ◌+◌, ◌<◌, ◌≤◌, Bool, true, false, List, [], ◌∷◌, ◌++◌, length, take, drop}
use Rattle.std.specs.Prelude.{count_by, Option, Some, None, Result, OnOk, IfOk, IfErr}
use Rattle.tai_status.specs.Label.{Tai64n}
use Rattle.tai_status.specs.Lines.{texts_of, Sent}
use Rattle.tai_status.specs.Extended.{Extended}
use Rattle.tai_status.specs.LineReader.{IsPlain}
use Rattle.mlog_script.specs.Script.{Act, is_log}
use Rattle.mlog_script.specs.Selection.{is_whole}
use Rattle.mlog_files.specs.Store.{StoreState, Stays}
use Rattle.mlog_files.specs.declared.tail.LogFault.{LogFault}
use Rattle.mlog_line.specs.LineRouter.{Place, IsAt, Serves}
use Rattle.mlog_line.specs.Given.{joined, of_line, of_text, so_far, to_first, bytes_of}
use Rattle.mlog_line.specs.Outputs.{Outputs, outputs, SameGiven, Grows, StopsAt}
use Rattle.mlog_line.specs.Reach.{AllOrNone, logs_in}
use Rattle.mlog_line.specs.declared.line_router.Reach.{Reach}
use Rattle.mlog_core.specs.Run.{labels_of, given_in}
use Rattle.mlog_core.specs.declared.feed.AlikeLines.{AlikeLines}
use Rattle.mlog_core.specs.declared.feed.Taken.{Taken}
use Rattle.mlog_core.specs.declared.feed.Fed.{Fed}

-- There is a newline after this many bytes.
abbrev pub HasNewlineAt : (bytes : List ℕ) (len : ℕ) → Type 0
HasNewlineAt bytes len = (len < length bytes) × (bytes ≡ take len bytes ++ 10 ∷ drop (len + 1) bytes)

-- The label of the line that has begun, if there is one; the router; the store; and the readings of the clock.
pub record Scene : Type 0 where
  pub line : Option Tai64n
  pub place : Place
  pub store : StoreState
  pub readings : Option (List Tai64n)

abbrev pub scene : Option Tai64n → Place → StoreState → Option (List Tai64n) → Scene
scene line place store readings = record { line = line; place = place; store = store; readings = readings }

abbrev pub outputs_of : Scene → Outputs
outputs_of s = outputs s.place.tails s.store

-- These bytes of a line have come, and none of them is a newline.
abbrev pub IsInLine : List Act → Place → Option Tai64n → List ℕ → Type 0
IsInLine script place None line = line ≡ []
IsInLine script place (Some label) line = IsAt script place label line × IsPlain line × (0 < length line)

abbrev pub IsIn : List Act → Scene → List ℕ → Type 0
IsIn script s line = IsInLine script s.place s.line line

-- Bytes came after the bytes of a line: some lines are now whole, and a last one may have begun.
pub record Went (script : List Act) (old new : Scene) (line bytes : List ℕ) (count : ℕ) : Type 0 where
  pub labels : List Tai64n
  pub gave : Extended old.readings new.readings labels
  pub count_is : count ≡ length labels
  pub whole : List ℕ
  pub names : List Tai64n
  pub left : List ℕ
  pub cut : line ++ bytes ≡ whole ++ left
  pub named : labels_of old.line ++ labels ≡ names ++ labels_of new.line
  pub lines : is_whole whole ≡ true
  pub each : length names ≡ length (texts_of whole)
  pub at : IsIn script new left
  pub grows : Grows (outputs_of old) (outputs_of new) (given_in script old.line line)
      (joined (of_text script names whole) (given_in script new.line left))

-- Not all of the bytes were handed on.
pub record WentUpTo (script : List Act) (old new : Scene) (line bytes : List ℕ) (why : LogFault) : Type 0 where
  pub labels : List Tai64n
  pub gave : Extended old.readings new.readings labels
  pub stops : StopsAt (outputs_of old) (outputs_of new) (given_in script old.line line)
      (of_text script (labels_of old.line ++ labels) (line ++ bytes)) why

-- A line has this text more, and has not ended.
pub record LineOpen (script : List Act) (old new : Outputs) (place : Place) (label : Tai64n) (line text : List ℕ)
    : Type 0 where
  pub at : IsAt script place label (line ++ text)
  pub plain : IsPlain text
  pub grows : Grows old new (so_far script label line) (so_far script label (line ++ text))

-- A line has these bytes more. The last of them is its newline.
pub record LineEnded (script : List Act) (old new : Outputs) (label : Tai64n) (line bytes : List ℕ) : Type 0 where
  pub text : List ℕ
  pub plain : IsPlain text
  pub ends : bytes ≡ text ++ 10 ∷ []
  pub grows : Grows old new (so_far script label line) (of_line script label (line ++ text))

-- the line that continues after a part
abbrev pub left_of : Tai64n → Bool → Option Tai64n
left_of label true = None
left_of label false = Some label

-- A line with this reach can be added to some lines: it goes to all logs or to none, and if there are lines already,
-- they go to the same logs.
pub record GoesOn (lines : AlikeLines) (next : Reach) : Type 0 where
  pub alike : AllOrNone next
  pub same : 0 < lines.count → next ≡ lines.reach

-- Whole lines that all go, unchanged, to all logs or to none, with one reading of the clock for each.
pub record AreAlike (script : List Act) (reach : Reach) (old new : Option (List Tai64n)) (bytes : List ℕ) (count : ℕ)
    : Type 0 where
  pub labels : List Tai64n
  pub gave : Extended old new labels
  pub count_is : count ≡ length labels
  pub lines : is_whole bytes ≡ true
  pub each : length labels ≡ length (texts_of bytes)
  pub text : List Sent
  pub bytes_are : bytes_of text ≡ bytes
  pub same : SameGiven (to_first (logs_in reach (count_by is_log script)) text) (of_text script labels bytes)

-- The outcomes of a call with bytes of a line that has begun. Either it took some, and the line continues or has ended
-- with the last of them; or it stopped, with its reason. The router serves the script as before.
pub record FeedsLine (result : Result Taken LogFault) (script : List Act) (place now : Place) (was is : StoreState)
    (label : Tai64n) (bytes : List ℕ) : Type 0 where
  pub taken : IfOk result (λ taken. (0 < taken.len) × (taken.len ≤ length bytes))
  pub goes_on : IfOk result (λ taken. taken.ends ≡ false → (line : List ℕ) → IsAt script place label line
      → LineOpen script (outputs place.tails was) (outputs now.tails is) now label line (take taken.len bytes))
  pub ended : IfOk result (λ taken. taken.ends ≡ true → (line : List ℕ) → IsAt script place label line
      → LineEnded script (outputs place.tails was) (outputs now.tails is) label line (take taken.len bytes))
  pub stopped : IfErr result (λ why. (line : List ℕ) → IsAt script place label line → IsPlain line
      → StopsAt (outputs place.tails was) (outputs now.tails is)
      (so_far script label line) (of_text script (label ∷ []) (line ++ bytes)) why)
  pub serves : Serves script now is
  pub stays : Stays was is

-- The outcomes of a call with bytes, whether a line has begun or not. Either it took a prefix of them; or it stopped,
-- with its reason. The router serves the script as before.
pub record Feeds (result : Result Fed LogFault) (script : List Act) (inside : Option Tai64n) (place now : Place)
    (was is : StoreState) (read reads : Option (List Tai64n)) (bytes : List ℕ) : Type 0 where
  pub within : IfOk result (λ fed. fed.len ≤ length bytes)
  pub begun : IfOk result (λ fed. fed.begun ≤ fed.len)
  pub went : IfOk result (λ fed. (line : List ℕ) → IsIn script (scene inside place was read) line
      → Went script (scene inside place was read) (scene fed.inside now is reads) line (take fed.len bytes) fed.begun)
  pub stopped : IfErr result (λ why. (line : List ℕ) → IsIn script (scene inside place was read) line
      → WentUpTo script (scene inside place was read) (scene None now is reads) line bytes why)
  pub serves : Serves script now is
  pub stays : Stays was is

-- The same, for a store and a clock that contracts see in this way.
abbrev pub FeedsTo : {S C : Type 0} (result : Result Fed LogFault) (script : List Act) (inside : Option Tai64n)
    (place now : Place) (state : S → StoreState) (store stored : S) (readings : C → Option (List Tai64n))
    (clock read : C) (bytes : List ℕ) → Type 0
FeedsTo result script inside place now state store stored readings clock read bytes =
    Feeds result script inside place now (state store) (state stored) (readings clock) (readings read) bytes

-- The outcomes of a call at the end of the input: either the line that had begun has given all that it gives; or the
-- call stopped, with its reason.
pub record EndsInput {T : Type 0} (result : Result T LogFault) (script : List Act) (inside : Option Tai64n)
    (place now : Place) (was is : StoreState) : Type 0 where
  pub grows : OnOk result ((line : List ℕ) → IsInLine script place inside line
      → Grows (outputs place.tails was) (outputs now.tails is)
      (given_in script inside line) (of_text script (labels_of inside) line))
  pub stopped : IfErr result (λ why. (line : List ℕ) → IsInLine script place inside line
      → StopsAt (outputs place.tails was) (outputs now.tails is)
      (given_in script inside line) (of_text script (labels_of inside) line) why)
