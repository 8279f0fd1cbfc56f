-- The logs, alerts and status files of a script, and what happens to them.
use Rattle.std.specs.Prelude.{◌≡◌, ℕ, ◌≤◌, List, [], ◌++◌, length, take, slice_get, Option, Some, None}
use Rattle.std.specs.Prelude.{Result, OnOk, IfErr}
use Rattle.std.specs.Io.KnownBytes.{Appends}
use Rattle.tai_status.specs.Counted.{AppendsFront, Rose}
use Rattle.tai_status.specs.Lines.{Sent}
use Rattle.mlog_files.specs.Files.{Files, Step, append_steps}
use Rattle.mlog_files.specs.Going.{Standing, steps_on, standing_on}
use Rattle.mlog_files.specs.Store.{StoreState, Stays, Reaches, WasGiven}
use Rattle.mlog_files.specs.Tails.{size_of, keep_of, waiting_in, standing}
use Rattle.mlog_files.specs.declared.tail.Tail.{Tail}
use Rattle.mlog_files.specs.declared.tail.LogFault.{LogFault}
use Rattle.mlog_files.specs.declared.tail.LogFault.TheVariants as fault
use Rattle.mlog_line.specs.Given.{Given, joined, bytes_of}

-- The ends of the logs, and the store.
pub record Outputs : Type 0 where
  pub tails : List Tail
  pub store : StoreState

abbrev pub outputs : List Tail → StoreState → Outputs
outputs tails store = record { tails = tails; store = store }

-- the steps of a log for a text
abbrev pub steps_for : Tail → List Sent → List Step
steps_for tail text = steps_on (size_of tail) (keep_of tail) (Some (standing tail)) text

-- the state of the log after the text
abbrev pub after : Tail → List Sent → Option Standing
after tail text = standing_on (size_of tail) (keep_of tail) (Some (standing tail)) text

-- A text went into a log. Some of it may wait in memory.
pub record TakesIn (tail now : Tail) (old new : Option Files) (text : List Sent) : Type 0 where
  pub done : List Step
  pub reaches : Reaches old new done
  pub whole : done ++ append_steps (waiting_in now) ≡ append_steps (waiting_in tail) ++ steps_for tail text
  pub stands : after tail text ≡ Some (standing now)
  pub size : size_of now ≡ size_of tail
  pub keep : keep_of now ≡ keep_of tail

-- The files of a log went through a prefix of the steps for a text, after the bytes that waited.
pub record TakesFront (tail : Tail) (old new : Option Files) (text : List Sent) : Type 0 where
  pub count : ℕ
  pub reaches : Reaches old new (take count (append_steps (waiting_in tail) ++ steps_for tail text))

-- The same for the log with a number. If no log has that number, the files are as before.
abbrev pub TakesInAt : (old new : Option Tail) (was are : Option Files) → List Sent → Type 0
TakesInAt None None was are text = Reaches was are []
TakesInAt None (Some now) was are text = ⊥
TakesInAt (Some tail) None was are text = ⊥
TakesInAt (Some tail) (Some now) was are text = TakesIn tail now was are text

abbrev pub TakesFrontAt : Option Tail → (was are : Option Files) → List Sent → Type 0
TakesFrontAt None was are text = Reaches was are []
TakesFrontAt (Some tail) was are text = TakesFront tail was are text

-- A status file was given a prefix of these contents.
pub record GivenFront (old new : Option (List (List ℕ))) (contents : List (List ℕ)) : Type 0 where
  pub count : ℕ
  pub front : WasGiven old new (take count contents)

-- This was given to the outputs.
pub record Takes (old new : Outputs) (given : Given) : Type 0 where
  pub logs : (log : ℕ) → TakesInAt (slice_get old.tails log) (slice_get new.tails log)
      (old.store.visible.files log) (new.store.visible.files log) (given.logs log)
  pub alerts : Appends old.store.visible.alerts new.store.visible.alerts given.alerts
  pub files : (file : ℕ)
      → WasGiven (old.store.visible.statuses file) (new.store.visible.statuses file) (given.files file)
  pub steady : old.store.failures ≤ new.store.failures

-- A log has no label for an old file that a text fills.
abbrev pub IsSpent : Option Tail → List Sent → Type 0
IsSpent None text = ⊥
IsSpent (Some tail) text = after tail text ≡ None

-- One of the logs has no label for an old file that its text fills.
pub record Spends (old : Outputs) (given : Given) : Type 0 where
  pub log : ℕ
  pub spent : IsSpent (slice_get old.tails log) (given.logs log)

-- The outputs were not given all of this. Each log took a prefix of its steps, a prefix of the alerts was alerted, and
-- each status file was given a prefix of its contents; and the reason.
pub record Stops (old new : Outputs) (given : Given) (why : LogFault) : Type 0 where
  pub logs : (log : ℕ)
      → TakesFrontAt (slice_get old.tails log) (old.store.visible.files log) (new.store.visible.files log)
      (given.logs log)
  pub alerts : AppendsFront old.store.visible.alerts new.store.visible.alerts given.alerts
  pub files : (file : ℕ)
      → GivenFront (old.store.visible.statuses file) (new.store.visible.statuses file) (given.files file)
  pub store : why ≡ fault.Store → Rose old.store.failures new.store.failures
  pub spent : why ≡ fault.LabelsSpent → Spends old given

-- The outcomes of a call that gives this to the outputs: all of it was given, or the call stopped, with its reason. The
-- numbers of logs and status files are as before.
pub record Hands {T : Type 0} (result : Result T LogFault) (tails now : List Tail) (was is : StoreState) (given : Given)
    : Type 0 where
  pub ok : OnOk result (Takes (outputs tails was) (outputs now is) given)
  pub stopped : IfErr result (λ why. Stops (outputs tails was) (outputs now is) given why)
  pub length : length now ≡ length tails
  pub stays : Stays was is

-- The same for bytes that may be those of any text: what a text with these bytes gives.
pub record HandsText {T : Type 0} (result : Result T LogFault) (tails now : List Tail) (was is : StoreState)
    (bytes : List ℕ) (given : List Sent → Given) : Type 0 where
  pub ok : OnOk result ((text : List Sent) → bytes_of text ≡ bytes
      → Takes (outputs tails was) (outputs now is) (given text))
  pub stopped : IfErr result (λ why. (text : List Sent) → bytes_of text ≡ bytes
      → Stops (outputs tails was) (outputs now is) (given text) why)
  pub length : length now ≡ length tails
  pub stays : Stays was is

-- two that give the same to all outputs
pub record SameGiven (a b : Given) : Type 0 where
  pub logs : (log : ℕ) → a.logs log ≡ b.logs log
  pub alerts : a.alerts ≡ b.alerts
  pub files : (file : ℕ) → a.files file ≡ b.files file

-- Outputs that were given the first have now been given the second.
pub record Grows (old new : Outputs) (before now : Given) : Type 0 where
  pub more : Given
  pub whole : SameGiven (joined before more) now
  pub takes : Takes old new more

-- The outputs stopped on the way from the first to the second.
pub record StopsAt (old new : Outputs) (before now : Given) (why : LogFault) : Type 0 where
  pub more : Given
  pub whole : SameGiven (joined before more) now
  pub stops : Stops old new more why
