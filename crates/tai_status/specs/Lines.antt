-- The lines of a text, and their stamps.
use Rattle.std.specs.Prelude.{◌≡◌, ℕ, ◌==◌, not, filter, if◌then◌else◌, List, [], ◌∷◌, ◌++◌, length, map, Option}
use Rattle.std.specs.List.{onto_first}
use Rattle.tai_status.specs.Label.{Tai64n, label_text}
use Rattle.tai_status.specs.Counted.{Device, Gives, Wrote, WroteFront}
use Rattle.tai_status.specs.Extended.{Extended}

-- the lines of a text, each with its newline; the last line may have none
abbrev pub lines_of : List ℕ → List (List ℕ)
lines_of [] = []
lines_of (byte ∷ bytes) = if byte == 10 then (10 ∷ []) ∷ lines_of bytes else onto_first byte (lines_of bytes)

-- the same lines without their newlines
abbrev pub texts_of : List ℕ → List (List ℕ)
texts_of [] = []
texts_of (byte ∷ bytes) = if byte == 10 then [] ∷ texts_of bytes else onto_first byte (texts_of bytes)

-- a line without its newline
abbrev pub without_newline : List ℕ → List ℕ
without_newline line = filter (λ byte. not (byte == 10)) line

-- what is written before a line: its label's text and a space
unfoldable pub stamp : Tai64n → List ℕ
stamp label = label_text label ++ 32 ∷ []

-- A byte, and the label that the clock gave for its line.
pub record Sent : Type 0 where
  pub byte : ℕ
  pub reading : Tai64n

-- bytes of one line
abbrev pub sent : Tai64n → List ℕ → List Sent
sent reading bytes = map (λ byte. record { byte = byte; reading = reading }) bytes

-- each line after its stamp; a line without a label is left out
abbrev pub stamped : List Tai64n → List (List ℕ) → List ℕ
stamped labels [] = []
stamped [] (line ∷ lines) = []
stamped (label ∷ labels) (line ∷ lines) = stamp label ++ line ++ stamped labels lines

-- The state of stamping: what is read, what is written, and what the clock gave.
pub record StampState : Type 0 where
  pub reader : Device
  pub writer : Device
  pub readings : Option (List Tai64n)

abbrev pub stamp_state : Device → Device → Option (List Tai64n) → StampState
stamp_state reader writer readings = record { reader = reader; writer = writer; readings = readings }

-- Bytes were read that have this many lines. Each line was written after its stamp, and the clock was read once for
-- each.
pub record Stamps (old new : StampState) (count : ℕ) : Type 0 where
  pub bytes : List ℕ
  pub labels : List Tai64n
  pub read : Gives old.reader new.reader bytes
  pub gave : Extended old.readings new.readings labels
  pub each : length labels ≡ length (lines_of bytes)
  pub text : Wrote old.writer new.writer (stamped labels (lines_of bytes))
  pub count_is : count ≡ length (lines_of bytes)

-- All lines of what was read are stamped and written.
abbrev pub StampsAll : (reader read writer written : Device) → (past now : Option (List Tai64n)) → Type 0
StampsAll reader read writer written past now =
    (count : ℕ) × Stamps (stamp_state reader writer past) (stamp_state read written now) count

-- Bytes were read, and a prefix of their stamped lines was written.
pub record StampsFront (old new : StampState) : Type 0 where
  pub bytes : List ℕ
  pub labels : List Tai64n
  pub read : Gives old.reader new.reader bytes
  pub gave : Extended old.readings new.readings labels
  pub text : WroteFront old.writer new.writer (stamped labels (lines_of bytes))

-- A prefix of the stamped lines of what was read is written.
abbrev pub StampsSome : (reader read writer written : Device) → (past now : Option (List Tai64n)) → Type 0
StampsSome reader read writer written past now =
    StampsFront (stamp_state reader writer past) (stamp_state read written now)

-- The same, for a clock with these readings.

abbrev pub StampsBy : {C : Type 0} (reader read writer written : Device) (readings : C → Option (List Tai64n))
    (past now : C) (count : ℕ) → Type 0
StampsBy reader read writer written readings past now count =
    Stamps (stamp_state reader writer (readings past)) (stamp_state read written (readings now)) count

abbrev pub StampsAllBy : {C : Type 0} (reader read writer written : Device) (readings : C → Option (List Tai64n))
    (past now : C) → Type 0
StampsAllBy reader read writer written readings past now =
    StampsAll reader read writer written (readings past) (readings now)

abbrev pub StampsSomeBy : {C : Type 0} (reader read writer written : Device) (readings : C → Option (List Tai64n))
    (past now : C) → Type 0
StampsSomeBy reader read writer written readings past now =
    StampsSome reader read writer written (readings past) (readings now)
