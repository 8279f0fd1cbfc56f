-- The entries of a trace by their kinds, the last one of a kind, and what comes before and after it.
use Rattle.std.specs.Prelude.{ℕ, Bool, true, false, if◌then◌else◌, List, [], ◌∷◌, codes, Option, Some, None, is_some}
use Rattle.std.specs.List.{list_any}
use Rattle.sup_core.specs.declared.event.Event.{Event}
use Rattle.sup_core.specs.declared.event.Event.TheVariants.{Byte, Started, StartFailed, Death}
use Rattle.sup_core.specs.History.{is_among}
use Rattle.sup_core.specs.Rules.{signal_of}
use Rattle.cmd_why.specs.declared.entries.Kind.{Kind}
use Rattle.cmd_why.specs.declared.entries.Kind.TheVariants as kind

-- whether a control byte sends a signal to a running process; and whether an entry is of a kind
abbrev pub is_signal : ℕ → Bool
is_signal byte = is_some (signal_of byte)

abbrev pub is_of : Kind → Event → Bool
is_of kind.Start (Started pid label) = true
is_of kind.Attempt (Started pid label) = true
is_of kind.Attempt (StartFailed label) = true
is_of kind.Death (Death label) = true
is_of kind.Control (Byte byte) = true
is_of kind.Signal (Byte byte) = is_signal byte
is_of kind.Want (Byte byte) = is_among (codes "udo") byte
is_of other event = false

-- the last item that passes a test
abbrev pub last_such : {X : Type 0} → (X → Bool) → List X → Option X
last_such test [] = None
last_such test (x ∷ xs) = if list_any test xs then last_such test xs else if test x then Some x else None

-- those after the last one that passes: the longest tail in which none passes
abbrev pub behind_last_such : {X : Type 0} → (X → Bool) → List X → List X
behind_last_such test [] = []
behind_last_such test (x ∷ xs) = if list_any test (x ∷ xs) then behind_last_such test xs else x ∷ xs

-- those before the last one that passes, if there is one
abbrev pub before_last_such : {X : Type 0} → (X → Bool) → List X → List X
before_last_such test [] = []
before_last_such test (x ∷ xs) = if list_any test xs then x ∷ before_last_such test xs else []

-- whether one of these entries is of a kind
abbrev pub has : Kind → List Event → Bool
has k entries = list_any (is_of k) entries

-- the last one of a kind, those after it, and those before it
abbrev pub last_of : Kind → List Event → Option Event
last_of k entries = last_such (is_of k) entries

abbrev pub behind_last : Kind → List Event → List Event
behind_last k entries = behind_last_such (is_of k) entries

abbrev pub before_last : Kind → List Event → List Event
before_last k entries = before_last_such (is_of k) entries

-- the control byte of an event, if it is one
abbrev pub byte_in : Option Event → Option ℕ
byte_in (Some (Byte byte)) = Some byte
byte_in other = None
