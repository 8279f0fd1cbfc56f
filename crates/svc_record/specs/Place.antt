-- The place of a service: the process that was started last, or that one is about to be started, and what is wanted.
use Rattle.std.specs.Prelude.{◌≡◌, ◌<◌, ◌+◌, ◌^◌, ◌==◌, ◌&&◌, ◌||◌, ℕ, Bool, true, false, not, if◌then◌else◌}
use Rattle.std.specs.Prelude.{List, ◌++◌, codes}
use Rattle.std.specs.Prelude.{decimal, length, position, take, Option, Some, None}
use Rattle.std.specs.Borrow.{Bor}
use Rattle.tai_status.specs.declared.record.Want.{Want}
use Rattle.tai_status.specs.declared.record.Want.TheVariants as want
use Rattle.svc_record.specs.declared.place.Place.{Place}
use Rattle.svc_record.specs.declared.process.ProcessId.{ProcessId}

-- the number of a wanted state in a place
abbrev pub want_number : Want → ℕ
want_number want.Down = 0
want_number want.Up = 1
want_number want.Once = 2

-- the same, or 3 more if the start is that of the service's `finish`
abbrev pub last_number : (is_finish : Bool) → Want → ℕ
last_number false wanted = want_number wanted
last_number true wanted = 3 + want_number wanted

-- the line of a place: PID TICK SESSION INIT WANT BOOT, separated by spaces
abbrev pub place_end : Place → List ℕ
place_end place = decimal (last_number place.is_finish place.want) ++ codes " " ++ place.boot ++ codes "\n"

abbrev pub place_rest : Place → List ℕ
place_rest place = decimal place.session ++ codes " " ++ decimal place.init ++ codes " " ++ place_end place

abbrev pub place_line : Place → List ℕ
place_line place = decimal place.pid ++ codes " " ++ decimal place.tick ++ codes " " ++ place_rest place

-- the numbers before the first two spaces, and what comes after them
abbrev pub AreTwo : (first second : ℕ) (rest : List ℕ) → ℕ × ℕ × Bor (List ℕ) → Type 0
AreTwo first second rest parts = (parts.0 ≡ first) × (parts.1 ≡ second) × (parts.2.now ≡ rest)

-- Numbers fit their types, and the name of a boot has 36 bytes.
pub record IsPlace (place : Place) : Type 0 where
  pub pid : place.pid < 2 ^ 32
  pub tick : place.tick < 2 ^ 64
  pub session : place.session < 2 ^ 64
  pub init : place.init < 2 ^ 64
  pub boot : length place.boot ≡ 36

-- the line up to its newline at this place, or all if there is no newline
abbrev pub line_to : Option ℕ → List ℕ → List ℕ
line_to None text = text
line_to (Some at) text = take (at + 1) text

-- The first line of a text, with its newline. What is left of an older, longer line may come after it.
abbrev pub first_line : List ℕ → List ℕ
first_line text = line_to (position (λ byte. byte == 10) text) text

-- the place of a service before a start that an svscan with this session intended at this tick
abbrev pub intending : Place → (tick session : ℕ) → Place
intending place tick session = record place { pid = 0; tick = tick; session = session; is_finish = false }

-- the place of a service before a start of its `finish` that an svscan with this session intended at this tick
abbrev pub finishing : Place → (tick session : ℕ) → Place
finishing place tick session = record place { pid = 0; tick = tick; session = session; is_finish = true }

-- the place of a service after a start made this process, which began at this tick
abbrev pub occupied : Place → (pid tick : ℕ) → Place
occupied place pid tick = record place { pid = pid; tick = tick }

-- the place of a service after a start made no process, or after its `finish` ended
abbrev pub vacated : Place → Place
vacated place = record place { pid = 0; tick = 0; is_finish = false }

-- the place of a service with this wanted
abbrev pub wanting : Place → Want → Place
wanting place want = record place { want = want }

-- whether something of this start may run that is not the service's own recorded process
abbrev pub is_intent : Place → Bool
is_intent place = place.is_finish || ((place.pid == 0) && not (place.tick == 0))

-- the process in a place: the service's own, or its `finish`
abbrev pub occupant_in : Place → Option ProcessId
occupant_in place =
    if place.pid == 0 then None else Some (record { pid = place.pid; tick = place.tick; boot = place.boot })

-- the service's own process in a place
abbrev pub process_in : Place → Option ProcessId
process_in place = if place.is_finish then None else occupant_in place

-- the process of the service's `finish` in a place
abbrev pub finish_in : Place → Option ProcessId
finish_in place = if place.is_finish then occupant_in place else None

-- Both are from one run of the system: they have the same boot, and the same first process in it.
pub record AreOfOneRun (place here : Place) : Type 0 where
  pub boot : place.boot ≡ here.boot
  pub init : place.init ≡ here.init

-- whether the time and the session of the intended start are both unknown
abbrev pub is_unknown : Place → Bool
is_unknown place = (place.pid == 0) && ((place.tick == 1) && (place.session == 0))

-- Law: what a place shows of a start. Its intent is seen until the process that it made is recorded, or it made none. An
-- intended `finish` is seen until that has ended.
pub record PlacesShowStarts : Type 0 where
  pub intended : (place : Place) (tick session : ℕ) → 0 < tick → is_intent (intending place tick session) ≡ true
  pub made : (place : Place) (tick session pid began : ℕ) → 0 < pid
      → is_intent (occupied (intending place tick session) pid began) ≡ false
  pub finishes : (place : Place) (tick session pid began : ℕ)
      → is_intent (occupied (finishing place tick session) pid began) ≡ true
  pub vacant : (place : Place) → is_intent (vacated place) ≡ false
