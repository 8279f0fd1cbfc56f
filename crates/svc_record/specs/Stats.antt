-- What the kernel's line about a process reports (proc(5), `/proc/PID/stat`).
use Rattle.std.specs.Prelude.{◌≡◌, ◌<◌, ◌-◌, ◌^◌, ◌==◌, ℕ, Bool, false, ◌||◌, if◌then◌else◌, List, [], ◌∷◌}
use Rattle.std.specs.Prelude.{decimal, slice_get, Option, Some, None}
use Rattle.std.specs.List.{after_last}
use Rattle.sup_core.specs.Reading.{fields}
use Rattle.svc_record.specs.declared.leftover.Seen.{Seen}
use Rattle.svc_record.specs.declared.stat.Stat.{Stat}

-- what comes after the last parenthesis of a line, which ends the program's name; the whole line if there is none
abbrev pub behind_name : List ℕ → List ℕ
behind_name line = after_last (λ byte. byte == 41) line

-- The field of this number in a line, counted as in proc(5), from 3 on. Field 2 is the program's name, in parentheses.
-- It may have spaces and parentheses itself, and no field after it has any.
abbrev pub stat_field : (line : List ℕ) (number : ℕ) → Option (List ℕ)
stat_field line number = slice_get (fields (behind_name line)) (number - 2)

-- whether a process in this state is a zombie or dead
abbrev pub is_dead : List ℕ → Bool
is_dead (letter ∷ []) = (letter == 90) || (letter == 88)
is_dead other = false

-- A line says this about its process: its state, its parent, its session, and the tick at which it began.
pub record SaysStat (line : List ℕ) (stat : Stat) : Type 0 where
  pub state : List ℕ
  pub stands : stat_field line 3 ≡ Some state
  pub has_died : stat.has_died ≡ is_dead state
  pub parent : stat_field line 4 ≡ Some (decimal stat.parent)
  pub session : stat_field line 6 ≡ Some (decimal stat.session)
  pub tick : stat_field line 22 ≡ Some (decimal stat.tick)

-- A line says that its process lives, and that it began at this tick of the kernel's clock.
pub record SaysLiving (line : List ℕ) (tick : ℕ) : Type 0 where
  pub state : List ℕ
  pub state_is : stat_field line 3 ≡ Some state
  pub lives : is_dead state ≡ false
  pub began : stat_field line 22 ≡ Some (decimal tick)

-- Numbers fit their types.
pub record FitsStat (stat : Stat) : Type 0 where
  pub parent : stat.parent < 2 ^ 64
  pub session : stat.session < 2 ^ 64
  pub tick : stat.tick < 2 ^ 64

-- the tick at which a process began, if it lives
abbrev pub living_tick : Stat → Option ℕ
living_tick stat = if stat.has_died then None else Some stat.tick

-- the process with this number, as a look at all processes sees it
abbrev pub seen_as : (pid : ℕ) → Stat → Seen
seen_as pid stat = record {
  pid = pid;
  parent = stat.parent;
  tick = stat.tick;
  session = stat.session;
  has_died = stat.has_died;
  is_here = false;
  is_known = false;
  is_late = false;
  is_elsewhere = false;
  neighbour = 0;
}
