-- What is left over of a start that an earlier svscan intended, among the processes of the system.
use Rattle.std.specs.Prelude.{◌≡◌, ◌<◌, ◌≤◌, ⊤, ◌==◌, ◌&&◌, ◌||◌, ℕ, zero, suc, Bool, true, false, not}
use Rattle.std.specs.Prelude.{if◌then◌else◌, List, find}
use Rattle.std.specs.Prelude.{is_none, nat_le, Option, Some, None}
use Rattle.std.specs.List.{Contains, list_any}
use Rattle.std.specs.Option.{option_map_or}
use Rattle.svc_record.specs.declared.leftover.Seen.{Seen}
use Rattle.svc_record.specs.declared.leftover.Intent.{Intent}
use Rattle.svc_record.specs.declared.leftover.Leftover.{Leftover}
use Rattle.svc_record.specs.declared.leftover.Leftover.TheVariants.{Nobody, Process, Unsure}
use Rattle.svc_record.specs.declared.process.Fate.{Fate}
use Rattle.svc_record.specs.declared.process.Fate.TheVariants.{Lives}

-- the process with this number among these
abbrev pub process_at : (pid : ℕ) → List Seen → Option Seen
process_at pid all = find (λ other. other.pid == pid) all

-- the parent of a process, if it is among these
abbrev pub parent_in : List Seen → Seen → Option Seen
parent_in all one = process_at one.parent all

-- A process is new if it is alive and began since the intent.
abbrev pub is_new : Intent → Seen → Bool
is_new intent one = not one.has_died && nat_le intent.tick one.tick

-- the parent, if it is new
abbrev pub if_new : Intent → Option Seen → Option Seen
if_new intent None = None
if_new intent (Some parent) = if is_new intent parent then Some parent else None

-- the topmost of a process and its new ancestors, up to this many generations
unfoldable pub topmost : (generations : ℕ) → Intent → List Seen → Seen → Seen
topmost zero intent all one = one
topmost (suc n) intent all one = option_map_or (topmost n intent all) (if_new intent (parent_in all one)) one

-- whether a process or an ancestor of it is known, up to this many generations
unfoldable pub is_known : (generations : ℕ) → List Seen → Seen → Bool
is_known zero all one = false
is_known (suc n) all one = one.is_known || option_map_or (is_known n all) (parent_in all one) false

-- A process is open if it is new, and neither it nor an ancestor is known. It may be what is left over.
abbrev pub is_open : (generations : ℕ) → Intent → List Seen → Seen → Bool
is_open generations intent all one = is_new intent one && not (is_known generations all one)

-- whether the process with this number is the topmost of an open process that is in the service's folder or has its
-- output
abbrev pub is_above_here : (generations : ℕ) → Intent → List Seen → (pid : ℕ) → Bool
is_above_here generations intent all pid =
    list_any (λ other. other.is_here && (is_open generations intent all other
    && (topmost generations intent all other).pid == pid)) all

-- A root is the topmost open process above one that is here.
abbrev pub is_root : (generations : ℕ) → Intent → List Seen → Seen → Bool
is_root generations intent all one =
    is_open generations intent all one && is_above_here generations intent all one.pid

-- whether a process leads a session of its own, and is not younger than this svscan
abbrev pub leads : Intent → Seen → Bool
leads intent one = (one.session == one.pid) && nat_le one.tick intent.until

-- By its session a process may be the one of the start. Either it has the session of the svscan that intended the
-- start; or the service begins a session, and the process leads one.
abbrev pub may_be_started : Intent → Seen → Bool
may_be_started intent one = (one.session == intent.session) || (intent.begins_session && leads intent one)

-- whether another open process runs in the folder of the same neighbour, and is not below this one
abbrev pub has_others_there : (generations : ℕ) → Intent → List Seen → Seen → Bool
has_others_there generations intent all one =
    list_any (λ other. (other.neighbour == one.neighbour) && (is_open generations intent all other
    && not ((topmost generations intent all other).pid == one.pid))) all

-- A process belongs to a neighbour if it runs in the folder of a neighbour, and every other open process there is below
-- it.
abbrev pub is_neighbours : (generations : ℕ) → Intent → List Seen → Seen → Bool
is_neighbours generations intent all one =
    not (one.neighbour == 0) && not (has_others_there generations intent all one)

-- A stray is the topmost of open processes. By its session it may be the one of the start, none of those processes is
-- here, and it belongs to no neighbour and to no service elsewhere. A process of this svscan's own session that began
-- after this svscan is no stray.
abbrev pub is_stray : (generations : ℕ) → Intent → List Seen → Seen → Bool
is_stray generations intent all one =
    may_be_started intent one && (not one.is_late && (not one.is_elsewhere && (is_open generations intent all one
    && ((topmost generations intent all one).pid == one.pid && (not (is_above_here generations intent all one.pid)
    && not (is_neighbours generations intent all one))))))

-- whether there is a root other than the process with this number
abbrev pub has_other_root : (generations : ℕ) → Intent → List Seen → (pid : ℕ) → Bool
has_other_root generations intent all pid =
    list_any (λ one. not (one.pid == pid) && is_root generations intent all one) all

-- the first root, and the first stray
abbrev pub first_root : (generations : ℕ) → Intent → List Seen → Option Seen
first_root generations intent all = find (λ one. is_root generations intent all one) all

abbrev pub first_stray : (generations : ℕ) → Intent → List Seen → Option Seen
first_stray generations intent all = find (λ one. is_stray generations intent all one) all

-- what is left over, if this is the first stray
abbrev pub without_root : (stray : Option Seen) → Leftover
without_root None = Nobody
without_root (Some stray) = Unsure stray.pid

-- what is left over, if this is the first root: this process, if it is sure
abbrev pub with_root : (is_sure : Bool) (root : Seen) → Leftover
with_root true root = Process root.pid root.tick
with_root false root = Unsure root.pid

-- A root is sure if by its session it may be the process of the start, it belongs to no service elsewhere, and there is
-- no other root and no stray.
abbrev pub is_sure : (generations : ℕ) → Intent → List Seen → (root : Seen) → Bool
is_sure generations intent all root =
    may_be_started intent root && (not root.is_elsewhere && (not (has_other_root generations intent all root.pid)
    && is_none (first_stray generations intent all)))

-- What is left over, by the first root: nobody, if there is neither a root nor a stray.
abbrev pub left_by : (generations : ℕ) → Intent → List Seen → (root : Option Seen) → Leftover
left_by generations intent all None = without_root (first_stray generations intent all)
left_by generations intent all (Some root) = with_root (is_sure generations intent all root) root

abbrev pub find_leftover : (generations : ℕ) → Intent → List Seen → Leftover
find_leftover generations intent all = left_by generations intent all (first_root generations intent all)

-- the first process that is alive, is here and is not known
abbrev pub first_here : List Seen → Option Seen
first_here all = find (λ one. one.is_here && (not one.has_died && not one.is_known)) all

-- What is left over of a start with an unknown time and session: perhaps the first process that is here.
abbrev pub find_any_here : List Seen → Leftover
find_any_here all = without_root (first_here all)

-- If what is left over is a process, it has a number of at least 1.
abbrev pub HasNumber : Leftover → Type 0
HasNumber (Process pid tick) = 0 < pid
HasNumber other = ⊤

-- the same, except that a process without a number counts as nobody
abbrev pub numbered : Leftover → Leftover
numbered (Process pid tick) = if pid == 0 then Nobody else Process pid tick
numbered other = other

-- What is left over is awaited: no process of it is adopted.
abbrev pub IsAwaited : Leftover → Type 0
IsAwaited (Process pid tick) = ⊥
IsAwaited other = ⊤

-- the same, except that a process is awaited
abbrev pub awaited : Leftover → Leftover
awaited (Process pid tick) = Unsure pid
awaited other = other

-- what is left over of a `finish` whose process became this: it is awaited while it lives
abbrev pub left_of_finish : Fate → Leftover
left_of_finish (Lives process) = Unsure process.pid
left_of_finish other = Nobody

-- A process that may be taken up was seen. It is alive and began since the intent. It belongs to nobody else: neither it nor
-- an ancestor is known, and it runs in no other folder that names it. By its session it may be the process of the start.
pub record IsOwnProcess (generations : ℕ) (intent : Intent) (all : List Seen) (one : Seen) : Type 0 where
  pub seen : Contains all one
  pub alive : one.has_died ≡ false
  pub since : intent.tick ≤ one.tick
  pub unknown : is_known generations all one ≡ false
  pub not_elsewhere : one.is_elsewhere ≡ false
  pub session : may_be_started intent one ≡ true

-- Law: what is taken up is such a process, and there is no stray.
abbrev pub TakesUpItsOwn : (generations : ℕ) → Type 0
TakesUpItsOwn generations =
    (intent : Intent) (all : List Seen) (pid tick : ℕ) → find_leftover generations intent all ≡ Process pid tick
    → (one : Seen) × IsOwnProcess generations intent all one × (one.pid ≡ pid) × (one.tick ≡ tick)
    × (first_stray generations intent all ≡ None)

-- Law: if nobody is left, there is neither a root nor a stray.
abbrev pub NobodyIsLeft : (generations : ℕ) → Type 0
NobodyIsLeft generations =
    (intent : Intent) (all : List Seen) → find_leftover generations intent all ≡ Nobody
    → (first_root generations intent all ≡ None) × (first_stray generations intent all ≡ None)
