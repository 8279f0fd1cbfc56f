-- The lines about all services of a folder, for people: svstat's lines with the states in one column, and in color on a
-- terminal.
use Rattle.std.specs.Prelude.{ℕ, ◌+◌, ◌-◌, max, nat_le, Bool, true, false, ◌&&◌, if◌then◌else◌, List, [], ◌∷◌, ◌++◌}
use Rattle.std.specs.Prelude.{codes, drop, length, replicate, take}
use Rattle.tai_status.specs.Record.{Status}
use Rattle.tai_status.specs.Loading.{status_in}
use Rattle.cmd_svc.specs.Line.{is_running, wants_up}
use Rattle.cmd_svc.specs.Shown.{shown}
use Rattle.cmd_svc.specs.Svstat.{look_line}
use Rattle.cmd_svc.specs.declared.look.ServiceLook.{ServiceLook}
use Rattle.cmd_svc.specs.declared.look.ServiceLook.TheVariants as look
use Rattle.cmd_svc.specs.declared.listed.Shade.{Shade}
use Rattle.cmd_svc.specs.declared.listed.Shade.TheVariants as shade

-- the bytes for which other names leave room: those of the name, but none for a name of more than 32
abbrev pub room_for : (name : List ℕ) → ℕ
room_for name = if nat_le (length name) 32 then length name else 0

-- the greatest room of these names, and of those before them
abbrev pub widest : (width : ℕ) → List (List ℕ) → ℕ
widest width [] = width
widest width (name ∷ names) = widest (max width (room_for name)) names

-- Whether states have colors: on a terminal, if the variable NO_COLOR is not set or is empty.
abbrev pub is_colored : (terminal unset : Bool) → Bool
is_colored terminal unset = terminal && unset

-- the shade of a state: up; down, as it is wanted; and down, though it is wanted up
abbrev pub shade_of : ServiceLook → Shade
shade_of (look.Standing loaded normally_up now course) =
    if is_running (status_in loaded) then shade.Green
    else if wants_up (status_in loaded).want then shade.Red
    else shade.Yellow
shade_of other = shade.Plain

-- how many bytes the word has that is shaded: `up` or `down`
abbrev pub word_length : Shade → ℕ
word_length shade.Green = 2
word_length shade.Yellow = 4
word_length shade.Red = 4
word_length shade.Plain = 0

-- what a terminal takes as the beginning and the end of a color
abbrev pub code_of : Shade → List ℕ
code_of shade.Green = 27 ∷ codes "[32m"
code_of shade.Yellow = 27 ∷ codes "[33m"
code_of shade.Red = 27 ∷ codes "[31m"
code_of shade.Plain = []

abbrev pub code_end : Shade → List ℕ
code_end shade.Plain = []
code_end other = 27 ∷ codes "[0m"

abbrev pub used_shade : (colored : Bool) → Shade → Shade
used_shade colored of = if colored then of else shade.Plain

-- A line whose name, with the colon and the blank after it, has this length: spaces after that, and the first word of
-- the rest shaded.
unfoldable pub shaded : (name spaces : ℕ) → Shade → (line : List ℕ) → List ℕ
shaded name spaces of line =
    shown (take name line) ++ replicate spaces 32
    ++ code_of of ++ shown (take (word_length of) (drop name line)) ++ code_end of
    ++ shown (drop (word_length of) (drop name line))

-- the line about a look at the service in a folder, without a newline
abbrev pub listed_line : (width : ℕ) (colored : Bool) (folder : List ℕ) → ServiceLook → List ℕ
listed_line width colored folder look =
    shaded (length folder + 2) (width - length folder) (used_shade colored (shade_of look)) (look_line folder look)
