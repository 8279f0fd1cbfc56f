-- What a logger reads that may be asked to rotate its logs, and to stop.
use Rattle.std.specs.Prelude.{◌≡◌, ℕ, ◌==◌, ◌⊎◌, ⊤, Bool, true, false, not, if◌then◌else◌, List, [], ◌∷◌, ◌++◌}
use Rattle.std.specs.Prelude.{Option, Some, None}
use Rattle.std.specs.List.{flat_map}
use Rattle.std.specs.Option.{option_map}
use Rattle.tai_status.specs.Counted.{IsRead}
use Rattle.tai_status.specs.declared.cause.Cause.{Cause}
use Rattle.mlog_script.specs.Script.{Act}
use Rattle.mlog_core.specs.Feed.{Feed}
use Rattle.mlog_core.specs.Run.{World, RunsAll}
use Rattle.mlog_core.specs.declared.stream.RunCounts.{RunCounts}
use Rattle.cmd_multilog.specs.declared.stop.LoggerEvent.{LoggerEvent}
use Rattle.cmd_multilog.specs.declared.stop.LoggerEvent.TheVariants as heard

-- A word that a logger hears, which asks for a rotation or a stop, and the bytes that come between it and the next
-- word.
pub record HeardWord : Type 0 where
  pub rotates : Bool
  pub bytes : List ℕ

-- What comes to a logger: the bytes before it hears a word, which are all bytes if it hears none; and the words.
pub record Coming : Type 0 where
  pub before : List ℕ
  pub words : List HeardWord

-- all bytes after the first word
abbrev pub all_behind : List HeardWord → List ℕ
all_behind [] = []
all_behind (word ∷ words) = word.bytes ++ all_behind words

-- all bytes that come
abbrev pub all_of : Coming → List ℕ
all_of coming = coming.before ++ all_behind coming.words

-- What comes changes this way, if it is reported. It is still reported afterwards.
abbrev pub Changes : Option Coming → Option Coming → (Coming → Coming → Type 0) → Type 0
Changes None None change = ⊤
Changes None (Some new) change = ⊥
Changes (Some old) None change = ⊥
Changes (Some old) (Some new) change = change old new

-- A word is heard, with no byte before it.
abbrev pub HearsWord : Bool → Coming → Coming → Type 0
HearsWord rotates old new =
    old ≡ record { before = []; words = record { rotates = rotates; bytes = new.before } ∷ new.words }

-- What is heard: a word; or that there is input.
abbrev pub Hears : LoggerEvent → Coming → Coming → Type 0
Hears heard.Stop old new = HearsWord false old new
Hears heard.Rotate old new = HearsWord true old new
Hears heard.Input old new = new ≡ old

-- These bytes are read. They come before the next word.
abbrev pub Reads : List ℕ → Coming → Coming → Type 0
Reads bytes old new = (old.before ≡ bytes ++ new.before) × (new.words ≡ old.words)

-- Nothing more comes.
abbrev pub IsOver : Option Coming → Type 0
IsOver None = ⊤
IsOver (Some coming) = coming ≡ record { before = []; words = [] }

-- whether a line is in hand after these bytes: the last of them is not a newline; or there are none, and a line was in
-- hand before
abbrev pub is_in_line : Bool → List ℕ → Bool
is_in_line was [] = was
is_in_line was (byte ∷ bytes) = is_in_line (not (byte == 10)) bytes

-- the bytes up to and including the first newline
abbrev pub to_newline : List ℕ → List ℕ
to_newline [] = []
to_newline (byte ∷ bytes) = byte ∷ (if byte == 10 then [] else to_newline bytes)

-- the bytes after the first newline
abbrev pub behind_newline : List ℕ → List ℕ
behind_newline [] = []
behind_newline (byte ∷ bytes) = if byte == 10 then bytes else behind_newline bytes

-- the rest of the line in hand, if there is one
abbrev pub rest_of_line : Bool → List ℕ → List ℕ
rest_of_line in_line bytes = if in_line then to_newline bytes else []

-- what comes after it
abbrev pub next_line : Bool → List ℕ → List ℕ
next_line in_line bytes = if in_line then behind_newline bytes else bytes

-- the rest of the line in hand after the first of these words
abbrev pub rest_behind : Bool → List HeardWord → List ℕ
rest_behind in_line [] = []
rest_behind in_line (word ∷ words) = rest_of_line in_line word.bytes

-- What a logger gets as one part: what comes before a word, and then the rest of the line in hand.
abbrev pub given : Bool → Coming → List ℕ
given in_line coming = coming.before ++ rest_behind (is_in_line in_line coming.before) coming.words

-- the part that begins with these bytes, before these words
abbrev pub part_of : List ℕ → List HeardWord → List ℕ
part_of bytes words = given false (record { before = bytes; words = words })

-- the parts after one; there are some if the first word asks for a rotation, and each begins after the line in hand
abbrev pub parts_behind : Bool → List HeardWord → List (List ℕ)
parts_behind in_line [] = []
parts_behind in_line (word ∷ words) =
    if word.rotates then part_of (next_line in_line word.bytes) words
    ∷ parts_behind (is_in_line false (next_line in_line word.bytes)) words else []

-- the bytes that are not read: those after a stop and the line in hand there
abbrev pub unread : Bool → List HeardWord → List ℕ
unread in_line [] = []
unread in_line (word ∷ words) =
    if word.rotates then unread (is_in_line false (next_line in_line word.bytes)) words
    else next_line in_line word.bytes ++ all_behind words

-- A reader that listens. It has what comes to it, and how many calls of its input failed. It has whether a word was
-- heard in the part that is read, and whether that asked for a rotation. It has whether a line is in hand, the number
-- of its reads and faults, and the cause of its last fault.
pub record Listening : Type 0 where
  pub coming : Option Coming
  pub failures : ℕ
  pub stopped : Bool
  pub rotates : Bool
  pub in_line : Bool
  pub reads : ℕ
  pub faults : ℕ
  pub cause : Option Cause

-- It has read and failed as often as before.
pub record SameCounts (old new : Listening) : Type 0 where
  pub reads : new.reads ≡ old.reads
  pub faults : new.faults ≡ old.faults
  pub cause : new.cause ≡ old.cause

-- It has heard what it had heard before.
pub record SameWord (old new : Listening) : Type 0 where
  pub stopped : new.stopped ≡ old.stopped
  pub rotates : new.rotates ≡ old.rotates

-- what it will still return of the part
abbrev pub left_in : Listening → Option (List ℕ)
left_in listening = option_map (λ coming.
    if listening.stopped then rest_of_line listening.in_line coming.before else given listening.in_line coming)
    listening.coming

-- the parts after that one, once a word was heard that comes with these bytes
abbrev pub parts_heard : Bool → Bool → Coming → List (List ℕ)
parts_heard rotates in_line coming =
    if rotates then part_of (next_line in_line coming.before) coming.words
    ∷ parts_behind (is_in_line false (next_line in_line coming.before)) coming.words else []

-- the parts after the one that is read
abbrev pub behind_in : Listening → Option (List (List ℕ))
behind_in listening = option_map (λ coming.
    if listening.stopped then parts_heard listening.rotates listening.in_line coming
    else parts_behind (is_in_line listening.in_line coming.before) coming.words)
    listening.coming

-- the input in parts, as contracts of a run see it
abbrev pub feed_of : Listening → Feed
feed_of listening = record {
  device = record {
    bytes = left_in listening;
    reads = listening.reads;
    faults = listening.faults;
    cause = listening.cause;
  };
  behind = behind_in listening;
  rotates = listening.rotates;
}

-- Laws

-- These bytes are a front of all, which is empty, or ends in a newline, or is all of them.
pub record IsLinesOf (bytes all : List ℕ) : Type 0 where
  pub rest : List ℕ
  pub front : all ≡ bytes ++ rest
  pub ends : (bytes ≡ []) ⊎ (is_in_line true bytes ≡ false) ⊎ (rest ≡ [])

-- the bytes up to the second word
abbrev pub before_second : Coming → List ℕ
before_second coming = coming.before ++ elim coming.words [ [] ↦ [] | word ∷ words ↦ word.bytes ]

-- A part that begins at the beginning of a line, as every part does, is whole lines, or all that comes before a second
-- word.
abbrev pub StopsAtALine : Type 0
StopsAtALine = (coming : Coming) → IsLinesOf (given false coming) (before_second coming)

-- The parts, and what is not read, are all that comes. At a rotation and at a stop no byte is lost, and none comes
-- twice.
abbrev pub LosesNothing : Type 0
LosesNothing = (coming : Coming) → all_of coming
    ≡ given false coming
    ++ (flat_map (λ part. part) (parts_behind (is_in_line false coming.before) coming.words)
    ++ unread (is_in_line false coming.before) coming.words)

-- A run that read all of a part handed out exactly that.
abbrev pub RunsToALine : Type 0
RunsToALine = (script : List Act) (coming : Coming) (old new : World) (counts : RunCounts)
    (ran : RunsAll script old new counts)
    → old.reader.bytes ≡ Some (given false coming) → IsRead new.reader → ran.bytes ≡ given false coming
