-- The state of a connection: what it has left to give, what is kept of what it gave, and when it last gave bytes.
use Rattle.std.specs.Prelude.{◌≡◌, ℕ, ◌+◌, ◌<◌, ◌≤◌, ◌⊎◌, Bool, List, [], ◌∷◌, ◌++◌, length, Option, IfSome}
use Rattle.std.specs.List.{concat}
use Rattle.std.specs.Io.KnownBytes.{Consumes, IsAtEnd}
use Rattle.svc_door.specs.declared.connection.TheConstants.{MOST}
use Rattle.svc_door.specs.declared.byte_source.Heard.{Heard}
use Rattle.svc_door.specs.declared.byte_source.Heard.TheVariants.{Bytes, Nothing, End, Fault}
use Rattle.svc_door.specs.declared.connection.Turn.{Turn}
use Rattle.svc_door.specs.declared.connection.Turn.TheVariants.{Waits, Full, Ended}

pub record ConnectionState : Type 0 where
  -- the bytes that the connection has left, if these are known
  pub left : Option (List ℕ)
  -- the result of the last read, if the connection keeps it
  pub said : Option Heard
  -- the bytes that were read and are not posted yet
  pub kept : List ℕ
  -- how many bytes were read
  pub taken : ℕ
  -- when it last gave bytes
  pub spoke : ℕ
  -- whether an event announces its bytes
  pub watched : Bool

-- a connection that begins: nothing from it is read
abbrev pub beginning : (left : Option (List ℕ)) (said : Option Heard) (watched : Bool) (now : ℕ) → ConnectionState
beginning left said watched now = record {
  left = left;
  said = said;
  kept = [];
  taken = 0;
  spoke = now;
  watched = watched;
}

-- The connection continues, and these of its bytes are posted.
pub record GoesOn (posted : List ℕ) (old new : ConnectionState) : Type 0 where
  -- It gave these bytes.
  pub read : List ℕ
  pub gives : Consumes old.left new.left read
  -- They are counted, and with all earlier ones they are at most 4096.
  pub count : new.taken ≡ old.taken + length read
  pub most : new.taken ≤ MOST
  -- What was kept comes first, followed by what it gave. A prefix of this is posted, and the rest is kept.
  pub order : posted ++ new.kept ≡ old.kept ++ read

-- A sender that had posted the bytes `before` has posted the bytes `after`: the connection posted all that came after
-- them.
pub record Posts (before after : List ℕ) (old new : ConnectionState) : Type 0 where
  pub posted : List ℕ
  pub accepts : after ≡ before ++ posted
  pub on : GoesOn posted old new

-- This was the result of the connection's last read, if it keeps that.
abbrev pub Said : ConnectionState → Heard → Type 0
Said v word = IfSome v.said (λ heard. heard ≡ word)

-- All is posted, fewer than 4096 bytes were read, and the last read had nothing for now.
pub record DoesWait (v : ConnectionState) : Type 0 where
  pub posted : v.kept ≡ []
  pub fewer : v.taken < MOST
  pub nothing : Said v Nothing

-- The connection has no more to give.
pub record HasEnded (v : ConnectionState) : Type 0 where
  pub none : IsAtEnd v.left
  pub end : Said v End

-- All is posted, and either 4096 bytes were read, or the connection ended or failed.
pub record IsOver (v : ConnectionState) : Type 0 where
  pub posted : v.kept ≡ []
  pub why : (v.taken ≡ MOST) ⊎ HasEnded v ⊎ Said v Fault

-- A read of a connection with nothing kept gave this many bytes, which are kept; or it gave none, and nothing is kept.
abbrev pub Reads : Heard → (old new : ConnectionState) → Type 0
Reads (Bytes count) old new = (0 < count) × (length new.kept ≡ count) × (new.taken ≡ old.taken + count)
Reads Nothing old new = (new.kept ≡ []) × (new.taken ≡ old.taken)
Reads End old new = (new.kept ≡ []) × (new.taken ≡ old.taken) × IsAtEnd new.left
Reads Fault old new = (new.kept ≡ []) × (new.taken ≡ old.taken)

-- the state in which a turn leaves a connection
abbrev pub IsLeft : Turn → ConnectionState → Type 0
IsLeft Waits v = DoesWait v
IsLeft Full v = 0 < length v.kept
IsLeft Ended v = IsOver v

-- Over turns

-- The connection continues turn after turn, and posts these bytes in each turn.
abbrev pub GoesOnAlong : (turns : List (List ℕ)) → (first last : ConnectionState) → Type 0
GoesOnAlong [] first last = last ≡ first
GoesOnAlong (posted ∷ later) first last =
    (next : ConnectionState) × GoesOn posted first next × GoesOnAlong later next last

-- What was posted from a connection, followed by what is kept, is the first bytes that it gave, in order, each once.
-- There are at most 4096.
pub record HasPosted (opening : Option (List ℕ)) (posted : List ℕ) (v : ConnectionState) : Type 0 where
  pub gives : Consumes opening v.left (posted ++ v.kept)
  pub count : length (posted ++ v.kept) ≡ v.taken
  pub most : v.taken ≤ MOST

-- The bytes that the sender posted last are those that were posted from the connection since it began.
pub record HasPostedLast (accepted : List ℕ) (v : ConnectionState) : Type 0 where
  pub before : List ℕ
  pub posted : List ℕ
  pub accepts : accepted ≡ before ++ posted
  pub opening : Option (List ℕ)
  pub first : HasPosted opening posted v

-- For any turns: what was posted in all of them, followed by what is kept, is the first bytes of the connection.
abbrev pub TurnsPostTheFirstBytes : Type 0
TurnsPostTheFirstBytes =
    (opening : Option (List ℕ)) (said : Option Heard) (watched : Bool) (now : ℕ) (turns : List (List ℕ))
    (last : ConnectionState) → GoesOnAlong turns (beginning opening said watched now) last
    → HasPosted opening (concat turns) last
