-- What a part does in its turn: what it posts, and when it has the next turn.
use Rattle.std.specs.Prelude.{◌≡◌, ◌⊎◌, ℕ, ◌<◌, nat_lt, Bool, List, Option, Some, None, MatchOption}
use Rattle.std.specs.declared.io.ErrorKind.{ErrorKind}
use Rattle.svc_door.specs.Connection.{ConnectionState, Posts, beginning}
use Rattle.svc_door.specs.declared.byte_source.Heard.{Heard}
use Rattle.svc_door.specs.declared.listener.Listener.{Listener}
use Rattle.svc_door.specs.declared.greeting.TheConstants.{GREETED}
use Rattle.svc_door.specs.declared.connection.Turn.{Turn}
use Rattle.svc_door.specs.Rests.{looked_at, refused_until, sooner_of, spoke_at}

-- A listener gave no connection when it was last asked. The reason decides when the door looks at it again.
abbrev pub IsRefused : Listener → (now : ℕ) → Option ℕ → Type 0
IsRefused listener now due = (kind : ErrorKind) × (listener.refused ≡ Some kind) × (due ≡ refused_until kind now)

-- The listener at `ok` gave connections. Either it gave as many as one turn accepts, and the part continues at once; or
-- it gave fewer, and has no more.
abbrev pub Greets : Listener → (now : ℕ) → Option ℕ → Type 0
Greets ok now due = ((ok.given ≡ GREETED) × (due ≡ Some now)) ⊎ ((ok.given < GREETED) × IsRefused ok now due)

-- A connection had its turn: what it posted came after what the sender had posted. Either it stays, and the state in
-- which the turn left it decides when the door looks at it again; or it is over, and the next one is looked for at
-- once.
pub record HasTurn (before after : List ℕ) (now : ℕ) (old : ConnectionState) (new : Option ConnectionState) (due : ℕ)
    : Type 0 where
  pub left : ConnectionState
  pub turn : Turn
  pub posts : Posts before after old left
  pub spoke : left.spoke ≡ spoke_at turn (nat_lt old.taken left.taken) old.spoke now
  pub next : MatchOption (looked_at turn left.watched left.spoke now) ((new ≡ None) × (due ≡ now))
      (λ at. (new ≡ Some left) × (due ≡ at))

-- The connection that a part continues with: the one that it has, or one that begins now.
abbrev pub GoesOnWith : (now : ℕ) → (old : Option ConnectionState) → ConnectionState → Type 0
GoesOnWith now (Some old) connection = connection ≡ old
GoesOnWith now None connection =
    (left : Option (List ℕ)) × (said : Option Heard) × (watched : Bool)
    × (connection ≡ beginning left said watched now)

-- Either a part has no connection, its listener gave none, and it posted nothing; or its connection had its turn.
abbrev pub Serves : (before after : List ℕ) → (now : ℕ) → (control : Listener) → (old new : Option ConnectionState)
    → (due : Option ℕ) → Type 0
Serves before after now control old new due =
    ((old ≡ None) × (new ≡ None) × (after ≡ before) × IsRefused control now due)
    ⊎ ((connection : ConnectionState) × GoesOnWith now old connection × (at : ℕ) × (due ≡ Some at)
    × HasTurn before after now connection new at)

-- A part had its turn. This turn alone decides when it is due again.
pub record TakesTurn (before after : List ℕ) (now : ℕ) (ok control : Listener) (old new : Option ConnectionState)
    (due : Option ℕ) : Type 0 where
  pub greeted : Option ℕ
  pub served : Option ℕ
  pub greets : Greets ok now greeted
  pub serves : Serves before after now control old new served
  pub due_is : due ≡ sooner_of greeted served
