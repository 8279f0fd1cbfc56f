-- The state of a relay: what it took from its mailbox, what it put into the lives of a logger, and what it keeps.
use Rattle.std.specs.Prelude.{◌≡◌, ℕ, ◌+◌, ◌<◌, ◌≤◌, List, [], ◌++◌, length, take, drop, Option, IfSome}
use Rattle.std.specs.Io.KnownBytes.{append_known}
use Rattle.std.specs.declared.alloc.Global.{Global}
use Rattle.tai_status.specs.Counted.{Rose}
use Rattle.svc_mail.specs.declared.receiver.Receiver.{Receiver}
use Rattle.svc_mail.specs.Ends.{taken_by, WasEmpty}
use Rattle.svc_relay.specs.declared.piece.Piece.{Piece}
use Rattle.svc_relay.specs.declared.turn.RelayTurn.{RelayTurn}
use Rattle.svc_relay.specs.declared.turn.RelayTurn.TheVariants.{Moved, Idle, Broken}
use Rattle.svc_relay.specs.Pieces.{bytes_in}

pub record Passing : Type 0 where
  pub receiver : Receiver Piece Global
  -- the bytes that were put into the earlier lives of the logger, joined, and those put into this one
  pub earlier : List ℕ
  pub here : List ℕ
  -- the bytes that were taken and not yet put
  pub kept : List ℕ
  -- the bytes that the outlet of this life shows, and how often it failed
  pub shown : Option (List ℕ)
  pub failures : ℕ

-- The conditions on every relay.
pub record IsRelay (s : Passing) : Type 0 where
  -- The bytes taken are those put into earlier lives, those put into this one, and those kept.
  pub taken : bytes_in (taken_by s.receiver) ≡ (s.earlier ++ s.here) ++ s.kept
  -- The bytes that the outlet of this life shows are those put into this life.
  pub shown : IfSome s.shown (λ bytes. bytes ≡ s.here)

-- a relay that begins: nothing is put or kept
abbrev pub beginning : Receiver Piece Global → Option (List ℕ) → ℕ → Passing
beginning receiver shown failures =
    record { receiver = receiver; earlier = []; here = []; kept = []; shown = shown; failures = failures }

-- the same relay at the beginning of the logger's next life, with this outlet
abbrev pub next_life : Passing → Option (List ℕ) → ℕ → Passing
next_life s shown failures = record {
  receiver = s.receiver;
  earlier = s.earlier ++ s.here;
  here = [];
  kept = s.kept;
  shown = shown;
  failures = failures;
}

-- This many more bytes were put into this life.
pub record PutsMore (old : Passing) (count : ℕ) (new : Passing) : Type 0 where
  pub bytes : List ℕ
  pub many : length bytes ≡ count
  pub here : new.here ≡ old.here ++ bytes
  pub shown : new.shown ≡ append_known old.shown bytes

-- This many bytes were put, at least one. Nothing is kept, and the outlet did not fail.
pub record PutsAll (old : Passing) (count : ℕ) (new : Passing) : Type 0 where
  pub put : PutsMore old count new
  pub some : 0 < count
  pub kept : new.kept ≡ []
  pub works : new.failures ≡ old.failures

-- The outlet failed. The bytes that it did not take are kept.
pub record IsBroken (old new : Passing) : Type 0 where
  pub count : ℕ
  pub put : PutsMore old count new
  pub kept : 0 < length new.kept
  pub failed : Rose old.failures new.failures

-- Nothing was kept, and there was no piece. Nothing was taken or put.
pub record HadNone (old new : Passing) : Type 0 where
  pub empty : WasEmpty old.receiver
  pub kept : (old.kept ≡ []) × (new.kept ≡ [])
  pub taken : taken_by new.receiver ≡ taken_by old.receiver
  pub here : new.here ≡ old.here
  pub outlet : (new.shown ≡ old.shown) × (new.failures ≡ old.failures)

-- what a turn did
abbrev pub IsRelayTurn : Passing → RelayTurn → Passing → Type 0
IsRelayTurn old (Moved count) new = PutsAll old count new
IsRelayTurn old Idle new = HadNone old new
IsRelayTurn old Broken new = IsBroken old new

-- a relay, from what it counts: how many bytes were put into earlier lives, into this life, and of the block that waits
abbrev pub passing : Receiver Piece Global → ℕ → ℕ → List ℕ → ℕ → Option (List ℕ) → ℕ → Passing
passing receiver earlier here waiting put shown failures = let taken = bytes_in (taken_by receiver) in record {
  receiver = receiver;
  earlier = take earlier taken;
  here = take here (drop earlier taken);
  kept = drop put waiting;
  shown = shown;
  failures = failures;
}

-- What a relay counts agrees with what it took.
pub record IsCounted (receiver : Receiver Piece Global) (earlier here : ℕ) (waiting : List ℕ) (put : ℕ)
    (shown : Option (List ℕ)) : Type 0 where
  pub within : earlier + here ≤ length (bytes_in (taken_by receiver))
  pub front : put ≤ length waiting
  pub kept : drop (earlier + here) (bytes_in (taken_by receiver)) ≡ drop put waiting
  pub life : IfSome shown (λ bytes. bytes ≡ take here (drop earlier (bytes_in (taken_by receiver))))
