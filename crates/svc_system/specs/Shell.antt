-- What was asked of the shell that sends signals, and the results.
use Rattle.std.specs.Prelude.{ℕ, Bool, true, false, List, [], ◌∷◌, Option}
use Rattle.tai_status.specs.Extended.{Extended}

-- One call, with its result: the shell was sent a line, and took it or did not; the shell was ended; another one was
-- started, or could not be.
pub data ShellCall : Type 0 where
  Sent : (line : List ℕ) → (taken : Bool) → ShellCall
  Ended : ShellCall
  Started : (started : Bool) → ShellCall

-- the line as it is sent to another shell that was started
abbrev pub sent_anew : (line : List ℕ) (started taken : Bool) → List ShellCall
sent_anew line false taken = []
sent_anew line true taken = Sent line taken ∷ []

-- A line is sent once if the shell takes it. If the shell does not, that shell is ended, another one is started once,
-- and the line is sent to it once.
abbrev pub line_sent : (line : List ℕ) (taken started taken_anew : Bool) → List ShellCall
line_sent line true started taken_anew = Sent line true ∷ []
line_sent line false started taken_anew =
    Sent line false ∷ Ended ∷ Started started ∷ sent_anew line started taken_anew

-- The line was sent this way.
pub record SendsLine (line : List ℕ) (old new : Option (List ShellCall)) : Type 0 where
  pub taken : Bool
  pub started : Bool
  pub taken_anew : Bool
  pub calls : Extended old new (line_sent line taken started taken_anew)
