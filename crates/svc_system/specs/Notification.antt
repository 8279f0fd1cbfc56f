-- How the process of a service says that it is ready.
use Rattle.std.specs.Prelude.{◌≤◌, ◌==◌, ℕ, Bool, true, false, List, ◌++◌, codes, decimal}
use Rattle.std.specs.List.{list_any}
use Rattle.svc_system.specs.Settings.{IsSeconds}
use Rattle.svc_system.specs.declared.notification.TheConstants.{GREATEST, LEAST}

-- The text of a file is the number of a descriptor that the process may get.
pub record IsDescriptor (number : ℕ) (text : List ℕ) : Type 0 where
  pub is : IsSeconds number text
  pub least : LEAST ≤ number
  pub greatest : number ≤ GREATEST

-- how a service is run, in a session of its own or not
abbrev pub runs : (begins_session : Bool) → List ℕ
runs true = codes "/usr/bin/setsid ./run"
runs false = codes "./run"

-- what a shell does: it opens the FIFO for reading and writing as this descriptor, and runs the service in its place
abbrev pub script : (number : ℕ) (begins_session : Bool) → List ℕ
script number begins_session =
    codes "exec " ++ decimal number ++ codes "<>supervise/notify; exec " ++ runs begins_session

-- whether bytes say that the process is ready: one of them is a newline
abbrev pub is_said : List ℕ → Bool
is_said bytes = list_any (λ byte. byte == 10) bytes
