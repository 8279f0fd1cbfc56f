-- What `envdir` reads from the system, and the commands that it hands over.
use Rattle.std.specs.Prelude.{◌≡◌, ◌≢◌, ℕ, nat_lt, ◌==◌, ◌&&◌, Bool, if◌then◌else◌, List, ◌∷◌, ◌++◌, length, All}
use Rattle.std.specs.Prelude.{Option, Some, None, IfSome, Result}
use Rattle.std.specs.List.{position_or_len, before_first, after_first}
use Rattle.std.specs.Str.{is_utf8}
use Rattle.std.specs.Process.{command_program, command_args, command_var, clears_env}
use Rattle.std.specs.declared.process.command.Command.{Command}
use Rattle.std.specs.declared.process.status.ExitStatus.{ExitStatus}
use Rattle.std.specs.declared.io.Error.{Error}
use Rattle.env_title.specs.Env.{Binding, put}
use Rattle.env_title.specs.Files.{File}
use Rattle.tai_status.specs.Counted.{Device}
use Rattle.tai_status.specs.declared.cause.Cause.{Cause}
use Rattle.tai_status.specs.declared.cause.Cause.TheVariants as cause
use Rattle.cmd_base.specs.Known.{IsKnown}

-- Why a folder is not read: the path of the file that can't be read, or none if it is the folder itself; and the cause.
pub record Unread : Type 0 where
  pub file : Option (List ℕ)
  pub cause : Cause

-- the path that can't be read
abbrev pub unread_path : (dir : List ℕ) (file : Option (List ℕ)) → List ℕ
unread_path dir None = dir
unread_path dir (Some path) = path

-- Either memory was lacking, or what is not read is not known to be there.
abbrev pub IsUnread : {X : Type 0} → Unread → (known : Option X) → Type 0
IsUnread unread known = unread.cause ≢ cause.NoMemory → known ≡ None

-- The path of a file that can't be read is that of a name in the folder, and what the file holds is not known; or
-- memory was lacking.
abbrev pub NamesFile : (file_at : List ℕ → Option (List ℕ)) (dir : List ℕ) → Unread → Type 0
NamesFile file_at dir unread =
    IfSome unread.file (λ path. ((name : List ℕ) × (path ≡ dir ++ 47 ∷ name)) × IsUnread unread (file_at path))

-- What is known of the system: the files of each folder, and the fault of a read of a folder that fails. Also the
-- variables of the process, and those that another process was given, by the path of their file.
pub record SystemState : Type 0 where
  pub folder : List ℕ → Option (List File)
  pub folder_fault : List ℕ → Option Unread
  pub variables : Option (List Binding)
  pub given : List ℕ → Option (List Binding)

-- Nothing is known of the system.
abbrev pub unknown_state : SystemState
unknown_state = record { folder = λ dir. None; folder_fault = λ dir. None; variables = None; given = λ path. None }

-- Each of these files of a folder has the bytes of the file at its path, if those are known.
abbrev pub AreHeld : (file_at : List ℕ → Option (List ℕ)) (dir : List ℕ) → List File → Type 0
AreHeld file_at dir files = All (λ (file : File). IsKnown (file_at (dir ++ 47 ∷ file.name)) file.bytes) files

-- the place of the first `=` of an entry, or its length
abbrev pub equals_in : List ℕ → ℕ
equals_in entry = position_or_len (λ b. b == 61) entry

-- What an entry `NAME=VALUE` does to variables: the one with that name becomes the last, with that value. An entry that
-- is not text, or has no `=` or an empty name, does nothing.
abbrev pub entry_put : List Binding → List ℕ → List Binding
entry_put variables entry =
    if is_utf8 entry && (nat_lt 0 (equals_in entry) && nat_lt (equals_in entry) (length entry))
    then put variables (before_first (λ b. b == 61) entry) (after_first (λ b. b == 61) entry)
    else variables

-- A program and its arguments.
pub record Child : Type 0 where
  pub program : List ℕ
  pub arguments : List (List ℕ)

abbrev pub child : (program : List ℕ) (arguments : List (List ℕ)) → Child
child program arguments = record { program = program; arguments = arguments }

-- What a command starts: a program and its arguments; what it says of each variable, that it has a value or is removed;
-- and whether the child starts without the variables of this process.
pub record Start : Type 0 where
  pub program : List ℕ
  pub arguments : List (List ℕ)
  pub variables : List ℕ → Option (Option (List ℕ))
  pub alone : Bool

abbrev pub start_of : {A : Type 0} → Command A → Start
start_of command = record {
  program = command_program command;
  arguments = command_args command;
  variables = command_var command;
  alone = clears_env command;
}

-- A command that was handed over, and its result.
pub record Launch : Type 0 where
  pub start : Start
  pub ended : Result ExitStatus Error

abbrev pub launch_of : {A : Type 0} → Command A → Result ExitStatus Error → Launch
launch_of command ended = record { start = start_of command; ended = ended }

-- The device that `envdir` writes to, and the one to which it reports its faults.
pub record Outputs : Type 0 where
  pub writer : Device
  pub faults : Device

abbrev pub outputs : (writer faults : Device) → Outputs
outputs writer faults = record { writer = writer; faults = faults }
