-- The child of `envdir`: what it is started with, and its exit status, by the envdir page of daemontools
-- (cr.yp.to/daemontools/envdir.html).
use Rattle.std.specs.Prelude.{◌≡◌, ◌⊎◌, ⊤, ℕ, ℤ, pos, Bool, true, false, List, [], ◌∷◌, Option, Some, None}
use Rattle.std.specs.Prelude.{MatchResult}
use Rattle.std.specs.Prelude.{IsSorted}
use Rattle.std.specs.Cmp.Lexicographic.{slice_cmp}
use Rattle.std.specs.Ordering.{nat_cmp}
use Rattle.std.specs.Process.{exit_code}
use Rattle.std.specs.IoError.{error_kind, raw_os_error}
use Rattle.std.specs.declared.io.Error.{Error}
use Rattle.std.specs.declared.io.ErrorKind.TheVariants.{OutOfMemory}
use Rattle.std.specs.Prelude.{◌≢◌}
use Rattle.env_title.specs.Env.{Binding, value_of}
use Rattle.env_title.specs.Files.{File, has_file}
use Rattle.cmd_envdir.specs.System.{Child, Start, Launch}
use Rattle.tai_status.specs.Causes.{cause_of}
use Rattle.tai_status.specs.Extended.{Extended}
use Rattle.cmd_envdir.specs.declared.fault.EnvdirFault.{EnvdirFault}
use Rattle.cmd_envdir.specs.declared.fault.EnvdirFault.TheVariants as fault

-- Names are in byte order: none is smaller than the one before it.
abbrev pub AreInByteOrder : List (List ℕ) → Type 0
AreInByteOrder names = IsSorted (slice_cmp nat_cmp) names

-- what a command says of a variable: that it has a value; or, if it has none and a file has its name, that it is
-- removed
abbrev pub said_of : (value : Option (List ℕ)) → (has_file : Bool) → Option (Option (List ℕ))
said_of (Some value) has_file = Some (Some value)
said_of None true = Some None
said_of None false = None

-- A command starts this program with these arguments in an environment that files have made. It sets each variable of
-- that environment, removes any other that has a file's name, and does not change the rest.
pub record StartsChild (start : Start) (child : Child) (files : List File) (env : List Binding) : Type 0 where
  pub program_is : start.program ≡ child.program
  pub arguments_are : start.arguments ≡ child.arguments
  pub variables_are : (name : List ℕ) → start.variables name ≡ said_of (value_of env name) (has_file files name)
  pub others_stay : start.alone ≡ false

-- the status for a child: its exit status, or 111 if a signal ended it
abbrev pub status_of_child : Option ℤ → ℕ
status_of_child None = 111
status_of_child (Some (pos code)) = code
status_of_child (Some _) = 111

-- why a child could not be started: memory was lacking, or the child can't be run, for the cause in the error
pub record IsCauseOf (error : Error) (cause : EnvdirFault) : Type 0 where
  pub memory : error_kind error ≡ OutOfMemory → cause ≡ fault.OutOfMemory
  pub other : error_kind error ≢ OutOfMemory → cause ≡ fault.NotRun (cause_of (raw_os_error error) (error_kind error))

-- A fault that arises when a command is handed over, and therefore comes from no file.
abbrev pub IsOfStart : EnvdirFault → Type 0
IsOfStart fault.OutOfMemory = ⊤
IsOfStart (fault.NotRun cause) = ⊤
IsOfStart (fault.NameHasEquals place) = ⊥
IsOfStart (fault.NotText place) = ⊥

-- A fault that arises before a command is handed over.
abbrev pub IsBeforeStart : EnvdirFault → Type 0
IsBeforeStart fault.OutOfMemory = ⊤
IsBeforeStart (fault.NotRun cause) = ⊥
IsBeforeStart (fault.NameHasEquals place) = ⊤
IsBeforeStart (fault.NotText place) = ⊤

-- One command was handed over: the one that starts this child in this environment. The child was started and exited
-- with this status.
pub record StartsOne (past now : Option (List Launch)) (child : Child) (files : List File) (env : List Binding)
    (status : ℕ) : Type 0 where
  pub launch : Launch
  pub handed : Extended past now (launch ∷ [])
  pub start : StartsChild launch.start child files env
  pub ended : MatchResult launch.ended (λ ended. status ≡ status_of_child (exit_code ended)) (λ error. ⊥)

-- One command was handed over: the one that starts this child in this environment. It failed for this cause.
pub record FailsToStart (past now : Option (List Launch)) (child : Child) (files : List File) (env : List Binding)
    (cause : EnvdirFault) : Type 0 where
  pub launch : Launch
  pub handed : Extended past now (launch ∷ [])
  pub start : StartsChild launch.start child files env
  pub failed : MatchResult launch.ended (λ ended. ⊥) (λ error. IsCauseOf error cause)

-- The child was not started, for this cause: memory for the command was lacking, or the command failed.
abbrev pub StartsNone : (past now : Option (List Launch)) (child : Child) (files : List File) (env : List Binding)
    (cause : EnvdirFault) → Type 0
StartsNone past now child files env cause =
    ((now ≡ past) × (cause ≡ fault.OutOfMemory)) ⊎ FailsToStart past now child files env cause
