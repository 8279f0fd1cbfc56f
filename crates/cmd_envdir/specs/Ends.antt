-- How `envdir` exits, and what it reports.
use Rattle.std.specs.Prelude.{◌≡◌, ◌≢◌, ◌⊎◌, ℕ, bytes_eq, MatchBool, List, [], ◌∷◌, ◌++◌, codes, map}
use Rattle.std.specs.Prelude.{slice_get, Option, Some, None}
use Rattle.std.specs.Option.{option_map_or}
use Rattle.env_title.specs.Env.{Binding}
use Rattle.env_title.specs.Files.{File, env_after}
use Rattle.env_title.specs.Faults.{first_fault}
use Rattle.env_title.specs.declared.fault.EnvFault.{EnvFault}
use Rattle.env_title.specs.declared.fault.EnvFault.TheVariants as why
use Rattle.tai_status.specs.Causes.{cause_note}
use Rattle.tai_status.specs.Counted.{Device, Fails, Reports, Works, Wrote, WroteFront, device_report}
use Rattle.tai_status.specs.declared.cause.Cause.TheVariants as cause
use Rattle.cmd_base.specs.Known.{IsKnown}
use Rattle.cmd_base.specs.Usage.{usage_text}
use Rattle.cmd_base.specs.declared.command.Command.TheVariants as command
use Rattle.cmd_envdir.specs.System.{Child, child, IsUnread, Launch, Outputs, SystemState, Unread, unread_path}
use Rattle.cmd_envdir.specs.Script.{ReadsAsScriptOf}
use Rattle.cmd_envdir.specs.Child.{AreInByteOrder, IsBeforeStart, StartsOne, FailsToStart}
use Rattle.cmd_envdir.specs.declared.fault.EnvdirFault.{EnvdirFault}
use Rattle.cmd_envdir.specs.declared.fault.EnvdirFault.TheVariants as fault

-- Faults

-- the report of a lack of memory
abbrev pub memory_report : List ℕ
memory_report = codes "envdir: OutOfMemory" ++ 10 ∷ []

-- the report of a fault, with the word for the child, and the name of the file that is refused
abbrev pub envdir_report : (child name : List ℕ) → EnvdirFault → List ℕ
envdir_report child name (fault.NameHasEquals place) =
    codes "envdir: " ++ (name ++ (codes ": NameHasEquals" ++ 10 ∷ []))
envdir_report child name (fault.NotText place) = codes "envdir: " ++ (name ++ (codes ": NotText" ++ 10 ∷ []))
envdir_report child name (fault.NotRun cause) = codes "envdir: unable to run " ++ (child ++ cause_note cause)
envdir_report child name fault.OutOfMemory = memory_report

-- the report of a path that can't be read
abbrev pub unread_report : (path : List ℕ) → Unread → List ℕ
unread_report path unread = codes "envdir: unable to read " ++ (path ++ cause_note unread.cause)

-- A folder is not read. The report is a lack of memory, or which path can't be read, and why.
abbrev pub ReportsUnread : (dir : List ℕ) → Unread → (faults reports : Device) → Type 0
ReportsUnread dir unread faults reports =
    ((unread.cause ≡ cause.NoMemory) × Reports faults reports memory_report)
    ⊎ ((unread.cause ≢ cause.NoMemory) × Reports faults reports (unread_report (unread_path dir unread.file) unread))

-- the name of the file that a fault comes from, or an empty name if it comes from none
abbrev pub name_of : EnvdirFault → List File → List ℕ
name_of (fault.NameHasEquals place) files = option_map_or (λ file. file.name) (slice_get files place) []
name_of (fault.NotText place) files = option_map_or (λ file. file.name) (slice_get files place) []
name_of (fault.NotRun cause) files = []
name_of fault.OutOfMemory files = []

-- A fault that comes from a file is the first fault of these files. Any other fault is reported only if no file has a
-- fault.
abbrev pub IsFirstFault : EnvdirFault → List File → Type 0
IsFirstFault (fault.NameHasEquals place) files = first_fault files ≡ Some (why.NameHasEquals place)
IsFirstFault (fault.NotText place) files = first_fault files ≡ Some (why.NotText place)
IsFirstFault (fault.NotRun cause) files = first_fault files ≡ None
IsFirstFault fault.OutOfMemory files = first_fault files ≡ None

-- the fault if memory is lacking: the first fault of the files, if they have one
abbrev pub starved : Option EnvFault → EnvdirFault
starved None = fault.OutOfMemory
starved (Some (why.NameHasEquals place)) = fault.NameHasEquals place
starved (Some (why.NotText place)) = fault.NotText place
starved (Some why.OutOfMemory) = fault.OutOfMemory

-- Ends

-- This is the environment that files make of the variables of the process. The files can be applied.
pub record IsChangedBy (files : List File) (system : SystemState) (after : List Binding) : Type 0 where
  pub variables : List Binding
  pub variables_are : IsKnown system.variables variables
  pub good : first_fault files ≡ None
  pub after_is : after ≡ env_after files variables

-- The child was started once, in the environment that these files make of the variables of the process.
pub record RunsChild (system : SystemState) (past now : Option (List Launch)) (child : Child) (files : List File)
    (status : ℕ) : Type 0 where
  pub variables : List Binding
  pub variables_are : IsKnown system.variables variables
  pub good : first_fault files ≡ None
  pub one : StartsOne past now child files (env_after files variables) status

-- The child could not be started.
pub record RunsNot (system : SystemState) (past now : Option (List Launch)) (child : Child) (files : List File)
    (cause : EnvdirFault) : Type 0 where
  pub variables : List Binding
  pub variables_are : IsKnown system.variables variables
  pub fails : FailsToStart past now child files (env_after files variables) cause

-- There is no child, for this cause: no command was handed over, or the command failed.
abbrev pub HasNoChild : (system : SystemState) (past now : Option (List Launch)) (child : Child) (files : List File)
    (cause : EnvdirFault) → Type 0
HasNoChild system past now child files cause =
    ((now ≡ past) × IsBeforeStart cause) ⊎ RunsNot system past now child files cause

-- The files of the folder, in the byte order of their names, made the environment of a child. Nothing is reported.
pub record EndsWithChild (system : SystemState) (dir : List ℕ) (child : Child) (status : ℕ)
    (past now : Option (List Launch)) (faults reports : Device) : Type 0 where
  pub files : List File
  pub files_are : IsKnown (system.folder dir) files
  pub in_order : AreInByteOrder (map (λ file. file.name) files)
  pub runs : RunsChild system past now child files status
  pub silent : reports ≡ faults

-- The folder was not read, and the reason is reported.
pub record LacksFolder (system : SystemState) (dir : List ℕ) (status : ℕ) (faults reports : Device) : Type 0 where
  pub unread : Unread
  pub unread_is : IsKnown (system.folder_fault dir) unread
  pub missing : IsUnread unread (system.folder dir)
  pub status_is : status ≡ 111
  pub reported_unread : ReportsUnread dir unread faults reports

-- The folder was read. The report says why its files have no effect.
pub record ReportsWhy (system : SystemState) (dir program : List ℕ) (cause : EnvdirFault) (files : List File)
    (status : ℕ)
    (faults reports : Device) : Type 0 where
  pub files_are : IsKnown (system.folder dir) files
  pub whole : system.folder_fault dir ≡ None
  pub first : IsFirstFault cause files
  pub status_is : status ≡ 111
  pub reported_why : Reports faults reports (envdir_report program (name_of cause files) cause)

-- The folder was read, there was no child, and the reason is reported.
pub record EndsWithout (system : SystemState) (dir : List ℕ) (child : Child) (status : ℕ)
    (past now : Option (List Launch)) (faults reports : Device) : Type 0 where
  pub cause : EnvdirFault
  pub files : List File
  pub why : ReportsWhy system dir child.program cause files status faults reports
  pub none : HasNoChild system past now child files cause

-- A child is asked for.
abbrev pub ChildEnds : (system : SystemState) (dir : List ℕ) (child : Child) (status : ℕ)
    (past now : Option (List Launch)) (faults reports : Device) → Type 0
ChildEnds system dir child status past now faults reports =
    EndsWithChild system dir child status past now faults reports
    ⊎ (EndsWithout system dir child status past now faults reports
    ⊎ ((now ≡ past) × LacksFolder system dir status faults reports))

-- the report of a writer that failed
abbrev pub unwritten_report : (writer : Device) → List ℕ
unwritten_report writer = device_report (codes "envdir: ") (codes "write fault") writer

-- Either a text was written, and nothing is reported; or a prefix of it was written, and the report says that the
-- writer failed, and why.
pub record EndsWriting (text : List ℕ) (status : ℕ) (old new : Outputs) : Type 0 where
  pub either : (status ≡ 0) ⊎ (status ≡ 111)
  pub wrote : status ≡ 0 → Wrote old.writer new.writer text × Works old.writer new.writer
  pub unreported : status ≡ 0 → new.faults ≡ old.faults
  pub failed : status ≡ 111 → WroteFront old.writer new.writer text × Fails old.writer new.writer
  pub reported : status ≡ 111 → Reports old.faults new.faults (unwritten_report new.writer)

-- the variables that a shell was given: those in the file at a path, if there is a path, and those of the process if
-- not
abbrev pub given_by : SystemState → (path : Option (List ℕ)) → Option (List Binding)
given_by system (Some path) = system.given path
given_by system None = system.variables

-- A shell that was given those variables reads this text as the commands for these files and words.
pub record IsScriptFor (system : SystemState) (path : Option (List ℕ)) (files : List File) (program : List (List ℕ))
    (text : List ℕ) : Type 0 where
  pub variables : List Binding
  pub variables_are : IsKnown (given_by system path) variables
  pub reads : ReadsAsScriptOf files variables program text

-- The commands were written that make the environment of the files in the folder, and run these words.
pub record WritesScript (system : SystemState) (dir : List ℕ) (path : Option (List ℕ)) (program : List (List ℕ))
    (status : ℕ) (old new : Outputs) : Type 0 where
  pub files : List File
  pub files_are : IsKnown (system.folder dir) files
  pub good : first_fault files ≡ None
  pub text : List ℕ
  pub is : IsScriptFor system path files program text
  pub writes : EndsWriting text status old new

-- The folder was read, there are no commands, and the reason is reported.
pub record HasNoScript (system : SystemState) (dir : List ℕ) (status : ℕ) (old new : Outputs) : Type 0 where
  pub cause : EnvdirFault
  pub files : List File
  pub why : ReportsWhy system dir [] cause files status old.faults new.faults
  pub before : IsBeforeStart cause
  pub unwritten : new.writer ≡ old.writer

-- The commands are asked for.
abbrev pub ScriptEnds : (system : SystemState) (dir : List ℕ) (path : Option (List ℕ)) (program : List (List ℕ))
    (status : ℕ) (old new : Outputs) → Type 0
ScriptEnds system dir path program status old new =
    WritesScript system dir path program status old new
    ⊎ (HasNoScript system dir status old new
    ⊎ ((new.writer ≡ old.writer) × LacksFolder system dir status old.faults new.faults))

-- The words are wrong: nothing is written, and the usage is reported.
pub record ReportsUsage (status : ℕ) (old new : Outputs) : Type 0 where
  pub unwritten : new.writer ≡ old.writer
  pub status_is : status ≡ 100
  pub reported : Reports old.faults new.faults (usage_text command.Envdir)

-- After `--shell` there is a folder. A path may follow, and a program with its words.
abbrev pub AskedEnds : (system : SystemState) (words : List (List ℕ)) (status : ℕ) (old new : Outputs) → Type 0
AskedEnds system [] status old new = ReportsUsage status old new
AskedEnds system (dir ∷ []) status old new = ScriptEnds system dir None [] status old new
AskedEnds system (dir ∷ path ∷ program) status old new = ScriptEnds system dir (Some path) program status old new

-- The words of `envdir` are a folder, a program and arguments; or `--shell` and the words that it takes.

-- What `envdir` starts: the program. For any other words it hands over no command.
abbrev pub EnvdirStarts : (system : SystemState) (words : List (List ℕ)) (status : ℕ) (past now : Option (List Launch))
    (faults reports : Device) → Type 0
EnvdirStarts system [] status past now faults reports = now ≡ past
EnvdirStarts system (word ∷ []) status past now faults reports = now ≡ past
EnvdirStarts system (word ∷ second ∷ more) status past now faults reports =
    MatchBool (bytes_eq word (codes "--shell")) (now ≡ past)
    (ChildEnds system word (child second more) status past now faults reports)

-- What `envdir` writes: the commands for the folder, or the usage. If a program is asked for, it writes nothing.
abbrev pub EnvdirWrites : (system : SystemState) (words : List (List ℕ)) (status : ℕ) (old new : Outputs) → Type 0
EnvdirWrites system [] status old new = ReportsUsage status old new
EnvdirWrites system (word ∷ []) status old new = ReportsUsage status old new
EnvdirWrites system (word ∷ second ∷ more) status old new =
    MatchBool (bytes_eq word (codes "--shell")) (AskedEnds system (second ∷ more) status old new)
    (new.writer ≡ old.writer)
