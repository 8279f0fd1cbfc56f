-- What `trace` prints about the text of a trace, what its word after `--break` means, and what it says about its
-- faults.
use Rattle.std.specs.Prelude.{◌≡◌, ◌≢◌, ◌<◌, ◌^◌, ⊤, ℕ, ℤ, ◌⊎◌, Bool, true, false, List, [], ◌∷◌, ◌++◌, codes, decimal}
use Rattle.std.specs.Prelude.{Option, Some, None, IfSome, Err, option_map}
use Rattle.std.specs.Borrow.{Bor}
use Rattle.std.specs.IoError.{error_kind, raw_os_error}
use Rattle.std.specs.declared.io.Error.{Error}
use Rattle.std.specs.declared.io.ErrorKind.{ErrorKind}
use Rattle.std.specs.declared.io.ErrorKind.TheVariants.{OutOfMemory, IsADirectory}
use Rattle.tai_status.specs.Counted.{Device, Fails, Works, Wrote, WroteFront, Reports, device_note}
use Rattle.tai_status.specs.Phase.{phase_name}
use Rattle.sup_core.specs.State.{State}
use Rattle.sup_core.specs.Text.{byte_text, signal_name}
use Rattle.sup_trace.specs.declared.breaks.Break.{Break}
use Rattle.sup_trace.specs.declared.breaks.Break.TheVariants as break
use Rattle.sup_trace.specs.declared.fault.TraceFault.{TraceFault}
use Rattle.sup_trace.specs.declared.fault.TraceFaultKind.TheVariants as kind
use Rattle.sup_trace.specs.Content.{Content, IsContent, replay_of}
use Rattle.sup_trace.specs.Text.{record_digits, trace_text}
use Rattle.sup_trace.specs.Reading.{HasEntryAt, kind_name, content_from}
use Rattle.sup_trace.specs.Explained.{explained}
use Rattle.sup_trace.specs.Breaks.{IsFirstBreak, HasNoBreak}
use Rattle.trace_words.specs.Words.{asked_of}
use Rattle.trace_words.specs.declared.WordsFault.{WordsFault}
use Rattle.trace_words.specs.declared.WordsFault.TheVariants as words
use Rattle.cmd_base.specs.Printed.{printed}
use Rattle.cmd_base.specs.Known.{IsKnown, KnownFiles, known_files}
use Rattle.svc_places.specs.Places.{KnownPlaces}
use Rattle.tai_status.specs.Causes.{cause_of, cause_note}
use Rattle.tai_status.specs.declared.cause.Cause.{Cause}
use Rattle.cmd_base.specs.Usage.{usage_text}
use Rattle.cmd_base.specs.declared.command.Command.TheVariants as command
use Rattle.cmd_trace.specs.Local.{local_explanation}
use Rattle.cmd_trace.specs.declared.fault.TraceTrouble.{TraceTrouble}
use Rattle.cmd_trace.specs.declared.fault.TraceTrouble.TheVariants as trouble

-- The word after `--break`

-- the word that names a break: `byte:C`, `phase:PHASE` or `signal:NAME`
abbrev pub break_text : Break → List ℕ
break_text (break.Byte byte) = codes "byte:" ++ byte_text byte
break_text (break.Phase phase) = codes "phase:" ++ phase_name phase
break_text (break.Signal sig) = codes "signal:" ++ signal_name sig

-- If there is a word, it names this break. If there is none, there is no break. A byte is less than 256.
abbrev pub NamesBreak : Option (List ℕ) → Option Break → Type 0
NamesBreak None None = ⊤
NamesBreak (Some word) (Some (break.Byte byte)) = (byte < 2 ^ 8) × (word ≡ break_text (break.Byte byte))
NamesBreak (Some word) (Some at) = word ≡ break_text at
NamesBreak _ _ = ⊥

-- The words ask for this file, for this break if they have one, and for local times or for labels.
abbrev pub AskFor : (words : List (List ℕ)) (file : List ℕ) (at : Option Break) (local : Bool) → Type 0
AskFor words file at local =
    (word : Option (List ℕ))
    × ((asked_of words ≡ Some (record { file = file; at = word; local = local })) × NamesBreak word at)

-- What is printed

-- the line about the machine after the entries: its phase, and the digits of its status record
abbrev pub state_text : State → List ℕ
state_text state =
    codes "state " ++ phase_name state.phase ++ codes " " ++ record_digits state.status ++ 10 ∷ []

-- one line for each entry, and one about the machine after them
abbrev pub explanation : Content → List ℕ
explanation content = printed (explained content) ++ state_text (replay_of content)

-- A line says the number of the first entry that is such a break, or that there is none.
abbrev pub IsBreakLine : Content → Break → List ℕ → Type 0
IsBreakLine content at line =
    ((number : ℕ) × (IsFirstBreak content at number × (line ≡ codes "break " ++ decimal number ++ 10 ∷ [])))
    ⊎ (HasNoBreak content at × (line ≡ codes "no break" ++ 10 ∷ []))

-- How times are printed. None is for labels, and Some is for local times, with the number of seconds by which clocks
-- are ahead of UTC at each second of Unix time.
abbrev pub Times : Type 0
Times = Option (ℤ → ℤ)

-- the times of a zone, if there is one
abbrev pub times_in : {Z : Type 0} (ahead_at : Z → ℤ → ℤ) → Option (Bor Z) → Times
times_in ahead_at zone = option_map (λ zone. ahead_at zone.now) zone

-- local times, if they are asked for
abbrev pub times_asked : (ahead : ℤ → ℤ) → (local : Bool) → Times
times_asked ahead true = Some ahead
times_asked ahead false = None

-- the explanation of a trace, with times printed this way
abbrev pub explanation_with : Times → Content → List ℕ
explanation_with None content = explanation content
explanation_with (Some ahead) content = local_explanation ahead content

-- This is printed about a trace: the explanation, or the line about a break.
abbrev pub IsShown : Times → Content → Option Break → List ℕ → Type 0
IsShown times content None text = text ≡ explanation_with times content
IsShown times content (Some at) text = IsBreakLine content at text

-- The text is that of a trace, and this is printed about that trace.
pub record IsShownOf (times : Times) (text : List ℕ) (at : Option Break) (shown : List ℕ) : Type 0 where
  pub trace : Content
  pub is : IsContent trace
  pub text_is : text ≡ trace_text trace
  pub shown_is : IsShown times trace at shown

-- The text is that of a trace, and what is printed about that trace was written.
pub record Shows (times : Times) (text : List ℕ) (at : Option Break) (writer writes : Device) : Type 0 where
  pub shown : List ℕ
  pub shown_is : IsShownOf times text at shown
  pub written : Wrote writer writes shown

-- The text is that of a trace, and a front of what is printed about that trace was written.
pub record ShowsFront (times : Times) (text : List ℕ) (at : Option Break) (writer writes : Device) : Type 0 where
  pub shown : List ℕ
  pub shown_is : IsShownOf times text at shown
  pub written : WroteFront writer writes shown

-- Faults

-- what is reported about a text that is refused
abbrev pub refused_text : TraceFault → List ℕ
refused_text fault =
    codes "trace: line " ++ decimal fault.line ++ codes ": " ++ kind_name fault.kind ++ 10 ∷ []

-- what is reported about trouble
abbrev pub trouble_text : TraceTrouble → List ℕ
trouble_text (trouble.Refused fault) = refused_text fault
trouble_text trouble.OutOfMemory = codes "trace: OutOfMemory" ++ 10 ∷ []
trouble_text (trouble.Write cause) = codes "trace: " ++ (codes "write fault" ++ device_note cause)

-- what is reported about a file that can't be read
abbrev pub unread_text : (file : List ℕ) → Cause → List ℕ
unread_text file cause = codes "trace: unable to read " ++ (file ++ cause_note cause)

-- Why a text is refused. This is its first fault, or there was no memory for the entry that it has at that line.
abbrev pub IsRefusedFor : List ℕ → TraceFault → Type 0
IsRefusedFor text fault =
    (fault.kind ≢ kind.OutOfMemory → content_from text ≡ Err fault)
    × (fault.kind ≡ kind.OutOfMemory → HasEntryAt text fault.line)

-- A text is that of a trace.
abbrev pub IsTraceText : List ℕ → Type 0
IsTraceText text = (trace : Content) × (IsContent trace × (text ≡ trace_text trace))

-- What trouble comes from. The text is refused; or it is that of a trace, and there was no memory for what is printed;
-- or the writer failed after a front of that, for the cause that it keeps. Only the writer's fault comes after a write.
abbrev pub TraceCause : Times → TraceTrouble → List ℕ → Option Break → (writer writes : Device) → Type 0
TraceCause times (trouble.Refused fault) text at writer writes = (writes ≡ writer) × IsRefusedFor text fault
TraceCause times trouble.OutOfMemory text at writer writes = (writes ≡ writer) × IsTraceText text
TraceCause times (trouble.Write cause) text at writer writes =
    Fails writer writes × (ShowsFront times text at writer writes × (cause ≡ writes.cause))

-- How `trace` ends

-- What is printed about the trace was written, the writer did not fail, and nothing is reported.
pub record ShowsText (times : Times) (text : List ℕ) (at : Option Break) (writer writes faults reports : Device)
    : Type 0 where
  pub shows : Shows times text at writer writes
  pub works : Works writer writes
  pub unreported : reports ≡ faults

-- There is trouble with a text, and what it comes from is reported.
pub record ReportsTrouble (times : Times) (text : List ℕ) (at : Option Break) (writer writes faults reports : Device)
    : Type 0 where
  pub why : TraceTrouble
  pub cause : TraceCause times why text at writer writes
  pub reported : Reports faults reports (trouble_text why)

-- How `trace` ends for a text and this break, by the status.
abbrev pub TextEnds : (times : Times) (text : List ℕ) (at : Option Break) (status : ℕ)
    (writer writes faults reports : Device) → Type 0
TextEnds times text at status writer writes faults reports =
    ((status ≡ 0) × ShowsText times text at writer writes faults reports)
    ⊎ ((status ≡ 111) × ReportsTrouble times text at writer writes faults reports)

-- The file is read, and its text is shown.
pub record EndsWithText (times : Times) (file : Option (List ℕ)) (at : Option Break) (status : ℕ)
    (writer writes faults reports : Device) : Type 0 where
  pub text : List ℕ
  pub text_is : IsKnown file text
  pub ends : TextEnds times text at status writer writes faults reports

-- The file at a path is not known to be there. It is reported by its name that it can't be read, and why, and nothing is
-- written. The cause is that of the read's fault, by its number and kind. It is not a lack of memory.
pub record ReportsUnread (files : KnownFiles) (path name : List ℕ) (status : ℕ) (writer writes faults reports : Device)
    : Type 0 where
  pub number : Option ℤ
  pub kind : ErrorKind
  pub unknown : files.bytes path ≡ None
  pub fault : IsKnown (files.fault path) kind
  pub room : kind ≢ OutOfMemory
  pub unwritten : writes ≡ writer
  pub reported : Reports faults reports (unread_text name (cause_of number kind))
  pub status_is : status ≡ 111

-- It is reported why a file is not read: there was no memory, if the error says so; otherwise that it can't be read.
abbrev pub ReportsMissed : Error → (file : List ℕ) → (faults reports : Device) → Type 0
ReportsMissed error file faults reports =
    ((error_kind error ≡ OutOfMemory) × Reports faults reports (trouble_text trouble.OutOfMemory))
    ⊎ ((error_kind error ≢ OutOfMemory)
    × Reports faults reports (unread_text file (cause_of (raw_os_error error) (error_kind error))))

-- There was no memory for the words or the file. Nothing is written, and the lack is reported.
pub record ReportsStarved (status : ℕ) (writer writes faults reports : Device) : Type 0 where
  pub unwritten : writes ≡ writer
  pub reported : Reports faults reports (trouble_text trouble.OutOfMemory)
  pub status_is : status ≡ 111

-- There was no memory for the file. No read of it is known to fail for another cause.
pub record ReportsNoRoom (files : KnownFiles) (file : List ℕ) (status : ℕ) (writer writes faults reports : Device)
    : Type 0 where
  pub fault : IfSome (files.fault file) (λ kind. kind ≡ OutOfMemory)
  pub starved : ReportsStarved status writer writes faults reports

-- what is known of these files
abbrev pub known_in : {F : Type 0} → (file_at : F → List ℕ → Option (List ℕ))
    (fault_at : F → List ℕ → Option ErrorKind) (files : F) → KnownFiles
known_in file_at fault_at files = known_files (file_at files) (fault_at files)

-- How `trace` ends for the file at this path, with this name in reports, and this break.
abbrev pub PathEnds : (times : Times) (files : KnownFiles) (path name : List ℕ) (at : Option Break) (status : ℕ)
    (writer writes faults reports : Device) → Type 0
PathEnds times files path name at status writer writes faults reports =
    EndsWithText times (files.bytes path) at status writer writes faults reports
    ⊎ (ReportsUnread files path name status writer writes faults reports
    ⊎ ReportsNoRoom files path status writer writes faults reports)

-- the path of the trace of the service in a folder
abbrev pub trace_in : (folder : List ℕ) → List ℕ
trace_in folder = folder ++ codes "/supervise/trace"

-- How `trace` ends for the trace of the service in this folder, which has this name in reports.
abbrev pub FolderEnds : (times : Times) (files : KnownFiles) (folder name : List ℕ) (at : Option Break) (status : ℕ)
    (writer writes faults reports : Device) → Type 0
FolderEnds times files folder name at status writer writes faults reports =
    PathEnds times files (trace_in folder) (trace_in name) at status writer writes faults reports
    ⊎ ReportsStarved status writer writes faults reports

-- There is a folder at this path, not a file.
pub record EndsWithFolder (times : Times) (files : KnownFiles) (folder name : List ℕ) (at : Option Break) (status : ℕ)
    (writer writes faults reports : Device) : Type 0 where
  pub fault : IsKnown (files.fault folder) IsADirectory
  pub ends : FolderEnds times files folder name at status writer writes faults reports

-- A file can't be read, and it is not a folder.
pub record ReportsNoFile (files : KnownFiles) (path name : List ℕ) (status : ℕ) (writer writes faults reports : Device)
    : Type 0 where
  pub unread : ReportsUnread files path name status writer writes faults reports
  pub no_folder : unread.kind ≢ IsADirectory

-- How `trace` ends for the file at this path, or for the service in the folder there, with this name in reports, and this
-- break.
abbrev pub FileEnds : (times : Times) (files : KnownFiles) (path name : List ℕ) (at : Option Break) (status : ℕ)
    (writer writes faults reports : Device) → Type 0
FileEnds times files path name at status writer writes faults reports =
    EndsWithText times (files.bytes path) at status writer writes faults reports
    ⊎ (ReportsNoFile files path name status writer writes faults reports
    ⊎ (ReportsNoRoom files path status writer writes faults reports
    ⊎ EndsWithFolder times files path name at status writer writes faults reports))

-- The words ask for nothing: nothing is written, and the usage is reported.
pub record ReportsUsage (words : List (List ℕ)) (status : ℕ) (writer writes faults reports : Device) : Type 0 where
  pub wrong : (file : List ℕ) (at : Option Break) (local : Bool) → AskFor words file at local → ⊥
  pub unwritten : writes ≡ writer
  pub reported : Reports faults reports (usage_text command.Trace)
  pub status_is : status ≡ 100

-- A word names this path, which is read. Reports have the word.
pub record EndsAtPlace (times : Times) (files : KnownFiles) (place : Option (List ℕ)) (word : List ℕ)
    (at : Option Break) (status : ℕ) (writer writes faults reports : Device) : Type 0 where
  pub path : List ℕ
  pub named : IsKnown place path
  pub ends : FileEnds times files path word at status writer writes faults reports

-- How `trace` ends for the file or the folder that this word names, and this break.
abbrev pub WordEnds : (times : Times) (files : KnownFiles) (places : KnownPlaces) (word : List ℕ) (at : Option Break)
    (status : ℕ) (writer writes faults reports : Device) → Type 0
WordEnds times files places word at status writer writes faults reports =
    EndsAtPlace times files (places word) word at status writer writes faults reports
    ⊎ ReportsStarved status writer writes faults reports

-- What the words ask for was done, or there was trouble with it.
pub record DoesAsked (ahead : ℤ → ℤ) (files : KnownFiles) (places : KnownPlaces) (words : List (List ℕ)) (status : ℕ)
    (writer writes faults reports : Device) : Type 0 where
  pub file : List ℕ
  pub at : Option Break
  pub local : Bool
  pub asked : AskFor words file at local
  pub ends : WordEnds (times_asked ahead local) files places file at status writer writes faults reports

-- what is reported about words that were not read: the usage if they are wrong, and otherwise the lack of memory
abbrev pub words_text : WordsFault → List ℕ
words_text words.Wrong = usage_text command.Trace
words_text words.OutOfMemory = trouble_text trouble.OutOfMemory

-- the exit status for that
abbrev pub words_status : WordsFault → ℕ
words_status words.Wrong = 100
words_status words.OutOfMemory = 111

-- How `trace` ends, by what its words ask for, if clocks are ahead of UTC by this much. No words at all ask for
-- nothing.
abbrev pub TraceEnds : (ahead : ℤ → ℤ) (files : KnownFiles) (places : KnownPlaces) (words : List (List ℕ)) (status : ℕ)
    (writer writes faults reports : Device) → Type 0
TraceEnds ahead files places [] status writer writes faults reports =
    ReportsUsage [] status writer writes faults reports
TraceEnds ahead files places (word ∷ words) status writer writes faults reports =
    DoesAsked ahead files places (word ∷ words) status writer writes faults reports
    ⊎ (ReportsUsage (word ∷ words) status writer writes faults reports
    ⊎ ReportsStarved status writer writes faults reports)
