-- Why the system refused something, and the words that report it (errno(3), strerror(3)).
use Rattle.std.specs.Prelude.{
  ℕ,
  ℤ,
  pos,
  negsuc,
  ◌==◌,
  ◌||◌,
  if◌then◌else◌,
  List,
  [],
  ◌∷◌,
  ◌++◌,
  codes,
  Option,
  Some,
  None,
}
use Rattle.std.specs.declared.io.ErrorKind.{ErrorKind}
use Rattle.std.specs.declared.io.ErrorKind.TheVariants as io
use Rattle.tai_status.specs.declared.cause.Cause.{Cause}
use Rattle.tai_status.specs.declared.cause.Cause.TheVariants as cause

-- the cause of a kind of fault
abbrev pub cause_of_kind : ErrorKind → Cause
cause_of_kind io.NotFound = cause.Missing
cause_of_kind io.PermissionDenied = cause.Denied
cause_of_kind io.NotADirectory = cause.NoFolder
cause_of_kind io.OutOfMemory = cause.NoMemory
cause_of_kind io.WouldBlock = cause.NoThread
cause_of_kind io.ReadOnlyFilesystem = cause.ReadOnly
cause_of_kind io.StorageFull = cause.NoSpace
cause_of_kind io.QuotaExceeded = cause.Quota
cause_of_kind io.FilesystemLoop = cause.Loop
cause_of_kind io.IsADirectory = cause.IsFolder
cause_of_kind io.AlreadyExists = cause.Exists
cause_of_kind io.InvalidFilename = cause.NoText
cause_of_kind io.FileTooLarge = cause.TooLarge
cause_of_kind io.BrokenPipe = cause.BrokenPipe
cause_of_kind io.ArgumentListTooLong = cause.LongList
cause_of_kind io.ResourceBusy = cause.Busy
cause_of_kind io.ExecutableFileBusy = cause.BusyProgram
cause_of_kind io.InvalidInput = cause.Invalid
cause_of_kind _ = cause.Other

-- Some causes have an error number, but no kind of their own.
abbrev pub cause_of_number : (number : ℕ) → ErrorKind → Cause
cause_of_number number kind =
    if number == 1 then cause.NotPermitted
    else if number == 5 then cause.Device
    else if number == 6 then cause.NoDevice
    else if number == 8 then cause.BadProgram
    else if number == 9 then cause.BadDescriptor
    else if (number == 23) || (number == 24) then cause.NoDescriptor
    else if number == 36 then cause.LongName
    else cause_of_kind kind

-- the cause of a fault with this number and kind
abbrev pub cause_of : Option ℤ → ErrorKind → Cause
cause_of None kind = cause_of_kind kind
cause_of (Some (pos number)) kind = cause_of_number number kind
cause_of (Some (negsuc number)) kind = cause_of_kind kind

abbrev pub cause_words : Cause → List ℕ
cause_words cause.Missing = codes "No such file or directory"
cause_words cause.Denied = codes "Permission denied"
cause_words cause.NoFolder = codes "Not a directory"
cause_words cause.NoDescriptor = codes "Too many open files"
cause_words cause.NoMemory = codes "Cannot allocate memory"
cause_words cause.NoThread = codes "Resource temporarily unavailable"
cause_words cause.ReadOnly = codes "Read-only file system"
cause_words cause.NoSpace = codes "No space left on device"
cause_words cause.Loop = codes "Too many levels of symbolic links"
cause_words cause.NotPermitted = codes "Operation not permitted"
cause_words cause.Device = codes "Input/output error"
cause_words cause.IsFolder = codes "Is a directory"
cause_words cause.Exists = codes "File exists"
cause_words cause.LongName = codes "File name too long"
cause_words cause.NoText = codes "a name is no text"
cause_words cause.TooLarge = codes "File too large"
cause_words cause.Quota = codes "Disk quota exceeded"
cause_words cause.BrokenPipe = codes "Broken pipe"
cause_words cause.BadDescriptor = codes "Bad file descriptor"
cause_words cause.NoDevice = codes "No such device or address"
cause_words cause.BadProgram = codes "Exec format error"
cause_words cause.LongList = codes "Argument list too long"
cause_words cause.Busy = codes "Device or resource busy"
cause_words cause.BusyProgram = codes "Text file busy"
cause_words cause.Invalid = codes "Invalid argument"
cause_words cause.Other = codes "unknown cause"

-- The end of a line that says why something was refused.
abbrev pub cause_note : Cause → List ℕ
cause_note cause = codes ": " ++ cause_words cause ++ 10 ∷ []
