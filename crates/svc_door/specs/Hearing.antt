-- The result of a read of a connection.
use Rattle.std.specs.Prelude.{ℕ, ◌<◌, ◌≤◌, ◌==◌, if◌then◌else◌, List, length, take, Option, Some, None, Result, Ok, Err}
use Rattle.std.specs.declared.io.ErrorKind.{ErrorKind}
use Rattle.std.specs.declared.io.ErrorKind.TheVariants.{Interrupted, WouldBlock}
use Rattle.std.specs.declared.io.Error.{Error}
use Rattle.std.specs.IoError.{error_kind}
use Rattle.std.specs.Io.KnownBytes.{Consumes, Keeps, IsAtEnd}
use Rattle.svc_door.specs.declared.byte_source.Heard.{Heard}
use Rattle.svc_door.specs.declared.byte_source.Heard.TheVariants.{Bytes, Nothing, End, Fault}

-- what an error of a read means: an error that it would wait is no fault, and an interrupted read means nothing
abbrev pub heard_at : ErrorKind → Option Heard
heard_at Interrupted = None
heard_at WouldBlock = Some Nothing
heard_at _ = Some Fault

-- what the result of a read means, if the buffer had room: no bytes mean the end
abbrev pub heard_of : Result ℕ Error → Option Heard
heard_of (Ok count) = if count == 0 then Some End else Some (Bytes count)
heard_of (Err fault) = heard_at (error_kind fault)

-- What a connection gave, by the bytes that it had left and now has left, and by the buffer. Either it gave this many
-- bytes, at least one, which are at the buffer's front; or it gave none, and at its end none are left.
abbrev pub Hears : (old new : Option (List ℕ)) → Heard → List ℕ → Type 0
Hears old new (Bytes count) into = (0 < count) × (count ≤ length into) × Consumes old new (take count into)
Hears old new Nothing into = Keeps old new
Hears old new End into = Keeps old new × IsAtEnd new
Hears old new Fault into = Keeps old new
