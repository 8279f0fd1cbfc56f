-- What a command reads of the system around it, if the system shows what it holds.
use Rattle.std.specs.Prelude.{◌≡◌, ◌≢◌, ⊤, ℕ, List, Option, Some, None}
use Rattle.std.specs.IoError.{error_kind}
use Rattle.std.specs.declared.io.Error.{Error}
use Rattle.std.specs.declared.io.ErrorKind.{ErrorKind}
use Rattle.std.specs.declared.io.ErrorKind.TheVariants.{OutOfMemory}

-- What was read is what is there, if that is known.
abbrev pub IsKnown : {X : Type 0} → Option X → X → Type 0
IsKnown None read = ⊤
IsKnown (Some known) read = read ≡ known

-- Either a fault is a lack of memory, or its object is not known to be there.
abbrev pub IsMissed : {X : Type 0} → Error → Option X → Type 0
IsMissed fault known = error_kind fault ≢ OutOfMemory → known ≡ None

-- What is known of the files at paths: the bytes of a file, and the kind of error of a read that fails.
pub record KnownFiles : Type 0 where
  pub bytes : List ℕ → Option (List ℕ)
  pub fault : List ℕ → Option ErrorKind

abbrev pub known_files : (bytes : List ℕ → Option (List ℕ)) (fault : List ℕ → Option ErrorKind) → KnownFiles
known_files bytes fault = record { bytes = bytes; fault = fault }
