-- The file of a folder that cannot be applied.
use Rattle.std.specs.Prelude.{List, ℕ, Bool, ◌==◌, if◌then◌else◌, Option, Some, None, slice_get}
use Rattle.std.specs.List.{list_any, filter_map, enumerate_from}
use Rattle.std.specs.Str.{is_utf8}
use Rattle.env_title.specs.Files.{File, is_hidden, file_value}
use Rattle.env_title.specs.declared.fault.EnvFault.{EnvFault}
use Rattle.env_title.specs.declared.fault.EnvFault.TheVariants.{NameHasEquals, NotText}

abbrev pub has_equals : List ℕ → Bool
has_equals name = list_any (λ byte. byte == 61) name

-- the fault of the file at a place: its name comes before its bytes, and a name that begins with a dot has no fault
abbrev pub fault_at : ℕ → File → Option EnvFault
fault_at place file =
    if is_hidden file then None
    else (if has_equals file.name then Some (NameHasEquals place)
    else (if is_utf8 (file_value file.bytes) then None
    else Some (NotText place)))

-- the faults of files that begin at this place
abbrev pub faults_from : ℕ → List File → List EnvFault
faults_from place files = filter_map (λ at. fault_at at.0 at.1) (enumerate_from place files)

-- the fault of the first file that has one
abbrev pub first_fault : List File → Option EnvFault
first_fault files = slice_get (faults_from 0 files) 0
