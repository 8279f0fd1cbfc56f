-- The first fault among files, file by file.
use Rattle.std.proofs.Common.{◌≡◌, ℕ, ◌+◌, Bool, true, false, List, [], ◌∷◌, refl, sym, ap, ◌∙◌}
use Rattle.std.specs.Prelude.{Option, Some, None, Result, Err, IsOk, MatchOption, slice_get, if◌then◌else◌}
use Rattle.std.specs.Str.{is_utf8}
use Rattle.env_title.specs.Files.{File, is_hidden, file_value}
use Rattle.env_title.specs.Faults.{has_equals, fault_at, faults_from, first_fault}
use Rattle.env_title.specs.declared.fault.EnvFault.{EnvFault}
use Rattle.env_title.specs.declared.fault.EnvFault.TheVariants.{NameHasEquals, NotText, OutOfMemory}

-- the fault of a file with a good name
pub fault_at-named : (place : ℕ) (file : File) → is_hidden file ≡ false → has_equals file.name ≡ false
    → fault_at place file ≡ (if is_utf8 (file_value file.bytes) then None else Some (NotText place))
fault_at-named place file visible named = rw (visible, named) refl

pub first-good : (place : ℕ) (file : File) (files : List File) → fault_at place file ≡ None
    → slice_get (faults_from place (file ∷ files)) 0 ≡ slice_get (faults_from (place + 1) files) 0
first-good place file files good = rw good refl

pub first-bad : (place : ℕ) (file : File) (files : List File) (fault : EnvFault) → fault_at place file ≡ Some fault
    → slice_get (faults_from place (file ∷ files)) 0 ≡ Some fault
first-bad place file files fault bad = rw bad refl

-- the fault that is reported is the file's
pub reported : (o : Option EnvFault) (r : Result (Unit {0}) EnvFault) (fault : EnvFault)
    → MatchOption o (IsOk r) (λ f. r ≡ Err f) → r ≡ Err fault → o ≡ Some fault
reported None r fault good is = let never = rw is at good in cc
reported (Some f) r fault bad is = cc

-- No file's fault is a lack of memory.
never_at : (place : ℕ) (file : File) (b c d : Bool) → (if b then None else (if c then Some (NameHasEquals place)
    else (if d then None else Some (NotText place)))) ≡ Some OutOfMemory → ⊥
never_at place file true c d h = cc h
never_at place file false true d h = cc h
never_at place file false false true h = cc h
never_at place file false false false h = cc h

never_from : (place : ℕ) (files : List File) → slice_get (faults_from place files) 0 ≡ Some OutOfMemory → ⊥
never_from place [] h = cc h
never_from place (file ∷ files) h =
    elim (fault_at place file) as (λ o. fault_at place file ≡ o → ⊥) [
      | None ↦ λ good. never_from (place + 1) files (sym (first-good place file files good) ∙ h)
      | Some fault ↦ λ bad.
          let same : fault ≡ OutOfMemory = cc (sym (first-bad place file files fault bad) ∙ h) in
          never_at place file (is_hidden file) (has_equals file.name) (is_utf8 (file_value file.bytes))
          (bad ∙ ap {B = Option EnvFault} (λ (f : EnvFault). Some f) same)
    ] refl

pub never_memory : (files : List File) → first_fault files ≡ Some OutOfMemory → ⊥
never_memory files h = never_from 0 files h

-- if there is no first fault, neither the first file nor the others have one
pub none_parts : (place : ℕ) (file : File) (files : List File) → slice_get (faults_from place (file ∷ files)) 0 ≡ None
    → (fault_at place file ≡ None) × (slice_get (faults_from (place + 1) files) 0 ≡ None)
none_parts place file files none =
    elim (fault_at place file) as (λ o. fault_at place file ≡ o
    → (o ≡ None) × (slice_get (faults_from (place + 1) files) 0 ≡ None)) [
      | None ↦ λ good. let rest = rw good at none in (refl, rest)
      | Some fault ↦ λ bad. let first : Some fault ≡ None = rw bad at none in cc
    ] refl
