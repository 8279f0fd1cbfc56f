-- How parts are made while those before them wait to be admitted to the door.
use Rattle.std.specs.Prelude.{◌≡◌, ◌&&◌, nat_le, ℕ, Bool, List, Some, None, MatchBool, is_none, length}
use Rattle.std.specs.List.{filter}
use Rattle.scan_table.specs.declared.part.PartId.{PartId}
use Rattle.svc_host.specs.declared.maker.PartFault.{PartFault}
use Rattle.svc_record.specs.declared.opening.Opening.{Opening}
use Rattle.svc_maker.specs.Admission.{AdmitsAll}
use Rattle.svc_maker.specs.Making.{KeptPart, Making, SetsUp, part_fault}
use Rattle.svc_maker.specs.declared.kept_folder.TheConstants.{BATCH}
use Rattle.svc_maker.specs.declared.set_up.MakeFault.{MakeFault}

-- whether a part waits to be admitted and was not refused yet
abbrev pub is_new : KeptPart → Bool
is_new kept = kept.waits && is_none kept.refused

-- how many of these parts are new
abbrev pub count_new : List KeptPart → ℕ
count_new kept = length (filter is_new kept)

-- whether so many of these parts are new that they are to be admitted before another part is made
abbrev pub is_batch : List KeptPart → Bool
is_batch kept = nat_le BATCH (count_new kept)

-- The parts that wait were admitted, if they are a batch.
abbrev pub AdmitsBatch : (old new : Making) → Type 0
AdmitsBatch old new = MatchBool (is_batch old.kept) (AdmitsAll old new) (new ≡ old)

-- A part was made: the parts before it were admitted if they are a batch; then it was set up, is kept, and begins this
-- way.
pub record MakesPart (name : List ℕ) (part : PartId) (opening : Opening) (old new : Making) : Type 0 where
  pub middle : Making
  pub admits : AdmitsBatch old middle
  pub sets_up : SetsUp name part None (Some opening) middle new

-- A part was not made, and the host gets this fault, which says why it was not set up. The parts before it were
-- admitted if they are a batch.
pub record FailsToMake (name : List ℕ) (part : PartId) (fault : PartFault) (old new : Making) : Type 0 where
  pub failure : MakeFault
  pub is : fault ≡ part_fault failure
  pub middle : Making
  pub admits : AdmitsBatch old middle
  pub sets_up : SetsUp name part (Some failure) None middle new
