-- A table after several ends, one after the other.
use Rattle.std.proofs.Common.{◌≡◌, List, [], ◌∷◌, ◌++◌, refl}
use Rattle.scan_table.specs.declared.part.PartId.{PartId}
use Rattle.scan_table.specs.declared.part.Role.TheVariants.{Main}
use Rattle.scan_table.specs.Table.{TableState, after_end}
use Rattle.svc_host.specs.Rounds.{after_ends}

-- the default for what is read past the end of the parts
abbrev pub past : PartId
past = record { slot = 0; role = Main; life = 0 }

pub ends_more : (ids : List PartId) (id : PartId) (table : TableState) → after_ends (ids ++ id ∷ []) table
    ≡ after_end (after_ends ids table) id
ends_more [] id table = refl
ends_more (first ∷ ids) id table = ends_more ids id (after_end table first)
