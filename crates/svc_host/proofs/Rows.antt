-- A part that begins by its row or as it was left.
use Rattle.std.proofs.Common.{◌≡◌, ℕ, List, Option, Some, None, Result, Ok, Err, refl, sym, ap, ◌∙◌}
use Rattle.std.specs.Option.{option_map}
use Rattle.std.specs.Prelude.{IfOk}
use Rattle.sup_core.specs.History.{state_of}
use Rattle.svc_record.specs.Opening.{beginning}
use Rattle.tai_status.specs.Label.{Tai64n}
use Rattle.scan_table.specs.declared.part.PartId.{PartId}
use Rattle.scan_table.specs.Slots.{Row, SlotState, is_down}
use Rattle.scan_table.specs.Order.{row_of}
use Rattle.scan_table.specs.Table.{name_of, slot_at}
use Rattle.svc_host.specs.declared.maker.PartFault.{PartFault}
use Rattle.svc_host.specs.Parts.{HostPart}
use Rattle.svc_host.specs.Begun.{Begins, IsBegun, row_at}

row_named : (rows : List Row) (slot : Option SlotState) (name : List ℕ) → option_map name_of slot ≡ Some name
    → row_at rows slot ≡ row_of rows name
row_named rows None name is = absurd (cc is)
row_named rows (Some slot) name is = ap (row_of rows) (cc is)

pub begins : (slots : List SlotState) (rows : List Row) (label : Tai64n) (id : PartId) (name : List ℕ) (row : Row)
    (part : HostPart)
    → option_map name_of (slot_at slots id.slot) ≡ Some name → row_of rows name ≡ Some row
    → IsBegun id (beginning part.opening (is_down id.role row) label) part → Begins slots rows label part
begins slots rows label id name row part named found begun =
    record {
      row = row;
      found = ap (λ (p : PartId). row_at rows (slot_at slots p.slot)) begun.is
          ∙ row_named rows (slot_at slots id.slot) name named ∙ found;
      begun = record {
        is = refl;
        opening = begun.opening
            ∙ sym (ap (λ (p : PartId). state_of (beginning part.opening (is_down p.role row) label)) begun.is);
        alive = begun.alive;
        adopted = begun.adopted
            ∙ sym (ap (λ (p : PartId). (state_of (beginning part.opening (is_down p.role row) label)).status.pid)
            begun.is);
        known = begun.known;
        posted = begun.posted;
        end_bytes = begun.end_bytes;
        has_ended = begun.has_ended;
        loss = begun.loss;
      };
    }

pub begins_if : (slots : List SlotState) (rows : List Row) (label : Tai64n) (id : PartId) (name : List ℕ) (row : Row)
    (made : Result HostPart PartFault)
    → option_map name_of (slot_at slots id.slot) ≡ Some name → row_of rows name ≡ Some row
    → IfOk made (λ part. IsBegun id (beginning part.opening (is_down id.role row) label) part)
    → IfOk made (λ part. Begins slots rows label part)
begins_if slots rows label id name row (Err fault) named found begun = tt
begins_if slots rows label id name row (Ok part) named found begun =
    begins slots rows label id name row part named found begun
