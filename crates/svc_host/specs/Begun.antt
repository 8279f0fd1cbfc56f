-- The state in which a part begins in a round.
use Rattle.std.specs.Prelude.{◌≡◌, ℕ, Bool, false, List, [], Option, Some, None}
use Rattle.sup_core.specs.State.{is_gone}
use Rattle.sup_core.specs.History.{History, state_of}
use Rattle.svc_record.specs.Opening.{beginning}
use Rattle.tai_status.specs.Label.{Tai64n}
use Rattle.scan_table.specs.declared.part.PartId.{PartId}
use Rattle.scan_table.specs.Slots.{Row, SlotState, is_down}
use Rattle.scan_table.specs.Order.{row_of}
use Rattle.scan_table.specs.Table.{slot_at}
use Rattle.svc_host.specs.Parts.{HostPart, no_end_bytes, no_loss}

-- the row of a slot
abbrev pub row_at : List Row → Option SlotState → Option Row
row_at rows None = None
row_at rows (Some slot) = row_of rows slot.name

-- A part that has just begun: its station was opened with the machine of this beginning, which is not gone. Its
-- process, if it has one, was adopted. Nothing was posted to it.
pub record IsBegun (id : PartId) (begin : History) (part : HostPart) : Type 0 where
  pub is : part.id ≡ id
  pub opening : part.station.opening ≡ state_of begin
  pub alive : is_gone part.station.opening.phase ≡ false
  pub adopted : part.adopted ≡ (state_of begin).status.pid
  pub known : part.known ≡ []
  pub posted : part.mail.posted ≡ []
  pub end_bytes : part.end_bytes ≡ no_end_bytes
  pub has_ended : part.has_ended ≡ false
  pub loss : part.loss ≡ no_loss

-- Its mailbox and its trace have the room that was asked for.
pub record HasRooms (mail trace : ℕ) (part : HostPart) : Type 0 where
  pub mailbox : part.mail.room ≡ mail
  pub entries : part.station.room ≡ trace

-- It begins as its maker says. That is by the row of its slot, with or without its `down` file, at the label of the
-- round, or otherwise as an earlier svscan left it.
pub record Begins (slots : List SlotState) (rows : List Row) (label : Tai64n) (part : HostPart) : Type 0 where
  pub row : Row
  pub found : row_at rows (slot_at slots part.id.slot) ≡ Some row
  pub begun : IsBegun part.id (beginning part.opening (is_down part.id.role row) label) part
