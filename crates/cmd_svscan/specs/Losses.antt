-- What a round finds about parts that ended, and about those that could not be made.
use Rattle.std.specs.Prelude.{ℕ, nat_lt, List, [], map}
use Rattle.std.specs.List.{filter}
use Rattle.std.specs.Option.{option_map_or}
use Rattle.scan_table.specs.declared.part.PartId.{PartId}
use Rattle.scan_table.specs.Slots.{SlotState}
use Rattle.scan_table.specs.Table.{name_of, slot_at}
use Rattle.svc_host.specs.declared.host.Unmade as host
use Rattle.svc_host.specs.declared.part.Loss.{Loss}
use Rattle.svc_maker.specs.Making.{part_name}
use Rattle.svscan_rounds.specs.declared.service_set.UnmadePart.{UnmadePart}
use Rattle.svscan_rounds.specs.declared.service_set.Untaken.{Untaken}

-- the name of the service in a slot, if there is one
abbrev pub name_at : List SlotState → (slot : ℕ) → List ℕ
name_at slots slot = option_map_or name_of (slot_at slots slot) []

-- the name by which messages show a part: that of the service in its slot, for a logger followed by `/log`
abbrev pub shown_name : List SlotState → PartId → List ℕ
shown_name slots id = part_name (name_at slots id.slot) id.role

-- the control bytes that parts which ended did not take
abbrev pub untaken_in : List SlotState → List (PartId × Loss) → List Untaken
untaken_in slots losses =
    map (λ (lost : PartId × Loss). record { name = shown_name slots lost.0; count = lost.1.untaken })
    (filter (λ (lost : PartId × Loss). nat_lt 0 lost.1.untaken) losses)

-- the parts whose last trace was not kept
abbrev pub untraced_in : List SlotState → List (PartId × Loss) → List (List ℕ)
untraced_in slots losses =
    map (λ (lost : PartId × Loss). shown_name slots lost.0)
    (filter (λ (lost : PartId × Loss). lost.1.lacks_trace) losses)

-- a part that could not be made, and why
abbrev pub unmade_of : List SlotState → host.Unmade → UnmadePart
unmade_of slots one = record { name = shown_name slots one.part; fault = one.fault }

-- the parts that could not be made, and why
abbrev pub unmade_in : List SlotState → List host.Unmade → List UnmadePart
unmade_in slots failed = map (unmade_of slots) failed
