-- How many descriptors the services of a folder need.
use Rattle.std.specs.Prelude.{ℕ, ◌+◌, ◌-◌, ◌^◌, min, nat_lt, if◌then◌else◌, List, sum_by, Option, Some, None}
use Rattle.scan_table.specs.Slots.{Row, is_eligible, is_pair}
use Rattle.svscan_rounds.specs.declared.descriptors.TheConstants.{OWN, PAIR, SERVICE}
use Rattle.svscan_rounds.specs.declared.service_set.Shortage.{Shortage}

-- what the service of a row needs, with or without a logger; other rows need none
abbrev pub descriptors_of : Row → ℕ
descriptors_of row = if is_eligible row then (if is_pair row then PAIR else SERVICE) else 0

-- what svscan needs for itself and for the services of these rows, at most the greatest number of 64 bits
abbrev pub descriptors_for : List Row → ℕ
descriptors_for rows = min (OWN + sum_by descriptors_of rows) (2 ^ 64 - 1)

-- If fewer are allowed, that is a shortage.
abbrev pub shortage : List Row → (allowed : ℕ) → Option Shortage
shortage rows allowed =
    if nat_lt allowed (descriptors_for rows)
    then Some (record { needed = descriptors_for rows; allowed = allowed })
    else None
