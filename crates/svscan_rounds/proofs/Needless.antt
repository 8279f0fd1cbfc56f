-- A scan does the same without the rows that it does not need.
use Rattle.std.proofs.Common.{◌≡◌, ℕ, ◌+◌, ◌-◌, Bool, true, false, not, ◌&&◌, if◌then◌else◌, List, [], ◌∷◌, ◌++◌}
use Rattle.std.proofs.Common.{length, map, filter, drop, sym, ap, ◌∙◌, refl, subst}
use Rattle.std.specs.List.{list_any, sum_by, flat_map}
use Rattle.scan_table.specs.Slots.{Row, is_eligible, eligible, is_name, is_service_name, SlotState, all_ended, ids_of}
use Rattle.scan_table.specs.declared.part.PartId.{PartId}
use Rattle.scan_table.specs.Scan.{slot_of, is_new, need_where, in_turn, new_slots_where, restarts_where}
use Rattle.scan_table.specs.Table.{TableState, renewed}
use Rattle.scan_table.specs.Whole.{IsSameScan, WholeNeedNoRow, is_whole, other_rows}
use Rattle.svscan_rounds.specs.Needed.{NeedsNoOtherRow, needed_rows}

-- two tests at once, or one after the other
filter-both : {X : Type 0} (p q : X → Bool) (xs : List X) → filter (λ x. p x && q x) xs ≡ filter q (filter p xs)
filter-both p q [] = refl
filter-both p q (x ∷ xs) =
    elim (p x) as (λ b. (if b && q x then x ∷ filter (λ y. p y && q y) xs else filter (λ y. p y && q y) xs)
    ≡ filter q (if b then x ∷ filter p xs else filter p xs)) [
      | true ↦ ap (λ ys. if q x then x ∷ ys else ys) (filter-both p q xs)
      | false ↦ filter-both p q xs
    ]

passed-over : (b : Bool) (row : Row) (rows : List Row) → (if b && false then row ∷ rows else rows) ≡ rows
passed-over true row rows = refl
passed-over false row rows = refl

-- whether a service may have the name of a row
abbrev is_named : Row → Bool
is_named row = is_service_name row.name

-- Each eligible row has such a name.
eligible-named : (rows : List Row) → eligible (filter is_named rows) ≡ eligible rows
eligible-named [] = refl
eligible-named (row ∷ rows) =
    elim (is_named row) as (λ b. is_named row ≡ b
    → eligible (if b then row ∷ filter is_named rows else filter is_named rows) ≡ eligible (row ∷ rows)) [
      | true ↦ λ is. ap (λ ones. if is_eligible row then row ∷ ones else ones) (eligible-named rows)
      | false ↦ λ is. eligible-named rows
          ∙ sym (ap (λ b. if row.is_dir && b then row ∷ eligible rows else eligible rows) is
          ∙ passed-over row.is_dir row (eligible rows))
    ] refl

-- What a scan does, by those of its rows that are eligible

abbrev is_dropped_by : List Row → SlotState → Bool
is_dropped_by ones slot = not (list_any (λ (row : Row). is_name row.name slot.name) ones) && all_ended slot

abbrev kept_by : List SlotState → List Row → List SlotState
kept_by slots ones = filter (λ slot. not (is_dropped_by ones slot)) slots

abbrev refused_by : List SlotState → List Row → List Row
refused_by slots ones = drop (1000 - length (kept_by slots ones)) (filter (is_new slots) ones)

abbrev is_refused_by : List SlotState → List Row → Row → Bool
is_refused_by slots ones row = list_any (λ (other : Row). is_name row.name other.name) (refused_by slots ones)

abbrev need_by : List SlotState → List Row → Row → ℕ
need_by slots ones row = need_where (is_refused_by slots ones row) row (slot_of slots row)

abbrev new_by : List SlotState → ℕ → List Row → List SlotState
new_by slots next ones =
    in_turn (need_by slots ones) (λ n row. new_slots_where (is_refused_by slots ones row) n row (slot_of slots row))
    next
    ones

abbrev again_by : List SlotState → ℕ → List Row → List PartId
again_by slots next ones = in_turn (need_by slots ones) (λ n row. restarts_where n (slot_of slots row)) next ones

abbrev scanned_by : TableState → List Row → TableState
scanned_by table ones =
    record {
      slots = map (renewed (again_by table.slots table.next ones)) (kept_by table.slots ones)
          ++ new_by table.slots table.next ones;
      next = table.next + sum_by (need_by table.slots ones) ones;
    }

-- Two scans do the same if the same of their rows are eligible.
scans-alike : (table : TableState) (rows others : List Row) → eligible rows ≡ eligible others
    → IsSameScan table rows others
scans-alike table rows others same =
    let slots = table.slots in
    record {
      same_starts = ap (λ ones. flat_map ids_of (new_by slots table.next ones)) same;
      same_restarts = ap (again_by slots table.next) same;
      same_drops = ap (λ ones. map (λ (slot : SlotState). slot.number) (filter (is_dropped_by ones) slots)) same;
      same_refused = ap (λ ones. map (λ (row : Row). row.name) (refused_by slots ones)) same;
      same_table = ap (scanned_by table) same;
    }

-- the same, through a scan in between
alike-then : (table : TableState) (a b c : List Row) → IsSameScan table a b → IsSameScan table b c
    → IsSameScan table a c
alike-then table a b c first rest = record {
  same_starts = first.same_starts ∙ rest.same_starts;
  same_restarts = first.same_restarts ∙ rest.same_restarts;
  same_drops = first.same_drops ∙ rest.same_drops;
  same_refused = first.same_refused ∙ rest.same_refused;
  same_table = first.same_table ∙ rest.same_table;
}

-- A scan does the same without the rows of whole services, and without those whose names no service may have.
pub needs-no-other : (table : TableState) → WholeNeedNoRow table → NeedsNoOtherRow table
needs-no-other table whole rows =
    let named = filter is_named rows in
    let both : needed_rows table.slots rows ≡ other_rows table.slots named =
    filter-both is_named (λ (row : Row). not (is_whole table.slots row.name)) rows in
    subst (λ (some : List Row). IsSameScan table some rows) (sym both)
    (alike-then table (other_rows table.slots named) named rows (whole named)
    (scans-alike table named rows (eligible-named rows)))
