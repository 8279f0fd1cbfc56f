-- What a scan starts and restarts has ids of its own.
use Rattle.std.proofs.Common.{◌≡◌, ℕ, ◌+◌, ◌<◌, ◌≤◌, Bool, true, false, List, [], ◌∷◌, ◌++◌, map, length, refl, sym}
use Rattle.std.proofs.Common.{subst, ap, ◌∙◌, Option, Some, None, if◌then◌else◌, arith}
use Rattle.std.specs.Prelude.{flat_map}
use Rattle.std.specs.List.{All, AllByRecursion}
use Rattle.std.proofs.lemmas.List.Concat.{flat_map-append}
use Rattle.scan_table.specs.declared.part.Role.TheVariants.{Main, Log}
use Rattle.std.proofs.lemmas.List.Elements.{All-head, All-tail}
use Rattle.sup_trace.proofs.Lists.{AllByRecursion-joined}
use Rattle.scan_table.specs.declared.part.PartId.{PartId}
use Rattle.scan_table.specs.declared.part.Role.{Role}
use Rattle.scan_table.specs.Index.{IsNumbered}
use Rattle.scan_table.specs.Scan.{in_turn, lives_from, need, new_slot, new_slots, new_slots_at, restarts}
use Rattle.scan_table.specs.Scan.{restarts_at, slot_of, starts}
use Rattle.scan_table.specs.Scan.{is_refused}
use Rattle.scan_table.specs.Slots.{Row, SlotState, eligible, ended_roles, ids_of as slot_ids, is_name, is_pair}
use Rattle.scan_table.specs.Slots.{roles_of}
use Rattle.suite_core.specs.Parts.{is_part}
use Rattle.suite_core.proofs.Names.{is_part-later, is_part-same}
use Rattle.host_law.specs.Whole.{AreApart}
use Rattle.host_law.proofs.Lists.{ScanApart, turned_round}
use Rattle.host_law.proofs.ScanFollows.{apart_by_life, each_life}
use Rattle.host_law.proofs.Scanning.{joined}
use Rattle.scan_table.specs.Table.{scanned}

abbrev IsFrom : ℕ → PartId → Type 0
IsFrom n id = n ≤ id.life

abbrev IsUnder : ℕ → PartId → Type 0
IsUnder n id = id.life < n

more_from : (m n : ℕ) (ids : List PartId) → m ≤ n → AllByRecursion (IsFrom n) ids → AllByRecursion (IsFrom m) ids
more_from m n [] le all = tt
more_from m n (id ∷ ids) le all = (omega (arith, le, all.0), more_from m n ids le all.1)

-- Restarts

lives_above : (n slot : ℕ) (roles : List Role) → AllByRecursion (IsFrom n) (lives_from n slot roles)
lives_above n slot [] = tt
lives_above n slot (role ∷ roles) =
    (omega arith, more_from n (n + 1) (lives_from (n + 1) slot roles) (omega arith) (lives_above (n + 1) slot roles))

lives_under : (high n slot : ℕ) (roles : List Role) → n + length roles ≤ high
    → AllByRecursion (IsUnder high) (lives_from n slot roles)
lives_under high n slot [] le = tt
lives_under high n slot (role ∷ roles) le =
    (omega (arith, le), lives_under high (n + 1) slot roles (omega (arith, le)))

lives_apart : (n slot : ℕ) (roles : List Role) → AreApart (lives_from n slot roles)
lives_apart n slot [] = tt
lives_apart n slot (role ∷ roles) = (
  each_life (n + 1) (record { slot = slot; role = role; life = n }) (lives_from (n + 1) slot roles) (omega arith)
      (lives_above (n + 1) slot roles),
  lives_apart (n + 1) slot roles,
)

record Given (n more : ℕ) (ids : List PartId) : Type 0 where
  pub above : AllByRecursion (IsFrom n) ids
  pub under : AllByRecursion (IsUnder (n + more)) ids
  pub apart : AreApart ids

given_none : (n more : ℕ) → Given n more []
given_none n more = record { above = tt; under = tt; apart = tt }

restarts_given : (slots : List SlotState) (rows : List Row) (n : ℕ) (row : Row)
    → Given n (need slots rows row) (restarts_at slots rows n row)
restarts_given slots rows n row =
    elim (slot_of slots row) as (λ s. slot_of slots row ≡ s
    → Given n (Rattle.scan_table.specs.Scan.need_where (is_refused slots rows row) row s)
    (Rattle.scan_table.specs.Scan.restarts_where n s)) [
      | None ↦ λ is. given_none n _
      | (Some slot) ↦ λ is. record {
        above = lives_above n slot.number (ended_roles slot);
        under = lives_under (n + length (ended_roles slot)) n slot.number (ended_roles slot) (omega arith);
        apart = lives_apart n slot.number (ended_roles slot);
      }
    ] refl

-- What rows get, one after the other

in_order : (needs : Row → ℕ) (gift : ℕ → Row → List PartId) (n : ℕ) (rows : List Row)
    → ((n : ℕ) (row : Row) → Given n (needs row) (gift n row))
    → AllByRecursion (IsFrom n) (in_turn needs gift n rows) × AreApart (in_turn needs gift n rows)
in_order needs gift n [] each = (tt, tt)
in_order needs gift n (row ∷ rows) each =
    let here = each n row in
    let later = in_order needs gift (n + needs row) rows each in (
      AllByRecursion-joined (IsFrom n) (gift n row) (in_turn needs gift (n + needs row) rows) here.above
          (more_from n (n + needs row) (in_turn needs gift (n + needs row) rows) (omega arith) later.0),
      apart_by_life (n + needs row) (gift n row) (in_turn needs gift (n + needs row) rows) here.apart later.1 here.under
          later.0,
    )

-- Starts

starts_given : (slots : List SlotState) (rows : List Row) (n : ℕ) (row : Row)
    → Given n (need slots rows row) (flat_map slot_ids (new_slots_at slots rows n row))
starts_given slots rows n row =
    elim (slot_of slots row) as (λ s.
    Given n (Rattle.scan_table.specs.Scan.need_where (is_refused slots rows row) row s)
    (flat_map slot_ids (Rattle.scan_table.specs.Scan.new_slots_where (is_refused slots rows row) n row s))) [
      | (Some slot) ↦ given_none n _
      | None ↦ elim (is_refused slots rows row) as (λ b.
          Given n (if b then 0 else (1 + length (roles_of row)))
          (flat_map slot_ids (if b then [] else new_slot n row ∷ []))) [
            | true ↦ given_none n _
            | false ↦ elim (is_pair row) as (λ b.
                Given n (1 + length (if b then Main
                ∷ Log ∷ []
                else Main ∷ []))
                (slot_ids (record {
                  number = n;
                  name = row.name;
                  main = record { number = n + 1; has_ended = false };
                  log = if b then Some (record { number = n + 2; has_ended = false }) else None;
                }) ++ [])) [
                  | true ↦ record {
                    above = (omega arith, (omega arith, tt));
                    under = (omega arith, (omega arith, tt));
                    apart = (
                      (
                        turned_round (record { slot = n; role = Log; life = n + 2 })
                            (record { slot = n; role = Main; life = n + 1 })
                            (is_part-later (record { slot = n; role = Log; life = n + 2 })
                            (record { slot = n; role = Main; life = n + 1 }) (omega arith)),
                        tt,
                      ),
                      (tt, tt),
                    );
                  }
                  | false ↦ record {
                    above = (omega arith, tt);
                    under = (omega arith, tt);
                    apart = (tt, tt);
                  }
                ]
          ]
    ]

starts_in_turn : (slots : List SlotState) (rows : List Row) (n : ℕ) (rest : List Row)
    → flat_map slot_ids (in_turn (need slots rows) (new_slots_at slots rows) n rest)
    ≡ in_turn (need slots rows) (λ m row. flat_map slot_ids (new_slots_at slots rows m row)) n rest
starts_in_turn slots rows n [] = refl
starts_in_turn slots rows n (row ∷ rest) =
    flat_map-append slot_ids (new_slots_at slots rows n row)
    (in_turn (need slots rows) (new_slots_at slots rows) (n + need slots rows row) rest)
    ∙ ap (λ (ids : List PartId). flat_map slot_ids (new_slots_at slots rows n row) ++ ids)
    (starts_in_turn slots rows (n + need slots rows row) rest)

pub starts_apart : (slots : List SlotState) (next : ℕ) (rows : List Row) → AreApart (starts slots next rows)
starts_apart slots next rows =
    subst AreApart (sym (starts_in_turn slots rows next (eligible rows)))
    (in_order (need slots rows) (λ m row. flat_map slot_ids (new_slots_at slots rows m row)) next (eligible rows)
    (starts_given slots rows)).1

pub restarts_apart : (slots : List SlotState) (next : ℕ) (rows : List Row) → AreApart (restarts slots next rows)
restarts_apart slots next rows =
    (in_order (need slots rows) (restarts_at slots rows) next (eligible rows) (restarts_given slots rows)).1

-- Slots

abbrev IsOfNew : ℕ → PartId → Type 0
IsOfNew n id = n ≤ id.slot

abbrev IsOfOld : ℕ → PartId → Type 0
IsOfOld n id = id.slot < n

by_slot : (a b : PartId) → a.slot < b.slot → is_part b a ≡ false
by_slot a b less =
    elim (is_part b a) as (λ t. is_part b a ≡ t → t ≡ false) [
      | true ↦ λ is.
          let same : b.slot ≡ a.slot = ap (λ (id : PartId). id.slot) (is_part-same b a is) in
          absurd (omega (arith, less, same))
      | false ↦ λ is. refl
    ] refl

new_slots_of : (low n : ℕ) (slots : List SlotState) (rows : List Row) (row : Row) → low ≤ n
    → AllByRecursion (IsOfNew low) (flat_map slot_ids (new_slots_at slots rows n row))
new_slots_of low n slots rows row le =
    elim (slot_of slots row) as (λ s.
    AllByRecursion (IsOfNew low)
    (flat_map slot_ids (Rattle.scan_table.specs.Scan.new_slots_where (is_refused slots rows row) n row s))) [
      | (Some slot) ↦ tt
      | None ↦ elim (is_refused slots rows row) as (λ b.
          AllByRecursion (IsOfNew low) (flat_map slot_ids (if b then [] else new_slot n row ∷ []))) [
            | true ↦ tt
            | false ↦ elim (is_pair row) as (λ b.
                AllByRecursion (IsOfNew low) (slot_ids (record {
                  number = n;
                  name = row.name;
                  main = record { number = n + 1; has_ended = false };
                  log = if b then Some (record { number = n + 2; has_ended = false }) else None;
                }) ++ [])) [
                  | true ↦ (le, (le, tt))
                  | false ↦ (le, tt)
                ]
          ]
    ]

all_in_turn : (P : PartId → Type 0) (needs : Row → ℕ) (gift : ℕ → Row → List PartId) (low n : ℕ) (rows : List Row)
    → low ≤ n → ((n : ℕ) (row : Row) → low ≤ n → AllByRecursion P (gift n row))
    → AllByRecursion P (in_turn needs gift n rows)
all_in_turn P needs gift low n [] le each = tt
all_in_turn P needs gift low n (row ∷ rows) le each =
    AllByRecursion-joined P (gift n row) (in_turn needs gift (n + needs row) rows) (each n row le)
    (all_in_turn P needs gift low (n + needs row) rows (omega (arith, le)) each)

slot_of-numbered : (next : ℕ) (slots : List SlotState) (row : Row) (slot : SlotState) → All (IsNumbered next) slots
    → slot_of slots row ≡ Some slot → slot.number < next
slot_of-numbered next [] row slot all is = absurd (cc is)
slot_of-numbered next (first ∷ slots) row slot all is =
    elim (is_name row.name first.name) as (λ b. (if b then Some first else slot_of slots row) ≡ Some slot
    → slot.number < next) [
      | true ↦ λ is.
          let same : first ≡ slot = cc is in
          subst (λ (s : SlotState). s.number < next) same (All-head (IsNumbered next) first slots all).number
      | false ↦ λ is. slot_of-numbered next slots row slot (All-tail (IsNumbered next) first slots all) is
    ] is

lives_of_slot : (next n slot : ℕ) (roles : List Role) → slot < next → AllByRecursion (IsOfOld next) (lives_from n slot roles)
lives_of_slot next n slot [] less = tt
lives_of_slot next n slot (role ∷ roles) less = (less, lives_of_slot next (n + 1) slot roles less)

old_slots_of : (next : ℕ) (slots : List SlotState) (rows : List Row) (n : ℕ) (row : Row) → All (IsNumbered next) slots
    → AllByRecursion (IsOfOld next) (restarts_at slots rows n row)
old_slots_of next slots rows n row all =
    elim (slot_of slots row) as (λ s. slot_of slots row ≡ s
    → AllByRecursion (IsOfOld next) (Rattle.scan_table.specs.Scan.restarts_where n s)) [
      | None ↦ λ is. tt
      | (Some slot) ↦ λ is. lives_of_slot next n slot.number (ended_roles slot) (slot_of-numbered next slots row slot all is)
    ] refl

each_slot : (n : ℕ) (x : PartId) (ys : List PartId) → n ≤ x.slot → AllByRecursion (IsOfOld n) ys
    → AllByRecursion (λ (y : PartId). is_part x y ≡ false) ys
each_slot n x [] le all = tt
each_slot n x (y ∷ ys) le all = (by_slot y x (omega (arith, le, all.0)), each_slot n x ys le all.1)

apart_by_slot : (n : ℕ) (xs ys : List PartId) → AreApart xs → AreApart ys → AllByRecursion (IsOfNew n) xs
    → AllByRecursion (IsOfOld n) ys → AreApart (xs ++ ys)
apart_by_slot n [] ys one two news olds = two
apart_by_slot n (x ∷ xs) ys one two news olds = (
  AllByRecursion-joined (λ (y : PartId). is_part x y ≡ false) xs ys one.0 (each_slot n x ys news.0 olds),
  apart_by_slot n xs ys one.1 two news.1 olds,
)

pub scan_apart : ScanApart
scan_apart suite rows is free =
    let slots = suite.table.slots in
    let next = suite.table.next in
    subst AreApart (sym (joined (scanned suite.table rows).slots rows (starts slots next rows)
    (restarts slots next rows)))
    (apart_by_slot next (starts slots next rows) (restarts slots next rows) (starts_apart slots next rows)
    (restarts_apart slots next rows)
    (subst (AllByRecursion (IsOfNew next)) (sym (starts_in_turn slots rows next (eligible rows)))
    (all_in_turn (IsOfNew next) (need slots rows) (λ m row. flat_map slot_ids (new_slots_at slots rows m row)) next next
    (eligible rows) (omega arith) (λ n row le. new_slots_of next n slots rows row le)))
    (all_in_turn (IsOfOld next) (need slots rows) (restarts_at slots rows) next next (eligible rows) (omega arith)
    (λ n row le. old_slots_of next slots rows n row is.numbered)))
