-- The rows of services with no ended part make no difference.
use Rattle.std.proofs.Common.{◌≡◌, ◌≢◌, ℕ, ◌+◌, ◌-◌, ◌<◌, Bool, true, false, not, ◌&&◌, if◌then◌else◌, List, [], ◌∷◌}
use Rattle.std.proofs.Common.{◌++◌, length, get_or, map, filter, drop, sym, ap, ◌∙◌, refl, arith, Some, None, is_none}
use Rattle.std.proofs.Common.{Ok, Err}
use Rattle.std.specs.List.{AllPairs, All, list_all, list_any, sum_by, flat_map}
use Rattle.std.proofs.lemmas.List.Elements.{All-head, All-tail}
use Rattle.std.proofs.lemmas.List.{get_or_default}
use Rattle.std.proofs.lemmas.List.Sums.{sum_by-cons}
use Rattle.std.proofs.lemmas.Map.Views.{any-filter_same}
use Rattle.scan_table.specs.declared.part.PartId.{PartId}
use Rattle.scan_table.specs.declared.part.Role.{Role}
use Rattle.scan_table.specs.declared.part.Role.TheVariants.{Main, Log}
use Rattle.scan_table.specs.Slots.{Row, is_eligible, eligible, is_name, SlotState, SlotPart, log_parts, all_ended}
use Rattle.scan_table.specs.Slots.{ended_roles, ids_of}
use Rattle.scan_table.specs.Scan.{slot_of, is_new, new_rows, has_row, is_dropped, drops, kept, room, refused_rows, need}
use Rattle.scan_table.specs.Scan.{need_where, needs, in_turn, new_slots, new_slots_where, restarts, restarts_where}
use Rattle.scan_table.specs.Scan.{lives_from}
use Rattle.scan_table.specs.Table.{renewed}
use Rattle.scan_table.specs.Whole.{none_ended, slot_named, is_whole, is_whole_slot, other_rows, WholeNeedNoRow}
use Rattle.scan_table.proofs.Orders.{named-same}
use Rattle.scan_table.specs.Index.{IsIndex, IsSearched, names_of}
use Rattle.scan_table.proofs.Searched.{slot-here, slot-nowhere, searched-some, searched-none}

-- whether a row has another name than these services
abbrev counts : List SlotState → Row → Bool
counts slots row = not (is_whole slots row.name)

-- The slot of a row is the slot with its name.
pub row-named : (slots : List SlotState) (row : Row) → slot_of slots row ≡ slot_named slots row.name
row-named [] row = refl
row-named (slot ∷ slots) row =
    elim (is_name row.name slot.name) as (λ b. (if b then Some slot else slot_of slots row)
    ≡ (if b then Some slot else slot_named slots row.name)) [
      | true ↦ refl
      | false ↦ row-named slots row
    ]

abbrev is_role : SlotPart → Role
is_role part = part.role

-- A part that has not ended does not restart.
none-restart : (slot : SlotState) → none_ended slot ≡ true → ended_roles slot ≡ []
none-restart slot none =
    elim slot.log as (λ log.
    list_all (λ (part : SlotPart). not part.life.has_ended) (record { role = Main; life = slot.main }
    ∷ log_parts log) ≡ true →
    map is_role (filter (λ (part : SlotPart). part.life.has_ended) (record { role = Main; life = slot.main }
    ∷ log_parts log)) ≡ []) [
      | None ↦ elim slot.main.has_ended as (λ b. (not b && true) ≡ true
          → map is_role (if b then record { role = Main; life = slot.main } ∷ [] else []) ≡ []) [
            | true ↦ λ e. cc
            | false ↦ λ e. refl
          ]
      | (Some life) ↦
          elim slot.main.has_ended as (λ b. (not b && (not life.has_ended && true)) ≡ true →
          map is_role (if b then record { role = Main; life = slot.main }
          ∷ filter (λ (part : SlotPart). part.life.has_ended) (record { role = Log; life = life } ∷ [])
          else filter (λ (part : SlotPart). part.life.has_ended) (record { role = Log; life = life } ∷ [])) ≡ []) [
            | true ↦ λ e. cc
            | false ↦ elim life.has_ended as (λ b. (not b && true) ≡ true
                → map is_role (if b then record { role = Log; life = life } ∷ [] else []) ≡ []) [
                  | true ↦ λ e. cc
                  | false ↦ λ e. refl
                ]
          ]
    ] none

-- A slot with no ended part has not ended.
none-all : (slot : SlotState) → none_ended slot ≡ true → all_ended slot ≡ false
none-all slot none =
    elim slot.main.has_ended as (λ b.
    (not b && list_all (λ (part : SlotPart). not part.life.has_ended) (log_parts slot.log)) ≡ true →
    (b && list_all (λ (part : SlotPart). part.life.has_ended) (log_parts slot.log)) ≡ false) [
      | true ↦ λ e. cc
      | false ↦ λ e. refl
    ] none

-- what two tests leave of a list, if the second keeps all that the first keeps
filter-weaker : {X : Type 0} (p q : X → Bool) → ((x : X) → p x ≡ true → q x ≡ true) → (xs : List X)
    → filter p (filter q xs) ≡ filter p xs
filter-weaker p q keeps [] = refl
filter-weaker p q keeps (x ∷ xs) =
    elim (q x) as (λ b. q x ≡ b → filter p (if b then x ∷ filter q xs else filter q xs)
    ≡ (if p x then x ∷ filter p xs else filter p xs)) [
      | true ↦ λ is. ap (λ ys. if p x then x ∷ ys else ys) (filter-weaker p q keeps xs)
      | false ↦ λ is. elim (p x) as (λ c. p x ≡ c
          → filter p (filter q xs) ≡ (if c then x ∷ filter p xs else filter p xs)) [
            | true ↦ λ is-p. (let e : false ≡ true = sym is ∙ keeps x is-p in cc)
            | false ↦ λ is-p. filter-weaker p q keeps xs
          ] refl
    ] refl

-- two tests in either order
filter-swap : {X : Type 0} (p q : X → Bool) (xs : List X) → filter p (filter q xs) ≡ filter q (filter p xs)
filter-swap p q [] = refl
filter-swap p q (x ∷ xs) =
    elim (q x) as (λ b. q x ≡ b → filter p (if b then x ∷ filter q xs else filter q xs)
    ≡ filter q (if p x then x ∷ filter p xs else filter p xs)) [
      | true ↦ λ is-q. elim (p x) as (λ c. (if c then x ∷ filter p (filter q xs) else filter p (filter q xs))
          ≡ filter q (if c then x ∷ filter p xs else filter p xs)) [
            | true ↦ (let more : filter q (x ∷ filter p xs) ≡ x ∷ filter q (filter p xs) = rw is-q refl in
                ap (λ ys. x ∷ ys) (filter-swap p q xs) ∙ sym more)
            | false ↦ filter-swap p q xs
          ]
      | false ↦ λ is-q. elim (p x) as (λ c. filter p (filter q xs)
          ≡ filter q (if c then x ∷ filter p xs else filter p xs)) [
            | true ↦ (let less : filter q (x ∷ filter p xs) ≡ filter q (filter p xs) = rw is-q refl in
                filter-swap p q xs
                ∙ sym less)
            | false ↦ filter-swap p q xs
          ]
    ] refl

-- two tests that agree on each element
filter-same : {X : Type 0} (p q : X → Bool) (xs : List X) → All (λ x. p x ≡ q x) xs → filter p xs ≡ filter q xs
filter-same p q [] same = refl
filter-same p q (x ∷ xs) same =
    ap (λ b. if b then x ∷ filter p xs else filter p xs) (All-head (λ y. p y ≡ q y) x xs same) ∙
    ap (λ ys. if q x then x ∷ ys else ys) (filter-same p q xs (All-tail (λ y. p y ≡ q y) x xs same))

-- the eligible ones of the other rows
eligible-others : (slots : List SlotState) (rows : List Row) → eligible (other_rows slots rows)
    ≡ filter (counts slots) (eligible rows)
eligible-others slots rows = filter-swap is_eligible (counts slots) rows

-- A new name is not that of such a service.
new-counts : (slots : List SlotState) (row : Row) → is_new slots row ≡ true → counts slots row ≡ true
new-counts slots row new =
    elim (slot_named slots row.name) as (λ s. is_none s ≡ true → not (is_whole_slot s) ≡ true) [
      | None ↦ λ e. refl
      | (Some slot) ↦ λ e. cc
    ] (ap is_none (sym (row-named slots row)) ∙ new)

new-others : (slots : List SlotState) (rows : List Row) → new_rows slots (other_rows slots rows) ≡ new_rows slots rows
new-others slots rows =
    ap (filter (is_new slots)) (eligible-others slots rows)
    ∙ filter-weaker (is_new slots) (counts slots) (new-counts slots) (eligible rows)

-- A slot with an ended part keeps its row.
row-counts : (slots : List SlotState) (place : ℕ) (slot : SlotState)
    → AllPairs (λ (a : SlotState) (b : SlotState). a.name ≢ b.name) slots →
    place < length slots → slot ≡ get_or slots place slot → none_ended slot ≡ false → (row : Row)
    → is_name row.name slot.name ≡ true → counts slots row ≡ true
row-counts slots place slot distinct within read some row named =
    let found : slot_named slots row.name ≡ Some slot = sym (row-named slots row)
    ∙ slot-here slots row place slot distinct within read (sym (named-same row.name slot.name named)) in
    ap (λ s. not (is_whole_slot s)) found ∙ ap not some

not-false : (b : Bool) → not b ≡ false → b ≡ true
not-false true e = refl
not-false false e = cc

and-false : (b : Bool) → (b && false) ≡ false
and-false true = refl
and-false false = refl

-- The same slots are dropped.
dropped-same : (slots : List SlotState) (rows : List Row) (place : ℕ) (slot : SlotState)
    → AllPairs (λ (a : SlotState) (b : SlotState). a.name ≢ b.name) slots →
    place < length slots → slot ≡ get_or slots place slot → is_dropped (other_rows slots rows) slot
    ≡ is_dropped rows slot
dropped-same slots rows place slot distinct within read =
    elim (none_ended slot) as (λ b. none_ended slot ≡ b → is_dropped (other_rows slots rows) slot
    ≡ is_dropped rows slot) [
      | true ↦ λ none.
          ap (λ b. not (has_row (other_rows slots rows) slot) && b) (none-all slot none)
          ∙ and-false (not (has_row (other_rows slots rows) slot)) ∙
          sym (ap (λ b. not (has_row rows slot) && b) (none-all slot none) ∙ and-false (not (has_row rows slot)))
      | false ↦ λ some.
          let rows-same : has_row (other_rows slots rows) slot ≡ has_row rows slot =
          ap (list_any (λ (row : Row). is_name row.name slot.name)) (eligible-others slots rows) ∙
          any-filter_same (λ (row : Row). is_name row.name slot.name) (counts slots) true
          (row-counts slots place slot distinct within read some) (eligible rows) in
          ap (λ b. not b && all_ended slot) rows-same
    ] refl

-- the slot that a search found
pub named-some : (slots : List SlotState) (index : List ℕ) (name : List ℕ) (at : ℕ) (slot : SlotState)
    → IsIndex (names_of slots) index → length index ≡ length slots →
    IsSearched (names_of slots) index name (Ok at) → slot ≡ get_or slots (get_or index at 0) slot
    → Some slot ≡ slot_named slots name
named-some slots index name at slot is whole searched read =
    let row : Row = record { name = name; is_dir = false; has_log = false; down = false; log_down = false } in
    searched-some slots index row name at slot is whole searched refl read ∙ row-named slots row

-- a name that a search did not find
pub named-none : (slots : List SlotState) (index : List ℕ) (name : List ℕ) (at : ℕ) → IsIndex (names_of slots) index
    → length index ≡ length slots →
    IsSearched (names_of slots) index name (Err at) → None ≡ slot_named slots name
named-none slots index name at is whole searched =
    let row : Row = record { name = name; is_dir = false; has_log = false; down = false; log_down = false } in
    sym (slot-nowhere slots row (searched-none slots index name at is whole searched)) ∙ row-named slots row

each-dropped : (slots : List SlotState) (rows : List Row)
    → AllPairs (λ (a : SlotState) (b : SlotState). a.name ≢ b.name) slots →
    All (λ (slot : SlotState). is_dropped (other_rows slots rows) slot ≡ is_dropped rows slot) slots
each-dropped slots rows distinct k d within =
    dropped-same slots rows k (get_or slots k d) distinct within (get_or_default slots k d (get_or slots k d) within)

drops-others : (slots : List SlotState) (rows : List Row)
    → AllPairs (λ (a : SlotState) (b : SlotState). a.name ≢ b.name) slots →
    drops slots (other_rows slots rows) ≡ drops slots rows
drops-others slots rows distinct =
    ap (map (λ (slot : SlotState). slot.number))
    (filter-same (is_dropped (other_rows slots rows)) (is_dropped rows) slots (each-dropped slots rows distinct))

kept-others : (slots : List SlotState) (rows : List Row)
    → AllPairs (λ (a : SlotState) (b : SlotState). a.name ≢ b.name) slots →
    kept slots (other_rows slots rows) ≡ kept slots rows
kept-others slots rows distinct =
    filter-same (λ (slot : SlotState). not (is_dropped (other_rows slots rows) slot))
    (λ (slot : SlotState). not (is_dropped rows slot)) slots
    (λ k d within. ap not (each-dropped slots rows distinct k d within))

-- The same names are refused.
refused_rows-others : (slots : List SlotState) (rows : List Row)
    → AllPairs (λ (a : SlotState) (b : SlotState). a.name ≢ b.name) slots →
    refused_rows slots (other_rows slots rows) ≡ refused_rows slots rows
refused_rows-others slots rows distinct =
    ap (λ (left : List SlotState). drop (1000 - length left) (new_rows slots (other_rows slots rows)))
    (kept-others slots rows distinct) ∙
    ap (drop (room slots rows)) (new-others slots rows)

-- what a row needs, if these rows are refused
abbrev need_with : List SlotState → List Row → Row → ℕ
need_with slots refuse row =
    need_where (list_any (λ (other : Row). is_name row.name other.name) refuse) row (slot_of slots row)

abbrev new_with : List SlotState → List Row → ℕ → Row → List SlotState
new_with slots refuse n row =
    new_slots_where (list_any (λ (other : Row). is_name row.name other.name) refuse) n row (slot_of slots row)

abbrev again_with : List SlotState → ℕ → Row → List PartId
again_with slots n row = restarts_where n (slot_of slots row)

-- the slot of a row that does not count
whole-slot : (slots : List SlotState) (row : Row) → counts slots row ≡ false → (slot : SlotState)
    × (slot_of slots row ≡ Some slot) × (ended_roles slot ≡ [])
whole-slot slots row idle =
    elim (slot_named slots row.name) as (λ s. slot_of slots row ≡ s → not (is_whole_slot s) ≡ false →
    (slot : SlotState) × (slot_of slots row ≡ Some slot) × (ended_roles slot ≡ [])) [
      | None ↦ λ e f. (let g : true ≡ false = f in cc)
      | (Some slot) ↦ λ e f. (slot, e, none-restart slot (not-false (none_ended slot) f))
    ] (row-named slots row) idle

need-none : (slots : List SlotState) (refuse : List Row) (row : Row) → counts slots row ≡ false
    → need_with slots refuse row ≡ 0
need-none slots refuse row idle =
    let found = whole-slot slots row idle in
    ap (need_where (list_any (λ (other : Row). is_name row.name other.name) refuse) row) found.1 ∙ ap length found.2

new-none : (slots : List SlotState) (refuse : List Row) (n : ℕ) (row : Row) → counts slots row ≡ false
    → new_with slots refuse n row ≡ []
new-none slots refuse n row idle =
    ap (new_slots_where (list_any (λ (other : Row). is_name row.name other.name) refuse) n row)
    (whole-slot slots row idle).1

again-none : (slots : List SlotState) (n : ℕ) (row : Row) → counts slots row ≡ false → again_with slots n row ≡ []
again-none slots n row idle =
    let found = whole-slot slots row idle in
    ap (restarts_where n) found.1 ∙ ap (lives_from n found.0.number) found.2

-- what the counting rows get in turn, if the others need and get nothing
turns-others : {T : Type 0} (q : Row → Bool) (need : Row → ℕ) (gift : ℕ → Row → List T)
    → ((row : Row) → q row ≡ false → need row ≡ 0) →
    ((n : ℕ) (row : Row) → q row ≡ false → gift n row ≡ []) → (n : ℕ) (rows : List Row)
    → in_turn need gift n (filter q rows) ≡ in_turn need gift n rows
turns-others q need gift needless giftless n [] = refl
turns-others q need gift needless giftless n (row ∷ rows) =
    elim (q row) as (λ b. q row ≡ b → in_turn need gift n (if b then row ∷ filter q rows else filter q rows)
    ≡ gift n row ++ in_turn need gift (n + need row) rows) [
      | true ↦ λ is. ap (λ xs. gift n row ++ xs) (turns-others q need gift needless giftless (n + need row) rows)
      | false ↦ λ is.
          let same : n ≡ n + need row = (let e : need row ≡ 0 = needless row is in omega (arith, e)) in
          turns-others q need gift needless giftless n rows ∙ ap (λ m. in_turn need gift m rows) same ∙
          ap (λ xs. xs ++ in_turn need gift (n + need row) rows) (sym (giftless n row is))
    ] refl

sums-others : (q : Row → Bool) (need : Row → ℕ) → ((row : Row) → q row ≡ false → need row ≡ 0) → (rows : List Row)
    → sum_by need (filter q rows) ≡ sum_by need rows
sums-others q need needless [] = refl
sums-others q need needless (row ∷ rows) =
    elim (q row) as (λ b. q row ≡ b → sum_by need (if b then row ∷ filter q rows else filter q rows)
    ≡ sum_by need (row ∷ rows)) [
      | true ↦ λ is. sum_by-cons need row (filter q rows) ∙ ap (λ n. need row + n) (sums-others q need needless rows)
          ∙ sym (sum_by-cons need row rows)
      | false ↦ λ is. sums-others q need needless rows
          ∙ sym (sum_by-cons need row rows ∙ ap (λ n. n + sum_by need rows) (needless row is) ∙ omega arith)
    ] refl

needs-others : (slots : List SlotState) (rows : List Row)
    → AllPairs (λ (a : SlotState) (b : SlotState). a.name ≢ b.name) slots →
    needs slots (other_rows slots rows) ≡ needs slots rows
needs-others slots rows distinct =
    ap (λ refuse. sum_by (need_with slots refuse) (eligible (other_rows slots rows)))
    (refused_rows-others slots rows distinct) ∙
    ap (sum_by (need_with slots (refused_rows slots rows))) (eligible-others slots rows) ∙
    sums-others (counts slots) (need_with slots (refused_rows slots rows)) (need-none slots (refused_rows slots rows))
    (eligible rows)

new_slots-others : (slots : List SlotState) (next : ℕ) (rows : List Row)
    → AllPairs (λ (a : SlotState) (b : SlotState). a.name ≢ b.name) slots →
    new_slots slots next (other_rows slots rows) ≡ new_slots slots next rows
new_slots-others slots next rows distinct =
    ap (λ refuse. in_turn (need_with slots refuse) (new_with slots refuse) next (eligible (other_rows slots rows)))
    (refused_rows-others slots rows distinct) ∙
    ap (in_turn (need_with slots (refused_rows slots rows)) (new_with slots (refused_rows slots rows)) next)
    (eligible-others slots rows) ∙
    turns-others (counts slots) (need_with slots (refused_rows slots rows)) (new_with slots (refused_rows slots rows))
    (need-none slots (refused_rows slots rows)) (new-none slots (refused_rows slots rows)) next (eligible rows)

restarts-others : (slots : List SlotState) (next : ℕ) (rows : List Row)
    → AllPairs (λ (a : SlotState) (b : SlotState). a.name ≢ b.name) slots →
    restarts slots next (other_rows slots rows) ≡ restarts slots next rows
restarts-others slots next rows distinct =
    ap (λ refuse. in_turn (need_with slots refuse) (again_with slots) next (eligible (other_rows slots rows)))
    (refused_rows-others slots rows distinct) ∙
    ap (in_turn (need_with slots (refused_rows slots rows)) (again_with slots) next) (eligible-others slots rows) ∙
    turns-others (counts slots) (need_with slots (refused_rows slots rows)) (again_with slots)
    (need-none slots (refused_rows slots rows)) (again-none slots) next (eligible rows)

-- A scan of the other rows does the same.
pub same-scan : (slots : List SlotState) (next : ℕ)
    → AllPairs (λ (a : SlotState) (b : SlotState). a.name ≢ b.name) slots →
    WholeNeedNoRow (record { slots = slots; next = next })
same-scan slots next distinct rows =
    let begun : new_slots slots next (other_rows slots rows) ≡ new_slots slots next rows =
    new_slots-others slots next rows distinct in
    let again : restarts slots next (other_rows slots rows) ≡ restarts slots next rows =
    restarts-others slots next rows distinct in
    record {
      same_starts = ap (flat_map ids_of) begun;
      same_restarts = again;
      same_drops = drops-others slots rows distinct;
      same_refused = ap (map (λ (row : Row). row.name)) (refused_rows-others slots rows distinct);
      same_table =
          ap (λ parts. record {
            slots = map (renewed parts) (kept slots (other_rows slots rows))
                ++ new_slots slots next (other_rows slots rows);
            next = next + needs slots (other_rows slots rows);
          })
          again ∙
          ap (λ left. record {
            slots = map (renewed (restarts slots next rows)) left
                ++ new_slots slots next (other_rows slots rows);
            next = next + needs slots (other_rows slots rows);
          })
          (kept-others slots rows distinct) ∙
          ap (λ new. record {
            slots = map (renewed (restarts slots next rows)) (kept slots rows) ++ new;
            next =
                next + needs slots (other_rows slots rows);
          }) begun ∙
          ap (λ count. record {
            slots = map (renewed (restarts slots next rows)) (kept slots rows)
                ++ new_slots slots next rows;
            next = next + count;
          }) (needs-others slots rows distinct);
    }
