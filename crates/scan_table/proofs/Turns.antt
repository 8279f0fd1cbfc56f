-- What one row contributes to a scan.
use Rattle.std.proofs.Common.{◌≡◌, ℕ, ◌+◌, ◌-◌, ◌<◌, ◌≤◌, Bool, true, false, List, [], ◌∷◌, ◌++◌, length, take, drop}
use Rattle.std.proofs.Common.{filter, slice_index_or, nat_le, sym, ap, ◌∙◌, refl, Some, None, is_none, zero, suc, map}
use Rattle.std.proofs.Common.{arith, append_assoc, ◌^◌, nat_lt, ◌&&◌, if◌then◌else◌}
use Rattle.std.specs.List.{sum_by}
use Rattle.std.proofs.Math.Seq.{drop-nil, drop-cons, take-suc, get_or-append_seam}
use Rattle.std.proofs.lemmas.List.{take-append-drop, length-append, append-nil, map-append}
use Rattle.std.proofs.lemmas.Bool.Decides.{nat_tests}
use Rattle.std.proofs.lemmas.List.Sums.{sum_by-cons}
use Rattle.std.proofs.lemmas.List.Elements.{filter-append}
use Rattle.std.proofs.lemmas.List.Kept.{AllPairs-filter}
use Rattle.scan_table.specs.declared.part.PartId.{PartId}
use Rattle.scan_table.specs.Slots.{Row, is_eligible, eligible, SlotState}
use Rattle.scan_table.specs.Scan.{AreRising, IsBelow, is_new, new_rows, is_refused, room, slot_of, need, need_where}
use Rattle.scan_table.specs.Scan.{in_turn, new_slots_at, new_slots_where, restarts_at}
use Rattle.scan_table.specs.Turns.{turn_need, is_counted, row_slots, turn_restarts, turn_refused}
use Rattle.scan_table.proofs.Rising.{rising-pairs, among-later}

-- the new names of a first part and a rest
new_rows-append : (slots : List SlotState) (xs ys : List Row) → new_rows slots (xs ++ ys) ≡ new_rows slots xs
    ++ new_rows slots ys
new_rows-append slots xs ys = ap (filter (is_new slots)) (filter-append is_eligible xs ys)
    ∙ filter-append (is_new slots) (eligible xs) (eligible ys)

-- a new name at the beginning
new_rows-head : (slots : List SlotState) (row : Row) (rows : List Row) → is_eligible row ≡ true
    → is_new slots row ≡ true →
    new_rows slots (row ∷ rows) ≡ row ∷ new_rows slots rows
new_rows-head slots row rows is new = cc

pub drop-next : (rows : List Row) (i : ℕ) (d : Row) → i < length rows
    → drop i rows ≡ slice_index_or rows i d ∷ drop (i + 1) rows
drop-next rows i d within =
    let e : suc i ≡ i + 1 = omega arith in
    drop-cons rows i d within ∙ ap (λ n. slice_index_or rows i d ∷ drop n rows) e

pub take-next : (rows : List Row) (i : ℕ) (d : Row) → i < length rows
    → take (i + 1) rows ≡ take i rows ++ slice_index_or rows i d ∷ []
take-next rows i d within =
    let e : i + 1 ≡ suc i = omega arith in
    ap (λ n. take n rows) e ∙ take-suc rows i d within

-- the rows are those before a row, the row, and the rest
pub parted : (rows : List Row) (i : ℕ) (d : Row) → i < length rows
    → take i rows ++ slice_index_or rows i d ∷ drop (i + 1) rows ≡ rows
parted rows i d within = ap (λ xs. take i rows ++ xs) (sym (drop-next rows i d within)) ∙ take-append-drop i rows

-- A new name is refused if the new names before it already take all the room.
pub refused-at : (slots : List SlotState) (rows : List Row) (before : List Row) (row : Row) (after : List Row) →
    before ++ row ∷ after ≡ rows → AreRising rows → is_eligible row ≡ true → is_new slots row ≡ true →
    is_refused slots rows row ≡ nat_le (room slots rows) (length (new_rows slots before))
refused-at slots rows before row after whole rising is new =
    let ns : new_rows slots rows ≡ new_rows slots before ++ row ∷ new_rows slots after =
    ap (new_rows slots) (sym whole) ∙ new_rows-append slots before (row ∷ after)
    ∙ ap (λ xs. new_rows slots before ++ xs) (new_rows-head slots row after is new) in
    among-later (new_rows slots rows) (room slots rows) (length (new_rows slots before)) row
    (AllPairs-filter IsBelow (is_new slots) (eligible rows)
    (AllPairs-filter IsBelow is_eligible rows (rising-pairs rows rising)))
    (rw (ns, length-append (new_rows slots before) (row ∷ new_rows slots after)) (omega arith))
    (λ d. ap (λ xs. slice_index_or xs (length (new_rows slots before)) d) ns
    ∙ get_or-append_seam (new_rows slots before) row (new_rows slots after) d)

-- what a row needs, by the count of new names before it
pub need-at : (slots : List SlotState) (rows : List Row) (before : List Row) (row : Row) (after : List Row) →
    before ++ row ∷ after ≡ rows → AreRising rows → is_eligible row ≡ true →
    need slots rows row ≡ need_where (nat_le (room slots rows) (length (new_rows slots before))) row (slot_of slots row)
need-at slots rows before row after whole rising is =
    elim (slot_of slots row) as (λ s. slot_of slots row ≡ s → need_where (is_refused slots rows row) row s
    ≡ need_where (nat_le (room slots rows) (length (new_rows slots before))) row s) [
      | None ↦ λ none. ap (λ b. need_where b row None)
          (refused-at slots rows before row after whole rising is (ap is_none none))
      | (Some slot) ↦ λ some. refl
    ] refl

-- a row's needs, and those of the rest
turn-needs : (slots : List SlotState) (rows : List Row) (before : List Row) (row : Row) (after : List Row) →
    before ++ row ∷ after ≡ rows → AreRising rows →
    sum_by (need slots rows) (eligible (row ∷ after)) ≡
    turn_need slots (nat_le (room slots rows) (length (new_rows slots before))) row
    + sum_by (need slots rows) (eligible after)
turn-needs slots rows before row after whole rising =
    elim (is_eligible row) as (λ b. is_eligible row ≡ b →
    sum_by (need slots rows) (if b then row ∷ eligible after else eligible after) ≡
    (if b then need_where (nat_le (room slots rows) (length (new_rows slots before))) row (slot_of slots row) else 0)
    + sum_by (need slots rows) (eligible after)) [
      | true ↦ λ is. sum_by-cons (need slots rows) row (eligible after)
          ∙ ap (λ n. n + sum_by (need slots rows) (eligible after))
          (need-at slots rows before row after whole rising is)
      | false ↦ λ is. omega arith
    ] refl

pub row-needs : (slots : List SlotState) (rows : List Row) (i : ℕ) (d : Row) → i < length rows → AreRising rows →
    sum_by (need slots rows) (eligible (drop i rows)) ≡
    turn_need slots (nat_le (room slots rows) (length (new_rows slots (take i rows)))) (slice_index_or rows i d)
    + sum_by (need slots rows) (eligible (drop (i + 1) rows))
row-needs slots rows i d within rising =
    ap (λ xs. sum_by (need slots rows) (eligible xs)) (drop-next rows i d within) ∙
    turn-needs slots rows (take i rows) (slice_index_or rows i d) (drop (i + 1) rows) (parted rows i d within) rising

count-one : (slots : List SlotState) (row : Row) → length (new_rows slots (row ∷ []))
    ≡ (if is_counted slots row then 1 else 0)
count-one slots row =
    elim (is_eligible row) as (λ b. length (filter (is_new slots) (if b then row ∷ [] else []))
    ≡ (if (b && is_new slots row) then 1 else 0)) [
      | true ↦ elim (is_new slots row) as (λ b. length (if b then row ∷ [] else []) ≡ (if b then 1 else 0))
          [ true ↦ refl | false ↦ refl ]
      | false ↦ refl
    ]

-- the count of the new names
pub row-new : (slots : List SlotState) (rows : List Row) (i : ℕ) (d : Row) → i < length rows →
    length (new_rows slots (take (i + 1) rows)) ≡ length (new_rows slots (take i rows))
    + (if is_counted slots (slice_index_or rows i d) then 1 else 0)
row-new slots rows i d within =
    ap (λ xs. length (new_rows slots xs)) (take-next rows i d within) ∙
    ap length (new_rows-append slots (take i rows) (slice_index_or rows i d ∷ [])) ∙
    length-append (new_rows slots (take i rows)) (new_rows slots (slice_index_or rows i d ∷ [])) ∙
    ap (λ n. length (new_rows slots (take i rows)) + n) (count-one slots (slice_index_or rows i d))

-- what a row gets, and what the rest gets
turn-assigned : {T : Type 0} (slots : List SlotState) (rows : List Row) (gift : ℕ → Row → List T) (n : ℕ)
    (before : List Row) (row : Row) (after : List Row) →
    before ++ row ∷ after ≡ rows → AreRising rows →
    in_turn (need slots rows) gift n (eligible (row ∷ after)) ≡
    (if is_eligible row then gift n row else []) ++
    in_turn (need slots rows) gift (n + turn_need slots (nat_le (room slots rows) (length (new_rows slots before))) row)
    (eligible after)
turn-assigned slots rows gift n before row after whole rising =
    elim (is_eligible row) as (λ b. is_eligible row ≡ b →
    in_turn (need slots rows) gift n (if b then row ∷ eligible after else eligible after) ≡
    (if b then gift n row else []) ++
    in_turn (need slots rows) gift
    (n + (if b then need_where (nat_le (room slots rows) (length (new_rows slots before))) row (slot_of slots row)
    else 0)) (eligible after)) [
      | true ↦ λ is. ap (λ m. gift n row ++ in_turn (need slots rows) gift (n + m) (eligible after))
          (need-at slots rows before row after whole rising is)
      | false ↦ λ is.
          let e : n ≡ n + 0 = omega arith in
          ap (λ m. in_turn (need slots rows) gift m (eligible after)) e
    ] refl

pub row-assigned : {T : Type 0} (slots : List SlotState) (rows : List Row) (gift : ℕ → Row → List T) (n : ℕ) (i : ℕ)
    (d : Row) → i < length rows → AreRising rows →
    in_turn (need slots rows) gift n (eligible (drop i rows)) ≡
    (if is_eligible (slice_index_or rows i d) then gift n (slice_index_or rows i d) else []) ++
    in_turn (need slots rows) gift
    (n + turn_need slots (nat_le (room slots rows) (length (new_rows slots (take i rows))))
    (slice_index_or rows i d)) (eligible (drop (i + 1) rows))
row-assigned slots rows gift n i d within rising =
    ap (λ xs. in_turn (need slots rows) gift n (eligible xs)) (drop-next rows i d within) ∙
    turn-assigned slots rows gift n (take i rows) (slice_index_or rows i d) (drop (i + 1) rows) (parted rows i d within)
    rising

pub past-need : (left need rest whole : ℕ) → whole ≡ need + rest → left < need → true ≡ nat_lt left whole
past-need left need rest whole e h = grind (arith, nat_tests)

pub within-need : (left need rest whole : ℕ) → whole ≡ need + rest → need ≤ left
    → nat_lt (left - need) rest ≡ nat_lt left whole
within-need left need rest whole e h = grind (arith, nat_tests)

-- the new slots of a row, by the count of new names before it
turn-slots : (slots : List SlotState) (rows : List Row) (n : ℕ) (before : List Row) (row : Row) (after : List Row) →
    before ++ row ∷ after ≡ rows → AreRising rows →
    (if is_eligible row then new_slots_at slots rows n row else [])
    ≡ row_slots slots (nat_le (room slots rows) (length (new_rows slots before))) n row
turn-slots slots rows n before row after whole rising =
    elim (is_eligible row) as (λ b. is_eligible row ≡ b →
    (if b then new_slots_at slots rows n row else [])
    ≡ (if b then new_slots_where (nat_le (room slots rows) (length (new_rows slots before))) n row
    (slot_of slots row) else [])) [
      | true ↦ λ is.
          elim (slot_of slots row) as (λ s. slot_of slots row ≡ s →
          new_slots_where (is_refused slots rows row) n row s
          ≡ new_slots_where (nat_le (room slots rows) (length (new_rows slots before))) n row s) [
            | None ↦ λ none. ap (λ b. new_slots_where b n row None)
                (refused-at slots rows before row after whole rising is (ap is_none none))
            | (Some slot) ↦ λ some. refl
          ] refl
      | false ↦ λ is. refl
    ] refl

pub row-slots : (slots : List SlotState) (rows : List Row) (n i : ℕ) (d : Row) → i < length rows → AreRising rows →
    in_turn (need slots rows) (new_slots_at slots rows) n (eligible (drop i rows)) ≡
    row_slots slots (nat_le (room slots rows) (length (new_rows slots (take i rows)))) n (slice_index_or rows i d) ++
    in_turn (need slots rows) (new_slots_at slots rows)
    (n + turn_need slots (nat_le (room slots rows) (length (new_rows slots (take i rows))))
    (slice_index_or rows i d)) (eligible (drop (i + 1) rows))
row-slots slots rows n i d within rising =
    row-assigned slots rows (new_slots_at slots rows) n i d within rising ∙
    ap (λ (xs : List SlotState). xs
    ++ in_turn (need slots rows) (new_slots_at slots rows)
    (n + turn_need slots (nat_le (room slots rows) (length (new_rows slots (take i rows))))
    (slice_index_or rows i d)) (eligible (drop (i + 1) rows)))
    (turn-slots slots rows n (take i rows) (slice_index_or rows i d) (drop (i + 1) rows) (parted rows i d within)
    rising)

-- what is made so far and what is left, after a turn
pub turned : {T : Type 0} (made made' given rest rest' whole : List T) → made ++ rest ≡ whole → rest ≡ given ++ rest'
    → made' ≡ made ++ given → made' ++ rest' ≡ whole
turned made made' given rest rest' whole all first more =
    ap (λ xs. xs ++ rest') more ∙ append_assoc made given rest' ∙ ap (λ xs. made ++ xs) (sym first) ∙ all

pub fits-turn : (n need rest sum whole : ℕ) → sum ≡ need + rest → n + sum ≡ whole → whole < 2 ^ 64 → n + need < 2 ^ 64
fits-turn n need rest sum whole e f b = omega arith

pub number-turn : (n n' need rest sum whole : ℕ) → sum ≡ need + rest → n + sum ≡ whole → n' ≡ n + need
    → n' + rest ≡ whole
number-turn n n' need rest sum whole e f g = omega arith

-- The same four laws in the words of a loop: a row at place i, a count of new names, and a room.
pub needs-turned : (slots : List SlotState) (rows : List Row) (i made r : ℕ) (d row : Row) → i < length rows
    → AreRising rows →
    slice_index_or rows i d ≡ row → made ≡ length (new_rows slots (take i rows)) → r ≡ room slots rows →
    sum_by (need slots rows) (eligible (drop i rows)) ≡ turn_need slots (nat_le r made) row
    + sum_by (need slots rows) (eligible (drop (i + 1) rows))
needs-turned slots rows i made r d row within rising at made-is r-is =
    rw (sym at, made-is, r-is) (row-needs slots rows i d within rising)

pub new-turned : (slots : List SlotState) (rows : List Row) (i made made' : ℕ) (d row : Row) → i < length rows →
    slice_index_or rows i d ≡ row → made ≡ length (new_rows slots (take i rows))
    → made' ≡ made + (if is_counted slots row then 1 else 0) →
    made' ≡ length (new_rows slots (take (i + 1) rows))
new-turned slots rows i made made' d row within at made-is more =
    more ∙ rw (sym at, made-is) (sym (row-new slots rows i d within))

pub one-more : (slots : List SlotState) (row : Row) (made made' i : ℕ) → made ≤ i
    → made' ≡ made + (if is_counted slots row then 1 else 0) → made' ≤ i + 1
one-more slots row made made' i b more =
    elim (is_counted slots row) as (λ t. made' ≡ made + (if t then 1 else 0) → made' ≤ i + 1)
    [ true ↦ λ e. omega arith | false ↦ λ e. omega arith ] more

pub slots-turned : (slots : List SlotState) (rows : List Row) (n n' i made r : ℕ) (d row : Row)
    (list list' whole : List SlotState) → i < length rows → AreRising rows →
    slice_index_or rows i d ≡ row → made ≡ length (new_rows slots (take i rows)) → r ≡ room slots rows →
    n' ≡ n + turn_need slots (nat_le r made) row →
    list ++ in_turn (need slots rows) (new_slots_at slots rows) n (eligible (drop i rows)) ≡ whole →
    list' ≡ list ++ row_slots slots (nat_le r made) n row →
    list' ++ in_turn (need slots rows) (new_slots_at slots rows) n' (eligible (drop (i + 1) rows)) ≡ whole
slots-turned slots rows n n' i made r d row list list' whole within rising at made-is r-is n-is all more =
    turned list list' (row_slots slots (nat_le r made) n row)
    (in_turn (need slots rows) (new_slots_at slots rows) n (eligible (drop i rows)))
    (in_turn (need slots rows) (new_slots_at slots rows) n' (eligible (drop (i + 1) rows))) whole all
    (rw (n-is, sym at, made-is, r-is) (row-slots slots rows n i d within rising)) more

pub restarts-turned : (slots : List SlotState) (rows : List Row) (n n' i made r : ℕ) (d row : Row)
    (list list' whole : List PartId) → i < length rows → AreRising rows →
    slice_index_or rows i d ≡ row → made ≡ length (new_rows slots (take i rows)) → r ≡ room slots rows →
    n' ≡ n + turn_need slots (nat_le r made) row →
    list ++ in_turn (need slots rows) (restarts_at slots rows) n (eligible (drop i rows)) ≡ whole →
    list' ≡ list ++ turn_restarts slots n row →
    list' ++ in_turn (need slots rows) (restarts_at slots rows) n' (eligible (drop (i + 1) rows)) ≡ whole
restarts-turned slots rows n n' i made r d row list list' whole within rising at made-is r-is n-is all more =
    turned list list' (turn_restarts slots n row)
    (in_turn (need slots rows) (restarts_at slots rows) n (eligible (drop i rows)))
    (in_turn (need slots rows) (restarts_at slots rows) n' (eligible (drop (i + 1) rows))) whole all
    (rw (n-is, sym at, made-is, r-is) (row-assigned slots rows (restarts_at slots rows) n i d within rising)) more

-- what is left after a place of a list with one more element
drop-one : {T : Type 0} (r : ℕ) (xs : List T) (y : T)
    → drop r (xs ++ y ∷ []) ≡ drop r xs ++ (if nat_le r (length xs) then y ∷ [] else [])
drop-one zero xs y =
    let is : nat_le 0 (length xs) ≡ true = grind (arith, nat_tests) in
    ap (λ b. xs ++ (if b then y ∷ [] else [])) (sym is)
drop-one (suc r) [] y =
    let no : nat_le (suc r) 0 ≡ false = grind (arith, nat_tests) in
    drop-nil r ∙ ap (λ b. if b then y ∷ [] else []) (sym no)
drop-one (suc r) (x ∷ xs) y =
    let same : nat_le (suc r) (length (x ∷ xs)) ≡ nat_le r (length xs) = grind (arith, nat_tests) in
    drop-one r xs y ∙ ap (λ b. drop r xs ++ (if b then y ∷ [] else [])) (sym same)

-- a list from one place on, if it may have one more element
drop-more : {T : Type 0} (r : ℕ) (xs : List T) (b : Bool) (y : T) →
    drop r (xs ++ (if b then y ∷ [] else [])) ≡ drop r xs ++ (if b && nat_le r (length xs) then y ∷ [] else [])
drop-more r xs true y = drop-one r xs y
drop-more r xs false y = ap (drop r) (append-nil xs) ∙ sym (append-nil (drop r xs))

new-one : (slots : List SlotState) (row : Row)
    → new_rows slots (row ∷ []) ≡ (if is_counted slots row then row ∷ [] else [])
new-one slots row =
    elim (is_eligible row) as (λ b. filter (is_new slots) (if b then row ∷ [] else [])
    ≡ (if (b && is_new slots row) then row ∷ [] else [])) [
      | true ↦ elim (is_new slots row) as (λ b. (if b then row ∷ [] else []) ≡ (if b then row ∷ [] else []))
          [ true ↦ refl | false ↦ refl ]
      | false ↦ refl
    ]

names-of-one : (b : Bool) (row : Row) → map (λ (other : Row). other.name) (if b then row ∷ [] else [])
    ≡ (if b then row.name ∷ [] else [])
names-of-one true row = refl
names-of-one false row = refl

-- the names refused so far, after a turn
pub refused-turned : (slots : List SlotState) (rows : List Row) (i made r : ℕ) (d row : Row)
    (list list' : List (List ℕ)) → i < length rows →
    slice_index_or rows i d ≡ row → made ≡ length (new_rows slots (take i rows)) → r ≡ room slots rows →
    list ≡ map (λ (other : Row). other.name) (drop r (new_rows slots (take i rows))) →
    list' ≡ list ++ turn_refused slots (nat_le r made) row →
    list' ≡ map (λ (other : Row). other.name) (drop r (new_rows slots (take (i + 1) rows)))
refused-turned slots rows i made r d row list list' within at made-is r-is so more =
    let next : new_rows slots (take (i + 1) rows) ≡ new_rows slots (take i rows)
    ++ (if is_counted slots row then row ∷ [] else []) =
    ap (new_rows slots) (take-next rows i d within) ∙ new_rows-append slots (take i rows) (slice_index_or rows i d ∷ [])
    ∙
    ap (λ (x : Row). new_rows slots (take i rows) ++ new_rows slots (x ∷ [])) at ∙
    ap (λ xs. new_rows slots (take i rows) ++ xs) (new-one slots row) in
    let cut : map (λ (other : Row). other.name) (drop r (new_rows slots (take (i + 1) rows)))
    ≡ list ++ turn_refused slots (nat_le r made) row =
    ap (λ xs. map (λ (other : Row). other.name) (drop r xs)) next ∙
    ap (map (λ (other : Row). other.name)) (drop-more r (new_rows slots (take i rows)) (is_counted slots row) row) ∙
    map-append (λ (other : Row). other.name) (drop r (new_rows slots (take i rows)))
    (if is_counted slots row && nat_le r (length (new_rows slots (take i rows))) then row ∷ [] else []) ∙
    ap (λ xs. xs ++ map (λ (other : Row). other.name)
    (if is_counted slots row && nat_le r (length (new_rows slots (take i rows))) then row ∷ [] else [])) (sym so) ∙
    ap (λ xs. list ++ xs) (names-of-one (is_counted slots row && nat_le r (length (new_rows slots (take i rows)))) row)
    ∙
    ap (λ n. list ++ (if is_counted slots row && nat_le r n then row.name ∷ [] else [])) (sym made-is) in
    more ∙ sym cut
