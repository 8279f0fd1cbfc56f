-- What a scan gives: new slots and lives, and their numbers and names.
use Rattle.std.proofs.Common.{◌≡◌, ◌≢◌, ℕ, ◌+◌, ◌<◌, ◌≤◌, true, false, List, [], ◌∷◌, ◌++◌, length, sym, refl, arith}
use Rattle.std.proofs.Common.{suc, Option, Some, None, if◌then◌else◌, subst}
use Rattle.std.specs.List.{AllPairs, All, sum_by, flat_map}
use Rattle.std.specs.Option.{IfSome}
use Rattle.std.proofs.lemmas.List.Elements.{All-nil, All-cons, All-head, All-tail, All-append, All-weaker}
use Rattle.std.proofs.lemmas.List.Kept.{AllPairs-cons}
use Rattle.std.proofs.lemmas.List.Sums.{sum_by-cons}
use Rattle.scan_table.specs.declared.part.PartId.{PartId}
use Rattle.scan_table.specs.declared.part.Role.{Role}
use Rattle.scan_table.specs.declared.part.Role.TheVariants.{Main, Log}
use Rattle.scan_table.specs.declared.slot.Life.{Life}
use Rattle.scan_table.specs.Slots.{Row, SlotState, is_name, is_pair, roles_of, ended_roles, ids_of, eligible}
use Rattle.scan_table.specs.Scan.{IsBelow, slot_of, need, is_refused, in_turn, new_slot, new_slots_at, restarts_at}
use Rattle.scan_table.specs.Scan.{restarts_where, lives_from, needs, starts, restarts, new_slots}
use Rattle.scan_table.specs.Index.{IsBefore, IsNumbered}
use Rattle.scan_table.specs.Table.{between, AreFresh}
use Rattle.scan_table.proofs.Orders.{below-differs, same-named}

-- pairs of two lists
pub AllPairs-append : {T : Type 0} (R : T → T → Type 0) (xs ys : List T) → AllPairs R xs → AllPairs R ys
    → All (λ x. All (R x) ys) xs → AllPairs R (xs ++ ys)
AllPairs-append R [] ys one two cross = two
AllPairs-append R (x ∷ xs) ys one two cross =
    AllPairs-cons R x (xs ++ ys)
    (All-append (R x) xs ys (λ k d b. one 0 (suc k) d (omega arith) (omega arith))
    (All-head (λ z. All (R z) ys) x xs cross))
    (AllPairs-append R xs ys (λ i j d b w. one (suc i) (suc j) d (omega arith) (omega arith)) two
    (All-tail (λ z. All (R z) ys) x xs cross))

pub pairs-head : {T : Type 0} (R : T → T → Type 0) (x : T) (xs : List T) → AllPairs R (x ∷ xs) → All (R x) xs
pairs-head R x xs pairs k d b = pairs 0 (suc k) d (omega arith) (omega arith)

pub pairs-tail : {T : Type 0} (R : T → T → Type 0) (x : T) (xs : List T) → AllPairs R (x ∷ xs) → AllPairs R xs
pairs-tail R x xs pairs i j d b w = pairs (suc i) (suc j) d (omega arith) (omega arith)

-- what one row gets: nothing, or a new slot
data Gift (slots : List SlotState) (rows : List Row) (n : ℕ) (row : Row) : Type 0 where
  Nothing : new_slots_at slots rows n row ≡ [] → Gift slots rows n row
  ASlot : new_slots_at slots rows n row ≡ new_slot n row ∷ [] → need slots rows row ≡ 1 + length (roles_of row)
      → slot_of slots row ≡ None → Gift slots rows n row

gift : (slots : List SlotState) (rows : List Row) (n : ℕ) (row : Row) → Gift slots rows n row
gift slots rows n row =
    elim (slot_of slots row) as (λ s. slot_of slots row ≡ s → Gift slots rows n row) [
      | None ↦ λ none.
          elim (is_refused slots rows row) as (λ b. is_refused slots rows row ≡ b → Gift slots rows n row) [
            | true ↦ λ is. Nothing (rw (none, is) refl)
            | false ↦ λ is. ASlot (rw (none, is) refl) (rw (none, is) refl) none
          ] refl
      | (Some slot) ↦ λ some. Nothing (rw some refl)
    ] refl

-- the new slots of some rows, from a number on
abbrev slots_from : List SlotState → List Row → ℕ → List Row → List SlotState
slots_from slots rows n rest = in_turn (need slots rows) (new_slots_at slots rows) n rest

-- What is true of each row's new slot is true of all new slots.
pub all-slots : (P : SlotState → Type 0) (slots : List SlotState) (rows : List Row) (n : ℕ) (row : Row)
    (rest : List Row) →
    (new_slots_at slots rows n row ≡ new_slot n row ∷ [] → need slots rows row ≡ 1 + length (roles_of row)
    → slot_of slots row ≡ None → P (new_slot n row)) →
    All P (slots_from slots rows (n + need slots rows row) rest) → All P (slots_from slots rows n (row ∷ rest))
all-slots P slots rows n row rest here later =
    All-append P (new_slots_at slots rows n row) (slots_from slots rows (n + need slots rows row) rest)
    (elim (gift slots rows n row) [
      | (Nothing is) ↦ subst (λ xs. All P xs) (sym is) (All-nil P)
      | (ASlot is needs none) ↦ subst (λ xs. All P xs) (sym is)
          (All-cons P (new_slot n row) [] (here is needs none) (All-nil P))
    ])
    later

-- The numbers of new slots are n or more.
pub slots-above : (slots : List SlotState) (rows : List Row) (low n : ℕ) (rest : List Row) → low ≤ n →
    All (λ (slot : SlotState). low ≤ slot.number) (slots_from slots rows n rest)
slots-above slots rows low n [] le = All-nil (λ (slot : SlotState). low ≤ slot.number)
slots-above slots rows low n (row ∷ rest) le =
    all-slots (λ (slot : SlotState). low ≤ slot.number) slots rows n row rest (λ is needs none. le)
    (slots-above slots rows low (n + need slots rows row) rest (omega arith))

life-more : (next more : ℕ) (log : Option Life) → next ≤ more → IfSome log (λ (life : Life). life.number < next)
    → IfSome log (λ (life : Life). life.number < more)
life-more next more None le below = below
life-more next more (Some life) le below = omega (arith, below, le)

pub numbered-more : (next more : ℕ) (slot : SlotState) → next ≤ more → IsNumbered next slot → IsNumbered more slot
numbered-more next more slot le is =
    record {
      number = omega (arith, is.number, le);
      main = omega (arith, is.main, le);
      log =
          life-more next more slot.log le is.log;
    }

-- a new slot's numbers are those that its row needs
new-numbered : (n : ℕ) (row : Row) → IsNumbered (n + (1 + length (roles_of row))) (new_slot n row)
new-numbered n row =
    elim (is_pair row) as (λ b. IsNumbered (n + (1 + length (if b then Main ∷ Log ∷ [] else Main ∷ [])))
    (record {
      number = n;
      name = row.name;
      main = record { number = n + 1; has_ended = false };
      log = if b then Some (record { number = n + 2; has_ended = false }) else None;
    })) [
      | true ↦ record { number = omega arith; main = omega arith; log = omega arith }
      | false ↦ record { number = omega arith; main = omega arith; log = tt }
    ]

pub slots-numbered : (slots : List SlotState) (rows : List Row) (n : ℕ) (rest : List Row) →
    All (IsNumbered (n + sum_by (need slots rows) rest)) (slots_from slots rows n rest)
slots-numbered slots rows n [] = All-nil (IsNumbered (n + sum_by (need slots rows) []))
slots-numbered slots rows n (row ∷ rest) =
    let whole : n + sum_by (need slots rows) (row ∷ rest) ≡ n + need slots rows row + sum_by (need slots rows) rest =
    omega (arith, sum_by-cons (need slots rows) row rest) in
    subst (λ next. All (IsNumbered next) (slots_from slots rows n (row ∷ rest))) (sym whole)
    (all-slots (IsNumbered (n + need slots rows row + sum_by (need slots rows) rest)) slots rows n row rest
    (λ is needs none. numbered-more (n + (1 + length (roles_of row)))
    (n + need slots rows row + sum_by (need slots rows) rest) (new_slot n row)
    (omega (arith, needs)) (new-numbered n row))
    (slots-numbered slots rows (n + need slots rows row) rest))

-- one row's new slot comes before those of later rows
pairs-slots : (R : SlotState → SlotState → Type 0) (slots : List SlotState) (rows : List Row) (n : ℕ) (row : Row)
    (rest : List Row) →
    (need slots rows row ≡ 1 + length (roles_of row)
    → All (R (new_slot n row)) (slots_from slots rows (n + need slots rows row) rest)) →
    AllPairs R (slots_from slots rows (n + need slots rows row) rest)
    → AllPairs R (slots_from slots rows n (row ∷ rest))
pairs-slots R slots rows n row rest here later =
    elim (gift slots rows n row) [
      | (Nothing is) ↦ subst (λ xs. AllPairs R (xs ++ slots_from slots rows (n + need slots rows row) rest)) (sym is)
          later
      | (ASlot is needs none) ↦ subst (λ xs. AllPairs R (xs ++ slots_from slots rows (n + need slots rows row) rest))
          (sym is)
          (AllPairs-cons R (new_slot n row) (slots_from slots rows (n + need slots rows row) rest) (here needs) later)
    ]

pub slots-rising : (slots : List SlotState) (rows : List Row) (n : ℕ) (rest : List Row)
    → AllPairs IsBefore (slots_from slots rows n rest)
slots-rising slots rows n [] = λ i j d b w. absurd (omega arith)
slots-rising slots rows n (row ∷ rest) =
    pairs-slots IsBefore slots rows n row rest
    (λ needs. All-weaker (λ (slot : SlotState). n + 1 ≤ slot.number) (IsBefore (new_slot n row))
    (λ slot le. omega (arith, le)) (slots_from slots rows (n + need slots rows row) rest)
    (slots-above slots rows (n + 1) (n + need slots rows row) rest (omega (arith, needs))))
    (slots-rising slots rows (n + need slots rows row) rest)

-- What is true of each row's name is true of each new slot's name.
slots-named : (P : List ℕ → Type 0) (slots : List SlotState) (rows : List Row) (n : ℕ) (rest : List Row) →
    All (λ (row : Row). P row.name) rest → All (λ (slot : SlotState). P slot.name) (slots_from slots rows n rest)
slots-named P slots rows n [] all = All-nil (λ (slot : SlotState). P slot.name)
slots-named P slots rows n (row ∷ rest) all =
    all-slots (λ (slot : SlotState). P slot.name) slots rows n row rest
    (λ is needs none. All-head (λ (r : Row). P r.name) row rest all)
    (slots-named P slots rows (n + need slots rows row) rest (All-tail (λ (r : Row). P r.name) row rest all))

-- New slots have different names.
pub slots-differ : (slots : List SlotState) (rows : List Row) (n : ℕ) (rest : List Row) → AllPairs IsBelow rest →
    AllPairs (λ (a : SlotState) (b : SlotState). a.name ≢ b.name) (slots_from slots rows n rest)
slots-differ slots rows n [] pairs = λ i j d b w. absurd (omega arith)
slots-differ slots rows n (row ∷ rest) pairs =
    pairs-slots (λ (a : SlotState) (b : SlotState). a.name ≢ b.name) slots rows n row rest
    (λ needs. slots-named (λ name. row.name ≢ name) slots rows (n + need slots rows row) rest
    (All-weaker (IsBelow row) (λ (other : Row). row.name ≢ other.name)
    (λ other less. below-differs row.name other.name less) rest (pairs-head IsBelow row rest pairs)))
    (slots-differ slots rows (n + need slots rows row) rest (pairs-tail IsBelow row rest pairs))

-- if no slot has a row's name
none-named : (slots : List SlotState) (row : Row) → slot_of slots row ≡ None
    → All (λ (slot : SlotState). slot.name ≢ row.name) slots
none-named [] row none = All-nil (λ (slot : SlotState). slot.name ≢ row.name)
none-named (slot ∷ slots) row none =
    elim (is_name row.name slot.name) as (λ b. is_name row.name slot.name ≡ b
    → (if b then Some slot else slot_of slots row) ≡ None
    → All (λ (s : SlotState). s.name ≢ row.name) (slot ∷ slots)) [
      | true ↦ λ is e. cc
      | false ↦ λ is e.
          All-cons (λ (s : SlotState). s.name ≢ row.name) slot slots
          (λ same. (let yes : is_name row.name slot.name ≡ true = same-named row.name slot.name (sym same) in cc))
          (none-named slots row e)
    ] refl none

-- A new slot has a name that no old slot has.
pub slots-new : (slots : List SlotState) (rows : List Row) (n : ℕ) (rest : List Row) →
    All (λ (new : SlotState). All (λ (slot : SlotState). slot.name ≢ new.name) slots) (slots_from slots rows n rest)
slots-new slots rows n [] = All-nil (λ (new : SlotState). All (λ (slot : SlotState). slot.name ≢ new.name) slots)
slots-new slots rows n (row ∷ rest) =
    all-slots (λ (new : SlotState). All (λ (slot : SlotState). slot.name ≢ new.name) slots) slots rows n row rest
    (λ is needs none. none-named slots row none)
    (slots-new slots rows (n + need slots rows row) rest)

lives-below : (next n slot : ℕ) (roles : List Role) → n + length roles ≤ next
    → All (λ (part : PartId). part.life < next) (lives_from n slot roles)
lives-below next n slot [] le = All-nil (λ (part : PartId). part.life < next)
lives-below next n slot (role ∷ roles) le =
    All-cons (λ (part : PartId). part.life < next) _ _ (omega arith) (lives-below next (n + 1) slot roles (omega arith))

restarts-here : (next : ℕ) (slots : List SlotState) (rows : List Row) (n : ℕ) (row : Row)
    → n + need slots rows row ≤ next →
    All (λ (part : PartId). part.life < next) (restarts_at slots rows n row)
restarts-here next slots rows n row le =
    elim (slot_of slots row) as (λ s. slot_of slots row ≡ s
    → All (λ (part : PartId). part.life < next) (restarts_where n s)) [
      | None ↦ λ none. All-nil (λ (part : PartId). part.life < next)
      | (Some slot) ↦ λ some.
          let needs : need slots rows row ≡ length (ended_roles slot) = rw some refl in
          lives-below next n slot.number (ended_roles slot) (omega (arith, needs))
    ] refl

-- The lives of restarts are below the next number.
pub restarts-below : (next : ℕ) (slots : List SlotState) (rows : List Row) (n : ℕ) (rest : List Row)
    → n + sum_by (need slots rows) rest ≤ next →
    All (λ (part : PartId). part.life < next) (in_turn (need slots rows) (restarts_at slots rows) n rest)
restarts-below next slots rows n [] le = All-nil (λ (part : PartId). part.life < next)
restarts-below next slots rows n (row ∷ rest) le =
    let sum = sum_by-cons (need slots rows) row rest in
    All-append (λ (part : PartId). part.life < next) (restarts_at slots rows n row)
    (in_turn (need slots rows) (restarts_at slots rows) (n + need slots rows row) rest)
    (restarts-here next slots rows n row (omega (arith, sum)))
    (restarts-below next slots rows (n + need slots rows row) rest (omega (arith, sum)))

-- A new slot's lives are among the numbers that its row needs.
new-fresh : (low high n : ℕ) (row : Row) → low ≤ n → n + (1 + length (roles_of row)) ≤ high
    → AreFresh low high (ids_of (new_slot n row))
new-fresh low high n row from to =
    elim (is_pair row) as (λ b. n + (1 + length (if b then Main ∷ Log ∷ [] else Main ∷ [])) ≤ high
    → AreFresh low high (ids_of (record {
      number = n;
      name = row.name;
      main = record { number = n + 1; has_ended = false };
      log = if b then Some (record { number = n + 2; has_ended = false }) else None;
    }))) [
      | true ↦ λ fits.
          All-cons (between low high) (record { slot = n; role = Main; life = n + 1 })
          (record { slot = n; role = Log; life = n + 2 } ∷ []) (omega arith, omega arith)
          (All-cons (between low high) (record { slot = n; role = Log; life = n + 2 }) [] (
            omega arith,
            omega arith,
          ) (All-nil (between low high)))
      | false ↦ λ fits. All-cons (between low high) (record { slot = n; role = Main; life = n + 1 }) [] (
        omega arith,
        omega arith,
      ) (All-nil (between low high))
    ] to

pub all-flat : {X Y : Type 0} (P : Y → Type 0) (f : X → List Y) (xs : List X) → All (λ x. All P (f x)) xs
    → All P (flat_map f xs)
all-flat P f [] all = All-nil P
all-flat P f (x ∷ xs) all =
    All-append P (f x) (flat_map f xs) (All-head (λ z. All P (f z)) x xs all)
    (all-flat P f xs (All-tail (λ z. All P (f z)) x xs all))

slots-fresh : (low high : ℕ) (slots : List SlotState) (rows : List Row) (n : ℕ) (rest : List Row) → low ≤ n
    → n + sum_by (need slots rows) rest ≤ high →
    All (λ (slot : SlotState). AreFresh low high (ids_of slot)) (slots_from slots rows n rest)
slots-fresh low high slots rows n [] from to = All-nil (λ (slot : SlotState). AreFresh low high (ids_of slot))
slots-fresh low high slots rows n (row ∷ rest) from to =
    let sum = sum_by-cons (need slots rows) row rest in
    all-slots (λ (slot : SlotState). AreFresh low high (ids_of slot)) slots rows n row rest
    (λ is needs none. new-fresh low high n row from (omega (arith, sum, needs)))
    (slots-fresh low high slots rows (n + need slots rows row) rest (omega arith) (omega (arith, sum)))

-- The lives of starts are among the numbers that a scan needs.
pub starts-fresh : (slots : List SlotState) (next : ℕ) (rows : List Row)
    → AreFresh next (next + needs slots rows) (starts slots next rows)
starts-fresh slots next rows =
    all-flat (between next (next + needs slots rows)) ids_of (new_slots slots next rows)
    (slots-fresh next (next + needs slots rows) slots rows next (eligible rows) (omega arith) (omega arith))

lives-fresh : (low high n slot : ℕ) (roles : List Role) → low ≤ n → n + length roles ≤ high
    → AreFresh low high (lives_from n slot roles)
lives-fresh low high n slot [] from to = All-nil (between low high)
lives-fresh low high n slot (role ∷ roles) from to =
    All-cons (between low high) (record { slot = slot; role = role; life = n }) (lives_from (n + 1) slot roles) (
      from,
      omega arith,
    )
    (lives-fresh low high (n + 1) slot roles (omega arith) (omega arith))

restarts-one : (low high : ℕ) (slots : List SlotState) (rows : List Row) (n : ℕ) (row : Row) → low ≤ n
    → n + need slots rows row ≤ high →
    AreFresh low high (restarts_at slots rows n row)
restarts-one low high slots rows n row from to =
    elim (slot_of slots row) as (λ s. slot_of slots row ≡ s → AreFresh low high (restarts_where n s)) [
      | None ↦ λ none. All-nil (between low high)
      | (Some slot) ↦ λ some.
          let needs : need slots rows row ≡ length (ended_roles slot) = rw some refl in
          lives-fresh low high n slot.number (ended_roles slot) from (omega (arith, needs))
    ] refl

restarts-many : (low high : ℕ) (slots : List SlotState) (rows : List Row) (n : ℕ) (rest : List Row) → low ≤ n
    → n + sum_by (need slots rows) rest ≤ high →
    AreFresh low high (in_turn (need slots rows) (restarts_at slots rows) n rest)
restarts-many low high slots rows n [] from to = All-nil (between low high)
restarts-many low high slots rows n (row ∷ rest) from to =
    let sum = sum_by-cons (need slots rows) row rest in
    All-append (between low high) (restarts_at slots rows n row)
    (in_turn (need slots rows) (restarts_at slots rows) (n + need slots rows row) rest)
    (restarts-one low high slots rows n row from (omega (arith, sum)))
    (restarts-many low high slots rows (n + need slots rows row) rest (omega arith) (omega (arith, sum)))

-- The lives of restarts are among the numbers that a scan needs.
pub restarts-fresh : (slots : List SlotState) (next : ℕ) (rows : List Row)
    → AreFresh next (next + needs slots rows) (restarts slots next rows)
restarts-fresh slots next rows =
    restarts-many next (next + needs slots rows) slots rows next (eligible rows) (omega arith) (omega arith)
