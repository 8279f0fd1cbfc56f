-- Each part that a scan begins is there after the scan.
use Rattle.std.proofs.Common.{◌≡◌, ◌≢◌, ℕ, suc, ◌+◌, ◌<◌, Bool, true, false, not, ◌||◌, List, [], ◌∷◌, ◌++◌, get_or}
use Rattle.std.proofs.Common.{take, map, refl, sym, subst, ap, ◌∙◌, arith, Option, Some, None, if◌then◌else◌, inl, inr}
use Rattle.std.proofs.Common.{◌⊎◌}
use Rattle.std.specs.List.{All, AllPairs, filter, list_any, flat_map}
use Rattle.std.specs.declared.cmp.Ordering.TheVariants.{Less, Equal, Greater}
use Rattle.std.proofs.lemmas.Bool.Decides.{nat_tests}
use Rattle.std.proofs.lemmas.Cmp.{nat_list_cmp_total}
use Rattle.std.proofs.lemmas.List.Elements.{recursion_from_All, All-nil, All-cons, All-head, All-tail, All-append}
use Rattle.std.proofs.lemmas.List.Elements.{All-weaker}
use Rattle.std.proofs.lemmas.List.Kept.{AllPairs-cons, AllPairs-filter}
use Rattle.tai_status.specs.Label.{Tai64n}
use Rattle.sup_core.specs.History.{state_of}
use Rattle.sup_trace.specs.Trace.{new_trace}
use Rattle.scan_table.specs.declared.part.PartId.{PartId}
use Rattle.scan_table.specs.declared.part.Role.{Role}
use Rattle.scan_table.specs.declared.part.Role.TheVariants.{Main, Log}
use Rattle.scan_table.specs.declared.slot.Life.{Life}
use Rattle.scan_table.specs.Slots.{Row, SlotState, SlotPart, log_parts, ended_roles, is_name, name_order, eligible}
use Rattle.scan_table.specs.Slots.{is_eligible}
use Rattle.scan_table.specs.Scan.{IsBelow, slot_of, has_row, is_dropped, kept, drops, need, in_turn, lives_from}
use Rattle.scan_table.specs.Scan.{restarts_at, restarts_where, restarts}
use Rattle.scan_table.specs.Order.{fault_at, order_fault_after, order_fault, numbers_fault, scan_refusal}
use Rattle.scan_table.specs.Table.{TableState, scanned}
use Rattle.scan_table.specs.Index.{IsBefore}
use Rattle.scan_table.proofs.Given.{AllPairs-append, pairs-head, pairs-tail}
use Rattle.scan_table.proofs.Orders.{below-differs, named-same}
use Rattle.suite_lines.specs.declared.event.SuiteEvent.{SuiteEvent}
use Rattle.suite_lines.specs.declared.event.SuiteEvent.TheVariants.{Scan}
use Rattle.suite_core.specs.Parts.{PartState, is_part, is_place, trace_of, restarted_in, is_of}
use Rattle.suite_core.specs.Suite.{SuiteState, IsSuiteEvent, fault_of_scan, refusal_of_scan, Beginning, beginning}
use Rattle.suite_core.specs.Suite.{begun_part, opening, parts_scanned, scan_starts, scan_restarts, suite_scanned}
use Rattle.suite_core.specs.Suite.{refusal, suite_after}
use Rattle.suite_core.specs.Run.{suite_along, AreAccepted, BeginAsRowsSay, BeginsAsRowsSay}
use Rattle.suite_core.specs.Places.{rank, AreRising, Seen, seen, seen_life, seen_in, IsSuite}
use Rattle.suite_core.proofs.Names.{is_part-self, is_part-same, is_place-rank, is_place-same}
use Rattle.suite_core.proofs.Tied.{parts-rise, parts-stay, rank-bound}
use Rattle.suite_core.proofs.Runs.{IsSuite-scanned, at-place, next-place, suite_along-append, accepted-at}

-- Rows that are not refused rise.

trans : (a b c : List ℕ) → name_order a b ≡ Less → name_order b c ≡ Less → name_order a c ≡ Less
trans a b c one two = nat_list_cmp_total.trans a b c one two

rise-after : (place : ℕ) (name : List ℕ) (rows : List Row) → order_fault_after place name rows ≡ None
    → AllPairs IsBelow rows × All (λ (row : Row). name_order name row.name ≡ Less) rows
rise-after place name [] none =
    (λ i j d b w. absurd (omega (arith, b, w)), All-nil (λ (row : Row). name_order name row.name ≡ Less))
rise-after place name (row ∷ rows) none =
    elim (name_order name row.name) as (λ o. name_order name row.name ≡ o
    → fault_at place o (order_fault_after (place + 1) row.name rows) ≡ None →
    AllPairs IsBelow (row ∷ rows) × All (λ (r : Row). name_order name r.name ≡ Less) (row ∷ rows)) [
      | Less ↦ λ less none.
          let later = rise-after (place + 1) row.name rows none in (
            AllPairs-cons IsBelow row rows later.1 later.0,
            All-cons (λ (r : Row). name_order name r.name ≡ Less) row rows less
                (All-weaker (λ (r : Row). name_order row.name r.name ≡ Less) (λ (r : Row). name_order name r.name
                ≡ Less) (λ r below. trans name row.name r.name less below) rows later.1),
          )
      | Equal ↦ λ is none. absurd (cc)
      | Greater ↦ λ is none. absurd (cc)
    ] refl none

rows-rise : (rows : List Row) → order_fault rows ≡ None → AllPairs IsBelow rows
rows-rise [] none = λ i j d b w. absurd (omega (arith, b, w))
rows-rise (row ∷ rows) none = let later = rise-after 1 row.name rows none in
    AllPairs-cons IsBelow row rows later.1 later.0

accepted-rise : (table : TableState) (rows : List Row) → fault_of_scan (scan_refusal table rows) ≡ None
    → AllPairs IsBelow rows
accepted-rise table rows none =
    elim (order_fault rows) as (λ o. order_fault rows ≡ o → fault_of_scan (numbers_fault table rows o) ≡ None
    → AllPairs IsBelow rows) [
      | None ↦ λ order none. rows-rise rows order
      | (Some why) ↦ λ order none. absurd (cc)
    ] refl none

-- A property of some item of a list

abbrev AnyOf : {T : Type 0} → (T → Type 0) → List T → Type 0
AnyOf P [] = ⊥
AnyOf P (x ∷ xs) = P x ⊎ AnyOf P xs

any-weaker : {T : Type 0} (P Q : T → Type 0) (xs : List T) → ((x : T) → P x → Q x) → AnyOf P xs → AnyOf Q xs
any-weaker P Q [] each any = absurd any
any-weaker P Q (x ∷ xs) each (inl here) = inl (each x here)
any-weaker P Q (x ∷ xs) each (inr later) = inr (any-weaker P Q xs each later)

any-left : {T : Type 0} (P : T → Type 0) (xs ys : List T) → AnyOf P xs → AnyOf P (xs ++ ys)
any-left P [] ys any = absurd any
any-left P (x ∷ xs) ys (inl here) = inl here
any-left P (x ∷ xs) ys (inr later) = inr (any-left P xs ys later)

any-right : {T : Type 0} (P : T → Type 0) (xs ys : List T) → AnyOf P ys → AnyOf P (xs ++ ys)
any-right P [] ys any = any
any-right P (x ∷ xs) ys any = inr (any-right P xs ys any)

any-flat : {X Y : Type 0} (P : Y → Type 0) (f : X → List Y) (xs : List X) → AnyOf (λ x. AnyOf P (f x)) xs
    → AnyOf P (flat_map f xs)
any-flat P f [] any = absurd any
any-flat P f (x ∷ xs) (inl here) = any-left P (f x) (flat_map f xs) here
any-flat P f (x ∷ xs) (inr later) = any-right P (f x) (flat_map f xs) (any-flat P f xs later)

any-filter : {T : Type 0} (P : T → Type 0) (q : T → Bool) (xs : List T) → ((x : T) → P x → q x ≡ true) → AnyOf P xs
    → AnyOf P (filter q xs)
any-filter P q [] each any = absurd any
any-filter P q (x ∷ xs) each (inl here) = let yes-q : q x ≡ true = each x here in rw yes-q (inl here)
any-filter P q (x ∷ xs) each (inr later) =
    elim (q x) as (λ b. AnyOf P (if b then x ∷ filter q xs else filter q xs)) [
      | true ↦ inr (any-filter P q xs each later)
      | false ↦ any-filter P q xs each later
    ]

any-unmap : {X Y : Type 0} (P : Y → Type 0) (f : X → Y) (xs : List X) → AnyOf P (map f xs) → AnyOf (λ x. P (f x)) xs
any-unmap P f [] any = absurd any
any-unmap P f (x ∷ xs) (inl here) = inl here
any-unmap P f (x ∷ xs) (inr later) = inr (any-unmap P f xs later)

-- The slot with a row's name

slot-prop : (P : SlotState → Type 0) (slots : List SlotState) (row : Row) (slot : SlotState) → All P slots
    → slot_of slots row ≡ Some slot → P slot
slot-prop P [] row slot all at = absurd (cc)
slot-prop P (first ∷ slots) row slot all at =
    elim (is_name row.name first.name) as (λ b. (if b then Some first else slot_of slots row) ≡ Some slot → P slot) [
      | true ↦ λ at. let same : first ≡ slot = cc in subst P same (All-head P first slots all)
      | false ↦ λ at. slot-prop P slots row slot (All-tail P first slots all) at
    ] at

slot-named : (slots : List SlotState) (row : Row) (slot : SlotState) → slot_of slots row ≡ Some slot
    → is_name row.name slot.name ≡ true
slot-named [] row slot at = absurd (cc)
slot-named (first ∷ slots) row slot at =
    elim (is_name row.name first.name) as (λ b. is_name row.name first.name ≡ b
    → (if b then Some first else slot_of slots row) ≡ Some slot → is_name row.name slot.name ≡ true) [
      | true ↦ λ is at. let same : first ≡ slot = cc in
          subst (λ (s : SlotState). is_name row.name s.name ≡ true) same is
      | false ↦ λ is at. slot-named slots row slot at
    ] refl at

slot-among : (slots : List SlotState) (row : Row) (slot : SlotState) → slot_of slots row ≡ Some slot
    → AnyOf (λ (s : SlotState). s ≡ slot) slots
slot-among [] row slot at = absurd (cc)
slot-among (first ∷ slots) row slot at =
    elim (is_name row.name first.name) as (λ b. (if b then Some first else slot_of slots row) ≡ Some slot
    → AnyOf (λ (s : SlotState). s ≡ slot) (first ∷ slots)) [
      | true ↦ λ at. let same : first ≡ slot = cc in inl same
      | false ↦ λ at. inr (slot-among slots row slot at)
    ] at

-- No other slot has its number.
only-slot : (slots : List SlotState) (row : Row) (slot : SlotState) → AllPairs IsBefore slots
    → slot_of slots row ≡ Some slot → All (λ (s : SlotState). s.number ≡ slot.number → s ≡ slot) slots
only-slot [] row slot rising at = absurd (cc)
only-slot (first ∷ slots) row slot rising at =
    let above = pairs-head IsBefore first slots rising in
    elim (is_name row.name first.name) as (λ b. (if b then Some first else slot_of slots row) ≡ Some slot
    → All (λ (s : SlotState). s.number ≡ slot.number → s ≡ slot) (first ∷ slots)) [
      | true ↦ λ at.
          let same : first ≡ slot = cc in
          All-cons (λ (s : SlotState). s.number ≡ slot.number → s ≡ slot) first slots (λ e. same)
          (All-weaker (IsBefore first) (λ (s : SlotState). s.number ≡ slot.number → s ≡ slot)
          (λ s before e. absurd (omega (arith, before, e, ap (λ (x : SlotState). x.number) same))) slots above)
      | false ↦ λ at.
          let before : first.number < slot.number = slot-prop (IsBefore first) slots row slot above at in
          All-cons (λ (s : SlotState). s.number ≡ slot.number → s ≡ slot) first slots
          (λ e. absurd (omega (arith, before, e)))
          (only-slot slots row slot (pairs-tail IsBefore first slots rising) at)
    ] at

-- The parts that restart have different places.

abbrev Apart : PartId → PartId → Type 0
Apart a b = rank a ≢ rank b

lives-slot : (n number : ℕ) (roles : List Role) → All (λ (b : PartId). b.slot ≡ number) (lives_from n number roles)
lives-slot n number [] = All-nil (λ (b : PartId). b.slot ≡ number)
lives-slot n number (role ∷ roles) =
    All-cons (λ (b : PartId). b.slot ≡ number) (record { slot = number; role = role; life = n })
    (lives_from (n + 1) number roles) refl (lives-slot (n + 1) number roles)

other-slots : (slots : List SlotState) (rows : List Row) (row : Row) (slot : SlotState) (n : ℕ) (rest : List Row)
    → AllPairs IsBefore slots → slot_of slots row ≡ Some slot → All (IsBelow row) rest →
    All (λ (b : PartId). b.slot ≢ slot.number) (in_turn (need slots rows) (restarts_at slots rows) n rest)
other-slots slots rows row slot n [] rising at below = All-nil (λ (b : PartId). b.slot ≢ slot.number)
other-slots slots rows row slot n (other ∷ rest) rising at below =
    All-append (λ (b : PartId). b.slot ≢ slot.number) (restarts_at slots rows n other)
    (in_turn (need slots rows) (restarts_at slots rows) (n + need slots rows other) rest)
    (elim (slot_of slots other) as (λ s. slot_of slots other ≡ s
    → All (λ (b : PartId). b.slot ≢ slot.number) (restarts_where n s)) [
      | None ↦ λ none. All-nil (λ (b : PartId). b.slot ≢ slot.number)
      | (Some its) ↦ λ some.
          let apart : its.number ≢ slot.number = (λ e.
          let same : its ≡ slot =
          slot-prop (λ (s : SlotState). s.number ≡ slot.number → s ≡ slot) slots other its
          (only-slot slots row slot rising at) some e in
          let one : row.name ≡ slot.name = named-same row.name slot.name (slot-named slots row slot at) in
          let two : other.name ≡ its.name = named-same other.name its.name (slot-named slots other its some) in
          below-differs row.name other.name (All-head (IsBelow row) other rest below) (one
          ∙ sym (two ∙ ap (λ (s : SlotState). s.name) same))) in
          All-weaker (λ (b : PartId). b.slot ≡ its.number) (λ (b : PartId). b.slot ≢ slot.number)
          (λ b is e. apart (sym is ∙ e)) (lives_from n its.number (ended_roles its))
          (lives-slot n its.number (ended_roles its))
    ] refl)
    (other-slots slots rows row slot (n + need slots rows other) rest rising at
    (All-tail (IsBelow row) other rest below))

apart-by-slot : (a b : PartId) (number : ℕ) → a.slot ≡ number → b.slot ≢ number → Apart a b
apart-by-slot a b number is other = λ e. other (omega (arith, e, is, rank-bound a.role, rank-bound b.role))

-- The service and its logger within a slot

abbrev roles_ended : Life → Option Life → List Role
roles_ended main log =
    map (λ (part : SlotPart). part.role)
    (filter (λ (part : SlotPart). part.life.has_ended) (record { role = Main; life = main } ∷ log_parts log))

slot-apart : (n : ℕ) (slot : SlotState) → AllPairs Apart (lives_from n slot.number (ended_roles slot))
slot-apart n slot =
    elim slot.log as (λ log. AllPairs Apart (lives_from n slot.number (roles_ended slot.main log))) [
      | None ↦ elim slot.main.has_ended as (λ b.
          AllPairs Apart
          (lives_from n slot.number
          (map (λ (part : SlotPart). part.role) (if b then record { role = Main; life = slot.main } ∷ [] else [])))) [
            | true ↦ λ i j d b w. absurd (omega (arith, b, w))
            | false ↦ λ i j d b w. absurd (omega (arith, b, w))
          ]
      | (Some life) ↦ elim slot.main.has_ended as (λ b.
          AllPairs Apart (lives_from n slot.number (map (λ (part : SlotPart). part.role)
          (if b then record { role = Main; life = slot.main }
          ∷ filter (λ (part : SlotPart). part.life.has_ended) (record { role = Log; life = life } ∷ [])
          else filter (λ (part : SlotPart). part.life.has_ended) (record { role = Log; life = life } ∷ []))))) [
            | true ↦ elim life.has_ended as (λ b.
                AllPairs Apart (lives_from n slot.number (map (λ (part : SlotPart). part.role)
                (record { role = Main; life = slot.main }
                ∷ (if b then record { role = Log; life = life } ∷ [] else []))))) [
                  | true ↦ AllPairs-cons Apart (record { slot = slot.number; role = Main; life = n })
                      (record { slot = slot.number; role = Log; life = n + 1 } ∷ [])
                      (All-cons (Apart (record { slot = slot.number; role = Main; life = n }))
                      (record { slot = slot.number; role = Log; life = n + 1 }) []
                      (λ e. absurd (omega (arith, e)))
                      (All-nil (Apart (record { slot = slot.number; role = Main; life = n }))))
                      (λ i j d b w. absurd (omega (arith, b, w)))
                  | false ↦ λ i j d b w. absurd (omega (arith, b, w))
                ]
            | false ↦ elim life.has_ended as (λ b.
                AllPairs Apart
                (lives_from n slot.number
                (map (λ (part : SlotPart). part.role) (if b then record { role = Log; life = life } ∷ [] else [])))) [
                  | true ↦ λ i j d b w. absurd (omega (arith, b, w))
                  | false ↦ λ i j d b w. absurd (omega (arith, b, w))
                ]
          ]
    ]

restarts-apart : (slots : List SlotState) (rows : List Row) (n : ℕ) (rest : List Row) → AllPairs IsBefore slots
    → AllPairs IsBelow rest →
    AllPairs Apart (in_turn (need slots rows) (restarts_at slots rows) n rest)
restarts-apart slots rows n [] rising below = λ i j d b w. absurd (omega (arith, b, w))
restarts-apart slots rows n (row ∷ rest) rising below =
    let later = restarts-apart slots rows (n + need slots rows row) rest rising (pairs-tail IsBelow row rest below) in
    let more = in_turn (need slots rows) (restarts_at slots rows) (n + need slots rows row) rest in
    elim (slot_of slots row) as (λ s. slot_of slots row ≡ s → AllPairs Apart (restarts_where n s ++ more)) [
      | None ↦ λ none. later
      | (Some slot) ↦ λ some.
          AllPairs-append Apart (lives_from n slot.number (ended_roles slot)) more (slot-apart n slot) later
          (All-weaker (λ (a : PartId). a.slot ≡ slot.number) (λ a. All (Apart a) more)
          (λ a is. All-weaker (λ (b : PartId). b.slot ≢ slot.number) (Apart a)
          (λ b other. apart-by-slot a b slot.number is other) more
          (other-slots slots rows row slot (n + need slots rows row) rest rising some
          (pairs-head IsBelow row rest below)))
          (lives_from n slot.number (ended_roles slot)) (lives-slot n slot.number (ended_roles slot)))
    ] refl

-- Each of them takes the place of a part that stays.

abbrev Serves : PartId → Seen → Type 0
Serves id part = rank part.id ≡ rank id

slot-serves : (n : ℕ) (slot : SlotState)
    → All (λ (id : PartId). AnyOf (Serves id) (seen_in slot)) (lives_from n slot.number (ended_roles slot))
slot-serves n slot =
    elim slot.log as (λ log.
    All (λ (id : PartId).
    AnyOf (Serves id) (map (seen_life slot.number) (record { role = Main; life = slot.main } ∷ log_parts log)))
    (lives_from n slot.number (roles_ended slot.main log))) [
      | None ↦ elim slot.main.has_ended as (λ b.
          All (λ (id : PartId).
          AnyOf (Serves id) (seen_life slot.number (record { role = Main; life = slot.main }) ∷ []))
          (lives_from n slot.number
          (map (λ (part : SlotPart). part.role) (if b then record { role = Main; life = slot.main } ∷ [] else [])))) [
            | true ↦ All-cons (λ (id : PartId).
                AnyOf (Serves id) (seen_life slot.number (record { role = Main; life = slot.main }) ∷ []))
                (record { slot = slot.number; role = Main; life = n }) [] (inl refl)
                (All-nil (λ (id : PartId).
                AnyOf (Serves id) (seen_life slot.number (record { role = Main; life = slot.main }) ∷ [])))
            | false ↦ All-nil (λ (id : PartId).
                AnyOf (Serves id) (seen_life slot.number (record { role = Main; life = slot.main }) ∷ []))
          ]
      | (Some life) ↦ pair life
    ]
  where
    pair : (life : Life) → All
        (λ (id : PartId).
        AnyOf (Serves id) (seen_life slot.number (record { role = Main; life = slot.main })
        ∷ seen_life slot.number (record { role = Log; life = life }) ∷ []))
        (lives_from n slot.number (roles_ended slot.main (Some life)))
    pair life =
        let P : PartId → Type 0 =
        (λ (id : PartId).
        AnyOf (Serves id) (seen_life slot.number (record { role = Main; life = slot.main })
        ∷ seen_life slot.number (record { role = Log; life = life }) ∷ [])) in
        elim slot.main.has_ended as (λ b. All P (lives_from n slot.number (map (λ (part : SlotPart). part.role)
        (if b then record { role = Main; life = slot.main }
        ∷ filter (λ (part : SlotPart). part.life.has_ended) (record { role = Log; life = life } ∷ [])
        else filter (λ (part : SlotPart). part.life.has_ended) (record { role = Log; life = life } ∷ []))))) [
          | true ↦ elim life.has_ended as (λ b.
              All P (lives_from n slot.number
              (map (λ (part : SlotPart). part.role) (record { role = Main; life = slot.main }
              ∷ (if b then record { role = Log; life = life } ∷ [] else []))))) [
                | true ↦ All-cons P (record { slot = slot.number; role = Main; life = n })
                    (record { slot = slot.number; role = Log; life = n + 1 } ∷ []) (inl refl)
                    (All-cons P (record { slot = slot.number; role = Log; life = n + 1 }) [] (inr (inl refl))
                    (All-nil P))
                | false ↦ All-cons P (record { slot = slot.number; role = Main; life = n }) [] (inl refl) (All-nil P)
              ]
          | false ↦ elim life.has_ended as (λ b.
              All P (lives_from n slot.number
              (map (λ (part : SlotPart). part.role) (if b then record { role = Log; life = life } ∷ [] else [])))) [
                | true ↦ All-cons P (record { slot = slot.number; role = Log; life = n }) [] (inr (inl refl))
                    (All-nil P)
                | false ↦ All-nil P
              ]
        ]

-- A slot with an eligible row is not dropped.
slot-stays : (rows : List Row) (row : Row) (slot : SlotState)
    → list_any (λ (r : Row). is_name r.name slot.name) (eligible rows) ≡ true → not (is_dropped rows slot) ≡ true
slot-stays rows row slot has = rw has refl

restarts-served : (slots : List SlotState) (rows : List Row) (n : ℕ) (rest : List Row) →
    All (λ (row : Row). (slot : SlotState) → is_name row.name slot.name ≡ true → has_row rows slot ≡ true) rest →
    All (λ (id : PartId). AnyOf (Serves id) (flat_map seen_in (kept slots rows)))
    (in_turn (need slots rows) (restarts_at slots rows) n rest)
restarts-served slots rows n [] each = All-nil (λ (id : PartId). AnyOf (Serves id) (flat_map seen_in (kept slots rows)))
restarts-served slots rows n (row ∷ rest) each =
    let Has : Row → Type 0 =
    (λ (row : Row). (slot : SlotState) → is_name row.name slot.name ≡ true → has_row rows slot ≡ true) in
    All-append (λ (id : PartId). AnyOf (Serves id) (flat_map seen_in (kept slots rows))) (restarts_at slots rows n row)
    (in_turn (need slots rows) (restarts_at slots rows) (n + need slots rows row) rest)
    (elim (slot_of slots row) as (λ s. slot_of slots row ≡ s
    → All (λ (id : PartId). AnyOf (Serves id) (flat_map seen_in (kept slots rows))) (restarts_where n s)) [
      | None ↦ λ none. All-nil (λ (id : PartId). AnyOf (Serves id) (flat_map seen_in (kept slots rows)))
      | (Some slot) ↦ λ some.
          let has : has_row rows slot ≡ true = All-head Has row rest each slot (slot-named slots row slot some) in
          let stays : not (is_dropped rows slot) ≡ true = slot-stays rows row slot has in
          let among : AnyOf (λ (s : SlotState). s ≡ slot) (kept slots rows) =
          any-filter (λ (s : SlotState). s ≡ slot) (λ s. not (is_dropped rows s)) slots
          (λ s e. ap (λ (x : SlotState). not (is_dropped rows x)) e ∙ stays) (slot-among slots row slot some) in
          All-weaker (λ (id : PartId). AnyOf (Serves id) (seen_in slot))
          (λ (id : PartId). AnyOf (Serves id) (flat_map seen_in (kept slots rows)))
          (λ id here. any-flat (Serves id) seen_in (kept slots rows)
          (any-weaker (λ (s : SlotState). s ≡ slot) (λ (s : SlotState). AnyOf (Serves id) (seen_in s)) (kept slots rows)
          (λ s e. subst (λ (x : SlotState). AnyOf (Serves id) (seen_in x)) (sym e) here) among))
          (lives_from n slot.number (ended_roles slot)) (slot-serves n slot)
    ] refl)
    (restarts-served slots rows (n + need slots rows row) rest (All-tail Has row rest each))

-- each eligible row is the row of a slot with its name
any-of-true : (q : Row → Bool) (xs : List Row)
    → All (λ (x : Row). (r : Row) → x ≡ r → q r ≡ true → list_any q xs ≡ true) xs
any-of-true q [] = All-nil (λ (x : Row). (r : Row) → x ≡ r → q r ≡ true → list_any q [] ≡ true)
any-of-true q (x ∷ xs) =
    All-cons (λ (y : Row). (r : Row) → y ≡ r → q r ≡ true → list_any q (x ∷ xs) ≡ true) x xs
    (λ r e is. let here : q x ≡ true = ap q e ∙ is in rw here refl)
    (All-weaker (λ (y : Row). (r : Row) → y ≡ r → q r ≡ true → list_any q xs ≡ true) (λ (y : Row). (r : Row) → y ≡ r
    → q r ≡ true → list_any q (x ∷ xs) ≡ true)
    (λ y later r e is. let more = later r e is in
    elim (q x) as (λ b. (b || list_any q xs) ≡ true) [ true ↦ refl | false ↦ more ]) xs (any-of-true q xs))

-- A part that restarts is in the place that it takes.

restarted-of : (news : List PartState) (part new : PartState)
    → AllPairs (λ (a : PartState) (b : PartState). Apart a.id b.id) news → AnyOf (λ (x : PartState). x ≡ new) news
    → is_place new.id part.id ≡ true →
    restarted_in news part ≡ new
restarted-of [] part new apart any at = absurd any
restarted-of (first ∷ news) part new apart (inl here) at =
    let yes-at : is_place first.id part.id ≡ true = ap (λ (x : PartState). is_place x.id part.id) here ∙ at in
    rw yes-at (stays-put first news (pairs-head (λ (a : PartState) (b : PartState). Apart a.id b.id) first news apart)
    ∙ here)
  where
    stays-put : (first : PartState) (news : List PartState) → All (λ (b : PartState). Apart first.id b.id) news
        → restarted_in news first ≡ first
    stays-put first [] all = refl
    stays-put first (other ∷ news) all =
        let apart = All-head (λ (b : PartState). Apart first.id b.id) other news all in
        elim (is_place other.id first.id) as (λ b. is_place other.id first.id ≡ b
        → restarted_in news (if b then other else first) ≡ first) [
          | true ↦ λ is. absurd (apart (sym (is_place-same other.id first.id is)))
          | false ↦ λ is. stays-put first news (All-tail (λ (b : PartState). Apart first.id b.id) other news all)
        ] refl
restarted-of (first ∷ news) part new apart (inr later) at =
    let rest = pairs-tail (λ (a : PartState) (b : PartState). Apart a.id b.id) first news apart in
    elim (is_place first.id part.id) as (λ b. is_place first.id part.id ≡ b
    → restarted_in news (if b then first else part) ≡ new) [
      | true ↦ λ is. restarted-of news first new rest later (moves new.id first.id part.id at is)
      | false ↦ λ is. restarted-of news part new rest later at
    ] refl
  where
    moves : (a b c : PartId) → is_place a c ≡ true → is_place b c ≡ true → is_place a b ≡ true
    moves a b c one two =
        let x : rank a ≡ rank c = is_place-same a c one in
        let y : rank b ≡ rank c = is_place-same b c two in
        let e : rank a ≡ rank b = x ∙ sym y in
        is_place-rank a b ∙ (grind (arith, nat_tests))

any-map : {X Y : Type 0} (P : Y → Type 0) (f : X → Y) (xs : List X) → AnyOf (λ x. P (f x)) xs → AnyOf P (map f xs)
any-map P f [] any = absurd any
any-map P f (x ∷ xs) (inl here) = inl here
any-map P f (x ∷ xs) (inr later) = inr (any-map P f xs later)

-- a part that is among rising parts is there
there-of : (parts : List PartState) (part : PartState) → AreRising parts → AnyOf (λ (x : PartState). x ≡ part) parts
    → trace_of parts part.id ≡ Some part.trace
there-of [] part rising any = absurd any
there-of (first ∷ parts) part rising (inl here) =
    let is : is_part first.id part.id ≡ true = ap (λ (x : PartState). is_part x.id part.id) here
    ∙ is_part-self part.id in
    rw is (ap (λ (x : PartState). Some x.trace) here)
there-of (first ∷ parts) part rising (inr later) =
    elim (is_part first.id part.id) as (λ b. is_part first.id part.id ≡ b
    → (if b then Some first.trace else trace_of parts part.id) ≡ Some part.trace) [
      | true ↦ λ is. absurd
          (not-later parts part first
          (pairs-head (λ (a : PartState) (b : PartState). rank a.id < rank b.id) first parts rising) later
          (ap rank (is_part-same first.id part.id is)))
      | false ↦ λ is. there-of parts part
          (pairs-tail (λ (a : PartState) (b : PartState). rank a.id < rank b.id) first parts rising) later
    ] refl
  where
    not-later : (parts : List PartState) (part first : PartState)
        → All (λ (b : PartState). rank first.id < rank b.id) parts → AnyOf (λ (x : PartState). x ≡ part) parts
        → rank first.id ≡ rank part.id → ⊥
    not-later [] part first above any e = any
    not-later (x ∷ parts) part first above (inl here) e =
        let less = All-head (λ (b : PartState). rank first.id < rank b.id) x parts above in
        absurd (omega (arith, less, e, ap (λ (p : PartState). rank p.id) here))
    not-later (x ∷ parts) part first above (inr later) e =
        not-later parts part first (All-tail (λ (b : PartState). rank first.id < rank b.id) x parts above) later e

each-among : {T : Type 0} (xs : List T) → All (λ (x : T). AnyOf (λ (y : T). y ≡ x) xs) xs
each-among [] = All-nil (λ x. AnyOf (λ y. y ≡ x) [])
each-among {T = T} (x ∷ xs) =
    All-cons (λ (z : T). AnyOf (λ (y : T). y ≡ z) (x ∷ xs)) x xs (inl refl)
    (All-weaker (λ (z : T). AnyOf (λ (y : T). y ≡ z) xs) (λ (z : T). AnyOf (λ (y : T). y ≡ z) (x ∷ xs))
    (λ z later. inr later) xs (each-among xs))

-- The parts that a scan begins

pairs-begun : (capacity : ℕ) (label : Tai64n) (slots : List SlotState) (rows : List Row) (ids : List PartId)
    → AllPairs Apart ids →
    AllPairs (λ (a : PartState) (b : PartState). Apart a.id b.id)
    (map (begun_part capacity label) (map (beginning slots rows) ids))
pairs-begun capacity label slots rows [] apart = λ i j d b w. absurd (omega (arith, b, w))
pairs-begun capacity label slots rows (id ∷ ids) apart =
    AllPairs-cons (λ (a : PartState) (b : PartState). Apart a.id b.id)
    (begun_part capacity label (beginning slots rows id))
    (map (begun_part capacity label) (map (beginning slots rows) ids))
    (others-of id ids (pairs-head Apart id ids apart))
    (pairs-begun capacity label slots rows ids (pairs-tail Apart id ids apart))
  where
    others-of : (id : PartId) (ids : List PartId) → All (Apart id) ids
        → All (λ (b : PartState). Apart id b.id) (map (begun_part capacity label) (map (beginning slots rows) ids))
    others-of id [] all = All-nil (λ (b : PartState). Apart id b.id)
    others-of id (other ∷ ids) all =
        All-cons (λ (b : PartState). Apart id b.id) (begun_part capacity label (beginning slots rows other))
        (map (begun_part capacity label) (map (beginning slots rows) ids))
        (All-head (Apart id) other ids all) (others-of id ids (All-tail (Apart id) other ids all))

all-mapped : {X Y : Type 0} (Q : Y → Type 0) (f : X → Y) (xs : List X) → All (λ x. Q (f x)) xs → All Q (map f xs)
all-mapped Q f [] all = All-nil Q
all-mapped Q f (x ∷ xs) all =
    All-cons Q (f x) (map f xs) (All-head (λ z. Q (f z)) x xs all)
    (all-mapped Q f xs (All-tail (λ z. Q (f z)) x xs all))

all-both : {T : Type 0} (P Q R : T → Type 0) (xs : List T) → ((x : T) → P x → Q x → R x) → All P xs → All Q xs
    → All R xs
all-both P Q R xs each one two k d w = each (get_or xs k d) (one k d w) (two k d w)

-- A part that was begun is there with its new trace.
abbrev Begun : SuiteState → List Row → Tai64n → Beginning → Type 0
Begun suite rows label begins = trace_of (parts_scanned suite rows label) begins.part
    ≡ Some (new_trace (state_of (opening label begins)) suite.capacity)

started-there : (suite : SuiteState) (rows : List Row) (label : Tai64n) → AreRising (parts_scanned suite rows label)
    → All (Begun suite rows label) (scan_starts suite.table rows)
started-there suite rows label rising =
    let stay = filter (λ part. not (is_of (drops suite.table.slots rows) part)) suite.parts in
    let news = map (begun_part suite.capacity label) (scan_restarts suite.table rows) in
    All-weaker (λ (x : Beginning). AnyOf (λ (y : Beginning). y ≡ x) (scan_starts suite.table rows))
    (Begun suite rows label)
    (λ begins among. there-of (parts_scanned suite rows label) (begun_part suite.capacity label begins) rising
    (any-right (λ (x : PartState). x ≡ begun_part suite.capacity label begins) (map (restarted_in news) stay)
    (map (begun_part suite.capacity label) (scan_starts suite.table rows))
    (any-map (λ (x : PartState). x ≡ begun_part suite.capacity label begins) (begun_part suite.capacity label)
    (scan_starts suite.table rows)
    (any-weaker (λ (y : Beginning). y ≡ begins) (λ (y : Beginning). begun_part suite.capacity label y
    ≡ begun_part suite.capacity label begins) (scan_starts suite.table rows)
    (λ y e. ap (begun_part suite.capacity label) e) among))))
    (scan_starts suite.table rows) (each-among (scan_starts suite.table rows))

restarted-there : (suite : SuiteState) (rows : List Row) (label : Tai64n) → IsSuite suite → AllPairs IsBelow rows
    → AreRising (parts_scanned suite rows label) →
    All (Begun suite rows label) (scan_restarts suite.table rows)
restarted-there suite rows label is below rising =
    let slots = suite.table.slots in
    let next = suite.table.next in
    let after = (scanned suite.table rows).slots in
    let ids = restarts slots next rows in
    let stay = filter (λ part. not (is_of (drops slots rows) part)) suite.parts in
    let news = map (begun_part suite.capacity label) (map (beginning after rows) ids) in
    let start = map (begun_part suite.capacity label) (scan_starts suite.table rows) in
    let apart = pairs-begun suite.capacity label after rows ids
    (restarts-apart slots rows next (eligible rows) is.rising (AllPairs-filter IsBelow is_eligible rows below)) in
    let served = restarts-served slots rows next (eligible rows)
    (λ k d w slot named. any-of-true (λ (r : Row). is_name r.name slot.name) (eligible rows) k d w
    (get_or (eligible rows) k d) refl named) in
    let stayed = parts-stay suite.table suite.parts rows is.rising is.tied in
    all-mapped (Begun suite rows label) (beginning after rows) ids
    (all-both (λ (id : PartId). AnyOf (Serves id) (flat_map seen_in (kept slots rows)))
    (λ (id : PartId). AnyOf (λ (y : PartId). y ≡ id) ids)
    (λ (id : PartId). Begun suite rows label (beginning after rows id)) ids
    (λ id serves among.
    let new = begun_part suite.capacity label (beginning after rows id) in
    let place : AnyOf (λ (part : PartState). rank part.id ≡ rank id) stay =
    any-unmap (Serves id) seen stay (subst (AnyOf (Serves id)) (sym stayed) serves) in
    let mine : AnyOf (λ (x : PartState). x ≡ new) news =
    any-map (λ (x : PartState). x ≡ new) (begun_part suite.capacity label) (map (beginning after rows) ids)
    (any-map (λ (y : Beginning). begun_part suite.capacity label y ≡ new) (beginning after rows) ids
    (any-weaker (λ (y : PartId). y ≡ id) (λ (y : PartId). begun_part suite.capacity label (beginning after rows y)
    ≡ new) ids (λ y e. ap (λ (z : PartId). begun_part suite.capacity label (beginning after rows z)) e) among)) in
    there-of (parts_scanned suite rows label) new rising
    (any-left (λ (x : PartState). x ≡ new) (map (restarted_in news) stay) start
    (any-map (λ (x : PartState). x ≡ new) (restarted_in news) stay
    (any-weaker (λ (part : PartState). rank part.id ≡ rank id) (λ (part : PartState). restarted_in news part ≡ new) stay
    (λ part same. restarted-of news part new apart mine (in-place id part.id same)) place))))
    served (each-among ids))
  where
    in-place : (a b : PartId) → rank b ≡ rank a → is_place a b ≡ true
    in-place a b same = is_place-rank a b ∙ (grind (arith, nat_tests))

pub begun-there : (suite : SuiteState) (rows : List Row) (label : Tai64n) → IsSuite suite → AllPairs IsBelow rows
    → All (Begun suite rows label) (scan_starts suite.table rows ++ scan_restarts suite.table rows)
begun-there suite rows label is below =
    let after = IsSuite-scanned suite rows label is in
    let rising = parts-rise (scanned suite.table rows) (parts_scanned suite rows label) after.rising after.tied in
    All-append (Begun suite rows label) (scan_starts suite.table rows) (scan_restarts suite.table rows)
    (started-there suite rows label rising) (restarted-there suite rows label is below rising)

-- Each scan of a run begins its parts as its rows say.
pub begins-as-rows-say : {A : Type 0} → (suite : SuiteState) (events : List (SuiteEvent A)) (n : ℕ) → IsSuite suite
    → All IsSuiteEvent events → AreAccepted suite (take n events) → BeginAsRowsSay suite events n
begins-as-rows-say suite events n is conditions accepted place rows label within here =
    let all = recursion_from_All IsSuiteEvent events conditions in
    let before = suite_along suite (take place events) in
    let reached : suite_along suite (take (suc place) events) ≡ suite_scanned before rows label =
    ap (suite_along suite) (next-place suite events place (Scan rows label) here)
    ∙ suite_along-append suite (take place events) (Scan rows label ∷ []) in
    let free : refusal_of_scan before rows ≡ None =
    accepted-at suite events n place (Scan rows label) within here accepted in
    subst (λ (s : SuiteState).
    All (λ (begun : Beginning). trace_of s.parts begun.part
    ≡ Some (new_trace (state_of (opening label begun)) before.capacity)) (scan_starts before.table rows
    ++ scan_restarts before.table rows))
    (sym reached) (begun-there before rows label (at-place suite events place is all)
    (accepted-rise before.table rows free))

-- A scan that is taken begins its parts as its rows say.
pub one-begins : {A : Type 0} → (suite later : SuiteState) (event : SuiteEvent A) → IsSuite suite
    → refusal suite event ≡ None → later ≡ suite_after suite event → BeginsAsRowsSay suite event later
one-begins {A = A} suite later event is free goes rows label this =
    let reached : later ≡ suite_scanned suite rows label =
    goes ∙ ap (λ (e : SuiteEvent A). suite_after suite e) this in
    let none : refusal_of_scan suite rows ≡ None = subst (λ (e : SuiteEvent A). refusal suite e ≡ None) this free in
    subst (λ (s : SuiteState).
    All (λ (begun : Beginning). trace_of s.parts begun.part
    ≡ Some (new_trace (state_of (opening label begun)) suite.capacity)) (scan_starts suite.table rows
    ++ scan_restarts suite.table rows))
    (sym reached) (begun-there suite rows label is (accepted-rise suite.table rows none))
