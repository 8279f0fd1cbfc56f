-- Facts about a table after a part ended, and after a scan.
use Rattle.std.proofs.Common.{◌≡◌, ◌≢◌, ℕ, ◌+◌, ◌<◌, ◌≤◌, true, false, not, ◌==◌, List, [], ◌∷◌, ◌++◌, length, get_or}
use Rattle.std.proofs.Common.{map, sym, ap, ◌∙◌, refl, arith, Option, Some, None, if◌then◌else◌, subst}
use Rattle.std.specs.List.{AllPairs, All}
use Rattle.std.specs.Option.{option_map, IfSome}
use Rattle.std.proofs.lemmas.List.{get_or-map, length-map, length-append}
use Rattle.std.proofs.lemmas.List.Elements.{All-head, All-tail, All-append, All-weaker, All-filter}
use Rattle.std.proofs.lemmas.List.Kept.{AllPairs-filter}
use Rattle.scan_table.specs.declared.part.PartId.{PartId}
use Rattle.scan_table.specs.declared.part.Role.{Role}
use Rattle.scan_table.specs.declared.part.Role.TheVariants.{Main, Log}
use Rattle.scan_table.specs.declared.slot.Life.{Life}
use Rattle.scan_table.specs.Slots.{Row, SlotState, eligible, is_eligible}
use Rattle.scan_table.specs.Scan.{AreRising, IsBelow, kept, is_dropped, needs, restarts, new_slots}
use Rattle.scan_table.specs.Table.{slot_ended, renewed, restarted, life_ended, is_at, scanned}
use Rattle.scan_table.specs.Index.{names_of, IsBefore, IsNumbered, IsTable, IsIndex, AreDistinct}
use Rattle.scan_table.proofs.Rising.{rising-pairs}
use Rattle.scan_table.proofs.Placed.{renewed-rising}
use Rattle.scan_table.proofs.Searched.{slots-distinct}
use Rattle.scan_table.proofs.Given.{AllPairs-append, slots-above, slots-rising, slots-numbered, slots-differ, slots-new}
use Rattle.scan_table.proofs.Given.{restarts-below, numbered-more}

-- a relation of pairs after a map that keeps it
pub pairs-map : {T : Type 0} (R : T → T → Type 0) (f : T → T) (xs : List T) → ((a b : T) → R a b → R (f a) (f b))
    → AllPairs R xs → AllPairs R (map f xs)
pairs-map R f xs keeps pairs i j d before within =
    let w : j < length xs = omega (arith, length-map xs f) in
    let h : R (f (get_or xs i d)) (f (get_or xs j d)) = keeps (get_or xs i d) (get_or xs j d) (pairs i j d before w) in
    subst (λ x. R x (get_or (map f xs) j d)) (sym (get_or-map f xs i d d (omega arith)))
    (subst (λ y. R (f (get_or xs i d)) y) (sym (get_or-map f xs j d d w)) h)

pub all-map : {T : Type 0} (P Q : T → Type 0) (f : T → T) (xs : List T) → ((x : T) → P x → Q (f x)) → All P xs
    → All Q (map f xs)
all-map P Q f xs keeps all k d within =
    let w : k < length xs = omega (arith, length-map xs f) in
    subst Q (sym (get_or-map f xs k d d w)) (keeps (get_or xs k d) (all k d w))

ended-number : (part : PartId) (slot : SlotState) → (slot_ended part slot).number ≡ slot.number
ended-number part slot =
    elim (slot.number == part.slot) as (λ b.
    (if b then
    record {
      number = slot.number;
      name = slot.name;
      main = life_ended part Main slot.main;
      log =
          option_map (life_ended part Log) slot.log;
    }
    else slot).number ≡ slot.number) [ true ↦ refl | false ↦ refl ]

ended-name : (part : PartId) (slot : SlotState) → (slot_ended part slot).name ≡ slot.name
ended-name part slot =
    elim (slot.number == part.slot) as (λ b.
    (if b then
    record {
      number = slot.number;
      name = slot.name;
      main = life_ended part Main slot.main;
      log =
          option_map (life_ended part Log) slot.log;
    }
    else slot).name ≡ slot.name) [ true ↦ refl | false ↦ refl ]

log-ended : (next : ℕ) (part : PartId) (log : Option Life) → IfSome log (λ (life : Life). life.number < next)
    → IfSome (option_map (life_ended part Log) log) (λ (life : Life). life.number < next)
log-ended next part None below = below
log-ended next part (Some life) below = below

ended-numbered : (next : ℕ) (part : PartId) (slot : SlotState) → IsNumbered next slot
    → IsNumbered next (slot_ended part slot)
ended-numbered next part slot is =
    elim (slot.number == part.slot) as (λ b.
    IsNumbered next (if b then
    record {
      number = slot.number;
      name = slot.name;
      main = life_ended part Main slot.main;
      log =
          option_map (life_ended part Log) slot.log;
    }
    else slot)) [
      | true ↦ record { number = is.number; main = is.main; log = log-ended next part slot.log is.log }
      | false ↦ is
    ]

names-map : (f : SlotState → SlotState) (slots : List SlotState) → ((slot : SlotState) → (f slot).name ≡ slot.name)
    → names_of (map f slots) ≡ names_of slots
names-map f [] keeps = refl
names-map f (slot ∷ slots) keeps =
    ap (λ name. name ∷ names_of (map f slots)) (keeps slot) ∙ ap (λ names. slot.name ∷ names) (names-map f slots keeps)

pub ended-rising : (part : PartId) (slots : List SlotState) → AllPairs IsBefore slots
    → AllPairs IsBefore (map (slot_ended part) slots)
ended-rising part slots rising =
    pairs-map IsBefore (slot_ended part) slots
    (λ a b before. omega (arith, before, ended-number part a, ended-number part b)) rising

pub ended-below : (next : ℕ) (part : PartId) (slots : List SlotState) → All (IsNumbered next) slots
    → All (IsNumbered next) (map (slot_ended part) slots)
ended-below next part slots numbered =
    all-map (IsNumbered next) (IsNumbered next) (slot_ended part) slots (ended-numbered next part) numbered

pub table-ended : (slots : List SlotState) (next : ℕ) (index : List ℕ) (part : PartId) → IsTable slots next index
    → IsTable (map (slot_ended part) slots) next index
table-ended slots next index part is =
    record {
      rising = ended-rising part slots is.rising;
      numbered = ended-below next part slots is.numbered;
      indexed = subst (λ names. IsIndex names index) (sym (names-map (slot_ended part) slots (ended-name part)))
          is.indexed;
      whole = is.whole ∙ sym (length-map slots (slot_ended part));
    }

-- the lives of a part are below a number
restarted-below : (next : ℕ) (parts : List PartId) (number : ℕ) (role : Role) (life : Life)
    → All (λ (part : PartId). part.life < next) parts → life.number < next →
    (restarted parts number role life).number < next
restarted-below next [] number role life all below = below
restarted-below next (part ∷ parts) number role life all below =
    elim (is_at part number role) as (λ b.
    (restarted parts number role (if b then record { number = part.life; has_ended = false } else life)).number
    < next) [
      | true ↦ restarted-below next parts number role (record { number = part.life; has_ended = false })
          (All-tail (λ (p : PartId). p.life < next) part parts all)
          (All-head (λ (p : PartId). p.life < next) part parts all)
      | false ↦ restarted-below next parts number role life (All-tail (λ (p : PartId). p.life < next) part parts all)
          below
    ]

log-renewed : (next : ℕ) (parts : List PartId) (number : ℕ) (log : Option Life)
    → All (λ (part : PartId). part.life < next) parts → IfSome log (λ (life : Life). life.number < next) →
    IfSome (option_map (restarted parts number Log) log) (λ (life : Life). life.number < next)
log-renewed next parts number None all below = below
log-renewed next parts number (Some life) all below = restarted-below next parts number Log life all below

renewed-numbered : (next : ℕ) (parts : List PartId) (slot : SlotState) → All (λ (part : PartId). part.life < next) parts
    → IsNumbered next slot → IsNumbered next (renewed parts slot)
renewed-numbered next parts slot all is =
    record {
      number = is.number;
      main = restarted-below next parts slot.number Main slot.main all is.main;
      log = log-renewed next parts slot.number slot.log all is.log;
    }

pub scanned-rising : (slots : List SlotState) (next : ℕ) (rows : List Row) → AllPairs IsBefore slots
    → All (IsNumbered next) slots →
    AllPairs IsBefore (map (renewed (restarts slots next rows)) (kept slots rows) ++ new_slots slots next rows)
scanned-rising slots next rows rising numbered =
    AllPairs-append IsBefore (map (renewed (restarts slots next rows)) (kept slots rows)) (new_slots slots next rows)
    (renewed-rising (restarts slots next rows) (kept slots rows)
    (AllPairs-filter IsBefore (λ slot. not (is_dropped rows slot)) slots rising))
    (slots-rising slots rows next (eligible rows))
    (all-map (IsNumbered next) (λ slot. All (IsBefore slot) (new_slots slots next rows))
    (renewed (restarts slots next rows)) (kept slots rows)
    (λ slot is. All-weaker (λ (new : SlotState). next ≤ new.number) (IsBefore (renewed (restarts slots next rows) slot))
    (λ new above. omega (arith, above, is.number)) (new_slots slots next rows)
    (slots-above slots rows next next (eligible rows) (omega arith)))
    (All-filter (λ slot. not (is_dropped rows slot)) (IsNumbered next) slots numbered))

pub scanned-numbered : (slots : List SlotState) (next : ℕ) (rows : List Row) → All (IsNumbered next) slots →
    All (IsNumbered (next + needs slots rows)) (map (renewed (restarts slots next rows)) (kept slots rows)
    ++ new_slots slots next rows)
scanned-numbered slots next rows numbered =
    All-append (IsNumbered (next + needs slots rows)) (map (renewed (restarts slots next rows)) (kept slots rows))
    (new_slots slots next rows)
    (all-map (IsNumbered next) (IsNumbered (next + needs slots rows)) (renewed (restarts slots next rows))
    (kept slots rows)
    (λ slot is. renewed-numbered (next + needs slots rows) (restarts slots next rows) slot
    (restarts-below (next + needs slots rows) slots rows next (eligible rows) (omega arith))
    (numbered-more next (next + needs slots rows) slot (omega arith) is))
    (All-filter (λ slot. not (is_dropped rows slot)) (IsNumbered next) slots numbered))
    (slots-numbered slots rows next (eligible rows))

pub scanned-distinct : (slots : List SlotState) (next : ℕ) (rows : List Row) → AreRising rows → AreDistinct slots →
    AreDistinct (map (renewed (restarts slots next rows)) (kept slots rows) ++ new_slots slots next rows)
scanned-distinct slots next rows rising distinct =
    AllPairs-append (λ (a : SlotState) (b : SlotState). a.name ≢ b.name)
    (map (renewed (restarts slots next rows)) (kept slots rows)) (new_slots slots next rows)
    (pairs-map (λ (a : SlotState) (b : SlotState). a.name ≢ b.name) (renewed (restarts slots next rows))
    (kept slots rows) (λ a b differ. differ)
    (AllPairs-filter (λ (a : SlotState) (b : SlotState). a.name ≢ b.name) (λ slot. not (is_dropped rows slot)) slots
    distinct))
    (slots-differ slots rows next (eligible rows) (AllPairs-filter IsBelow is_eligible rows (rising-pairs rows rising)))
    (all-map (λ slot. All (λ (new : SlotState). slot.name ≢ new.name) (new_slots slots next rows))
    (λ slot. All (λ (new : SlotState). slot.name ≢ new.name) (new_slots slots next rows))
    (renewed (restarts slots next rows)) (kept slots rows) (λ slot h. h)
    (All-filter (λ slot. not (is_dropped rows slot))
    (λ slot. All (λ (new : SlotState). slot.name ≢ new.name) (new_slots slots next rows)) slots
    (λ k d b j e w. slots-new slots rows next (eligible rows) j e w k d b)))

-- the table after a planned scan
pub table-scanned : (slots : List SlotState) (next : ℕ) (rows : List Row) (again : List PartId)
    (made after : List SlotState) (counter : ℕ) (index : List ℕ) →
    AllPairs IsBefore slots → All (IsNumbered next) slots → again ≡ restarts slots next rows
    → made ≡ new_slots slots next rows → counter ≡ next + needs slots rows →
    after ≡ map (renewed again) (kept slots rows) ++ made → IsIndex (names_of after) index → length index ≡ length after
    → IsTable after counter index
table-scanned slots next rows again made after counter index rising numbered is-again is-made is-counter is-after
    indexed whole =
    let same : after ≡ map (renewed (restarts slots next rows)) (kept slots rows) ++ new_slots slots next rows =
    is-after ∙ ap (λ xs. map (renewed xs) (kept slots rows) ++ made) is-again
    ∙ ap (λ xs. map (renewed (restarts slots next rows)) (kept slots rows) ++ xs) is-made in
    record {
      rising = subst (λ xs. AllPairs IsBefore xs) (sym same) (scanned-rising slots next rows rising numbered);
      numbered = subst (λ n. All (IsNumbered n) after) (sym is-counter)
          (subst (λ xs. All (IsNumbered (next + needs slots rows)) xs) (sym same)
          (scanned-numbered slots next rows numbered));
      indexed = indexed;
      whole = whole;
    }

-- no name occurs twice in it
pub planned-distinct : (slots : List SlotState) (next : ℕ) (rows : List Row) (again : List PartId)
    (made : List SlotState) (index : List ℕ) →
    AreRising rows → IsTable slots next index → again ≡ restarts slots next rows → made ≡ new_slots slots next rows →
    AreDistinct (map (renewed again) (kept slots rows) ++ made)
planned-distinct slots next rows again made index rising is is-again is-made =
    let same : map (renewed again) (kept slots rows) ++ made
    ≡ map (renewed (restarts slots next rows)) (kept slots rows) ++ new_slots slots next rows =
    ap (λ xs. map (renewed xs) (kept slots rows) ++ made) is-again
    ∙ ap (λ xs. map (renewed (restarts slots next rows)) (kept slots rows) ++ xs) is-made in
    subst AreDistinct (sym same)
    (scanned-distinct slots next rows rising (slots-distinct slots index is.indexed is.whole))

kept-fits : (slots : List SlotState) (rows : List Row) → length (kept slots rows) ≤ length slots
kept-fits [] rows = omega arith
kept-fits (slot ∷ slots) rows =
    let rest : length (kept slots rows) ≤ length slots = kept-fits slots rows in
    elim (not (is_dropped rows slot)) as (λ b. length (if b then slot ∷ kept slots rows else kept slots rows)
    ≤ length (slot ∷ slots)) [
      | true ↦ omega (arith, rest)
      | false ↦ omega (arith, rest)
    ]

-- there are at most as many slots as before, plus the new ones
pub length-after : (slots : List SlotState) (rows : List Row) (again : List PartId) (made : List SlotState) →
    length (map (renewed again) (kept slots rows) ++ made) ≤ length slots + length made
length-after slots rows again made =
    let kept-length : length (kept slots rows) ≤ length slots = kept-fits slots rows in
    omega (
      arith,
      length-append (map (renewed again) (kept slots rows)) made,
      length-map (kept slots rows) (renewed again),
      kept-length,
    )

-- it is the table of the definition
pub table-is : (slots : List SlotState) (next : ℕ) (rows : List Row) (again : List PartId) (made after : List SlotState)
    (counter : ℕ) →
    again ≡ restarts slots next rows → made ≡ new_slots slots next rows → counter ≡ next + needs slots rows →
    after ≡ map (renewed again) (kept slots rows) ++ made → record { slots = after; next = counter }
    ≡ scanned (record { slots = slots; next = next }) rows
table-is slots next rows again made after counter is-again is-made is-counter is-after =
    let same : after ≡ map (renewed (restarts slots next rows)) (kept slots rows) ++ new_slots slots next rows =
    is-after ∙ ap (λ xs. map (renewed xs) (kept slots rows) ++ made) is-again
    ∙ ap (λ xs. map (renewed (restarts slots next rows)) (kept slots rows) ++ xs) is-made in
    rw (same, is-counter) refl
