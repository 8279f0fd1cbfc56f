-- What is done to the slot with one number.
use Rattle.std.proofs.Common.{◌≡◌, ◌≢◌, ℕ, ◌<◌, ◌≤◌, Bool, true, false, not, ◌&&◌, ◌==◌, List, [], ◌∷◌, length, get_or}
use Rattle.std.proofs.Common.{set, map, drop, ◌+◌, sym, ap, ◌∙◌, refl, arith, inl, inr, zero, suc, Some, None}
use Rattle.std.specs.List.{AllPairs, list_any}
use Rattle.std.specs.Option.{option_map}
use Rattle.std.proofs.lemmas.Bool.{cases_lt}
use Rattle.std.proofs.lemmas.Bool.Decides.{nat_tests}
use Rattle.std.proofs.Math.Seq.{drop-cons}
use Rattle.std.proofs.Math.ListN.{drop_of_length-le}
use Rattle.std.proofs.lemmas.List.{get_or-map, get_or_default, length-map}
use Rattle.std.proofs.lemmas.List.Folds.{list_any_none, list_any_at}
use Rattle.scan_table.specs.declared.part.PartId.{PartId}
use Rattle.scan_table.specs.declared.part.Role.TheVariants.{Main, Log}
use Rattle.scan_table.specs.Slots.{SlotState, is_main}
use Rattle.scan_table.specs.Table.{slot_ended, has_running, renewed, restarted, is_at, slot_at}
use Rattle.scan_table.specs.Index.{IsBefore, IsPlaceOf, HasNot}

and-false : (b : Bool) → (b && false) ≡ false
and-false true = refl
and-false false = refl

-- the other slots have other numbers
pub others : (slots : List SlotState) (number place : ℕ) → AllPairs IsBefore slots → IsPlaceOf slots number place →
    (k : ℕ) (d : SlotState) → k < length slots → k ≢ place → (get_or slots k d).number ≢ number
others slots number place rising at k d within other =
    let here : (get_or slots place d).number ≡ number = at.here d in
    let in-place : place < length slots = at.within in
    elim (cases_lt k place) [
      | (inl below) ↦ let less : (get_or slots k d).number < (get_or slots place d).number =
          rising k place d below in-place in λ same. absurd (omega arith)
      | (inr above) ↦
          let less : (get_or slots place d).number < (get_or slots k d).number =
          rising place k d (omega arith) within in λ same. absurd (omega arith)
    ]

-- if f leaves each element as it is
pub map-none : {T : Type 0} (f : T → T) (xs : List T)
    → ((k : ℕ) (d : T) → k < length xs → f (get_or xs k d) ≡ get_or xs k d) → map f xs ≡ xs
map-none f [] h = refl
map-none f (x ∷ xs) h =
    ap (λ y. y ∷ map f xs) (h 0 x (omega arith))
    ∙ ap (λ ys. x ∷ ys) (map-none f xs (λ k d b. h (suc k) d (omega arith)))

-- if f leaves each other element as it is
pub map-one : {T : Type 0} (f : T → T) (xs : List T) (place : ℕ) (old : T) → place < length xs
    → old ≡ get_or xs place old →
    ((k : ℕ) (d : T) → k < length xs → k ≢ place → f (get_or xs k d) ≡ get_or xs k d) → set xs place (f old) ≡ map f xs
map-one f [] place old within read h = absurd (omega arith)
map-one f (x ∷ xs) zero old within read h =
    ap (λ y. f y ∷ xs) read
    ∙ ap (λ ys. f x ∷ ys) (sym (map-none f xs (λ k d b. h (suc k) d (omega arith) (omega arith))))
map-one f (x ∷ xs) (suc place) old within read h =
    ap (λ y. y ∷ set xs place (f old)) (sym (h 0 x (omega arith) (omega arith))) ∙
    ap (λ ys. f x ∷ ys) (map-one f xs place old (omega arith) read
    (λ k d b other. h (suc k) d (omega arith) (omega arith)))

-- a test that each other element fails
pub any-one : {T : Type 0} (p : T → Bool) (xs : List T) (place : ℕ) (old : T) → place < length xs
    → old ≡ get_or xs place old →
    ((k : ℕ) (d : T) → k < length xs → k ≢ place → p (get_or xs k d) ≡ false) → p old ≡ list_any p xs
any-one p xs place old within read h =
    elim (p old) as (λ b. p old ≡ b → b ≡ list_any p xs) [
      | true ↦ λ is. sym (list_any_at p xs place old within (ap p (sym read) ∙ is))
      | false ↦ λ is. sym (list_any_none p xs (λ k d b.
          elim (cases_lt k place) [
            | (inl below) ↦ h k d b (omega arith)
            | (inr above) ↦ elim (cases_lt place k) [
              | (inl below) ↦ h k d b (omega arith)
              | (inr same) ↦
                  let e : k ≡ place = omega arith in
                  ap (λ n. p (get_or xs n d)) e ∙ ap p (get_or_default xs place d old within ∙ sym read) ∙ is
            ]
          ]))
    ] refl

other-ended : (part : PartId) (slot : SlotState) → slot.number ≢ part.slot → slot_ended part slot ≡ slot
other-ended part slot other =
    let no : (slot.number == part.slot) ≡ false = grind (arith, nat_tests) in
    rw no refl

other-running : (part : PartId) (slot : SlotState) → slot.number ≢ part.slot → has_running part slot ≡ false
other-running part slot other =
    let no : (slot.number == part.slot) ≡ false = grind (arith, nat_tests) in
    rw no refl

-- the element at a place, with any default for places past the end
again : {T : Type 0} (xs : List T) (place : ℕ) (d : T) → place < length xs
    → get_or xs place d ≡ get_or xs place (get_or xs place d)
again xs place d within = get_or_default xs place d (get_or xs place d) within

pub ended-at : (slots : List SlotState) (part : PartId) (place : ℕ) (d new : SlotState) → AllPairs IsBefore slots
    → IsPlaceOf slots part.slot place →
    new ≡ slot_ended part (get_or slots place d) → set slots place new ≡ map (slot_ended part) slots
ended-at slots part place d new rising at is =
    ap (set slots place) is ∙
    map-one (slot_ended part) slots place (get_or slots place d) at.within (again slots place d at.within)
    (λ k e b other. other-ended part (get_or slots k e) (others slots part.slot place rising at k e b other))

pub running-at : (slots : List SlotState) (part : PartId) (place : ℕ) (d : SlotState) (result : Bool)
    → AllPairs IsBefore slots → IsPlaceOf slots part.slot place →
    result ≡ has_running part (get_or slots place d) → result ≡ list_any (has_running part) slots
running-at slots part place d result rising at is =
    is ∙
    any-one (has_running part) slots place (get_or slots place d) at.within (again slots place d at.within)
    (λ k e b other. other-running part (get_or slots k e) (others slots part.slot place rising at k e b other))

pub ended-nowhere : (slots : List SlotState) (part : PartId) → HasNot slots part.slot
    → slots ≡ map (slot_ended part) slots
ended-nowhere slots part none =
    sym (map-none (slot_ended part) slots (λ k d b. other-ended part (get_or slots k d) (none k d b)))

pub running-nowhere : (slots : List SlotState) (part : PartId) → HasNot slots part.slot
    → false ≡ list_any (has_running part) slots
running-nowhere slots part none =
    sym (list_any_none (has_running part) slots (λ k d b. other-running part (get_or slots k d) (none k d b)))

other-renewed : (part : PartId) (slot : SlotState) → slot.number ≢ part.slot → renewed (part ∷ []) slot ≡ slot
other-renewed part slot other =
    let no : (part.slot == slot.number) ≡ false = grind (arith, nat_tests) in
    let main : is_at part slot.number Main ≡ false = rw no (and-false (is_main part.role)) in
    let log : is_at part slot.number Log ≡ false = rw no (and-false (not (is_main part.role))) in
    elim slot.log as (λ l. slot.log ≡ l → renewed (part ∷ []) slot ≡ slot) [
      | None ↦ λ e. rw (main, e) refl
      | (Some life) ↦ λ e. rw (main, e, log) refl
    ] refl

pub renewed-at : (slots : List SlotState) (part : PartId) (place : ℕ) (d new : SlotState) → AllPairs IsBefore slots
    → IsPlaceOf slots part.slot place →
    new ≡ renewed (part ∷ []) (get_or slots place d) → set slots place new ≡ map (renewed (part ∷ [])) slots
renewed-at slots part place d new rising at is =
    ap (set slots place) is ∙
    map-one (renewed (part ∷ [])) slots place (get_or slots place d) at.within (again slots place d at.within)
    (λ k e b other. other-renewed part (get_or slots k e) (others slots part.slot place rising at k e b other))

pub renewed-nowhere : (slots : List SlotState) (part : PartId) → HasNot slots part.slot
    → slots ≡ map (renewed (part ∷ [])) slots
renewed-nowhere slots part none =
    sym (map-none (renewed (part ∷ [])) slots (λ k d b. other-renewed part (get_or slots k d) (none k d b)))

-- renewed by the first of these parts, and then by the others
renewed-more : (part : PartId) (parts : List PartId) (slot : SlotState) → renewed parts (renewed (part ∷ []) slot)
    ≡ renewed (part ∷ parts) slot
renewed-more part parts slot =
    elim slot.log as (λ l.
    record {
      number = slot.number;
      name = slot.name;
      main = restarted parts slot.number Main (restarted (part ∷ []) slot.number Main slot.main);
      log = option_map (restarted parts slot.number Log) (option_map (restarted (part ∷ []) slot.number Log) l);
    } ≡ record {
      number = slot.number;
      name = slot.name;
      main = restarted (part ∷ parts) slot.number Main slot.main;
      log = option_map (restarted (part ∷ parts) slot.number Log) l;
    }) [ None ↦ refl | (Some life) ↦ refl ]

renewed-none : (slot : SlotState) → renewed [] slot ≡ slot
renewed-none slot =
    elim slot.log as (λ l. slot.log ≡ l → renewed [] slot ≡ slot) [
      | None ↦ λ e. rw e refl
      | (Some life) ↦ λ e. rw e refl
    ] refl

pub renewed-all : (part : PartId) (parts : List PartId) (slots : List SlotState)
    → map (renewed parts) (map (renewed (part ∷ [])) slots) ≡ map (renewed (part ∷ parts)) slots
renewed-all part parts [] = refl
renewed-all part parts (slot ∷ slots) =
    ap (λ x. x ∷ map (renewed parts) (map (renewed (part ∷ [])) slots)) (renewed-more part parts slot) ∙
    ap (λ xs. renewed (part ∷ parts) slot ∷ xs) (renewed-all part parts slots)

-- Renewed slots rise as before.
pub renewed-rising : (parts : List PartId) (slots : List SlotState) → AllPairs IsBefore slots
    → AllPairs IsBefore (map (renewed parts) slots)
renewed-rising parts slots rising i j d before within =
    let w : j < length slots = omega (arith, length-map slots (renewed parts)) in
    let a : (get_or (map (renewed parts) slots) i d).number ≡ (get_or slots i d).number =
    ap (λ (s : SlotState). s.number) (get_or-map (renewed parts) slots i d d (omega arith)) in
    let b : (get_or (map (renewed parts) slots) j d).number ≡ (get_or slots j d).number =
    ap (λ (s : SlotState). s.number) (get_or-map (renewed parts) slots j d d w) in
    let less : (get_or slots i d).number < (get_or slots j d).number = rising i j d before w in
    omega (arith, a, b, less)

-- one more part
pub renewed-next : (parts : List PartId) (i : ℕ) (d : PartId) (slots slots' whole : List SlotState) → i < length parts →
    slots' ≡ map (renewed (get_or parts i d ∷ [])) slots → map (renewed (drop i parts)) slots ≡ whole
    → map (renewed (drop (i + 1) parts)) slots' ≡ whole
renewed-next parts i d slots slots' whole within is so =
    let e : suc i ≡ i + 1 = omega arith in
    let next : drop i parts ≡ get_or parts i d ∷ drop (i + 1) parts = drop-cons parts i d within
    ∙ ap (λ n. get_or parts i d ∷ drop n parts) e in
    ap (map (renewed (drop (i + 1) parts))) is ∙ renewed-all (get_or parts i d) (drop (i + 1) parts) slots ∙
    ap (λ ps. map (renewed ps) slots) (sym next) ∙ so

-- no more parts
pub renewed-last : (parts : List PartId) (i : ℕ) (slots whole : List SlotState) → length parts ≤ i →
    map (renewed (drop i parts)) slots ≡ whole → slots ≡ whole
renewed-last parts i slots whole end so =
    sym (map-none (renewed []) slots (λ k d b. renewed-none (get_or slots k d)))
    ∙ ap (λ ps. map (renewed ps) slots) (sym (drop_of_length-le parts end)) ∙ so

-- the slot at the place of a number
pub slot-at-here : (slots : List SlotState) (number place : ℕ) (slot : SlotState) → AllPairs IsBefore slots
    → IsPlaceOf slots number place →
    slot ≡ get_or slots place slot → Some slot ≡ slot_at slots number
slot-at-here [] number place slot rising at read = absurd (omega (arith, at.within))
slot-at-here (first ∷ slots) number zero slot rising at read =
    let is : (first.number == number) ≡ true = (let h = at.here first in grind (arith, nat_tests)) in
    ap (λ (s : SlotState). Some s) read ∙ rw is refl
slot-at-here (first ∷ slots) number (suc place) slot rising at read =
    let other : first.number ≢ number =
    others (first ∷ slots) number (suc place) rising at 0 first (omega arith) (omega arith) in
    let no : (first.number == number) ≡ false = grind (arith, nat_tests) in
    slot-at-here slots number place slot (λ i j d b w. rising (suc i) (suc j) d (omega arith) (omega arith))
    (record { within = omega (arith, at.within); here = λ d. at.here d }) read ∙ rw no refl

pub slot-at-nowhere : (slots : List SlotState) (number : ℕ) → HasNot slots number → None ≡ slot_at slots number
slot-at-nowhere [] number none = refl
slot-at-nowhere (first ∷ slots) number none =
    let other : first.number ≢ number = none 0 first (omega arith) in
    let no : (first.number == number) ≡ false = grind (arith, nat_tests) in
    slot-at-nowhere slots number (λ k d b. none (suc k) d (omega arith)) ∙ rw no refl
