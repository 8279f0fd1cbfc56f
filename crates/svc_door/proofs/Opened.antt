-- The slots of the due parts: each is in the list once, and there is room for one more.
use Rattle.std.proofs.Common.{◌≡◌, ◌≢◌, ◌⊎◌, ℕ, zero, suc, ◌+◌, ◌<◌, ◌≤◌, ◌==◌, Bool, true, false, cond, not, ◌||◌}
use Rattle.std.proofs.Common.{is_some, count_by, List, [], ◌∷◌, length, get_or, Option, Some, None, IsSome, IsSomeAnd}
use Rattle.std.proofs.Common.{inl, inr, refl, sym, ap, ◌∙◌, subst, arith, zero-add, true≢false, ⊎_elim}
use Rattle.std.specs.List.{filter, list_any, AllByRecursion, IsDistinct}
use Rattle.std.specs.Option.{option_and_then}
use Rattle.std.proofs.lemmas.Bool.Decides.{eqb_tells}
use Rattle.std.proofs.lemmas.Bool.{cases_Bool, eq-eqb}
use Rattle.std.proofs.lemmas.Cmp.{nat_eq_equiv}
use Rattle.std.proofs.lemmas.List.Sums.{sum_by-cons}
use Rattle.std.proofs.lemmas.Map.Keys.{IsDistinct-cons}
use Rattle.std.proofs.lemmas.Map.Made.{length-le_from_is_member}
use Rattle.std.proofs.Math.Dec.{eqb}
use Rattle.slab.specs.Slab.{Slab, get, slab_len}
use Rattle.svc_door.specs.declared.part.DoorPart.{DoorPart}
use Rattle.svc_door.specs.Dues.{due_at, due_slots}
use Rattle.svc_door.specs.Slots.{AreOpen, times}
use Rattle.svc_door.specs.Turning.{HaveTurns, TurnsIfDue, TurnsOf}

times-cons : (slot x : ℕ) (xs : List ℕ) → times slot (x ∷ xs) ≡ cond (x == slot) 1 0 + times slot xs
times-cons slot x xs = sum_by-cons (λ other. cond (other == slot) 1 0) x xs

pub times-same : (slot x : ℕ) (xs : List ℕ) → eqb x slot ≡ true → times slot (x ∷ xs) ≡ 1 + times slot xs
times-same slot x xs e = times-cons slot x xs ∙ rw e refl

pub times-apart : (slot x : ℕ) (xs : List ℕ) → eqb x slot ≡ false → times slot (x ∷ xs) ≡ times slot xs
times-apart slot x xs e = times-cons slot x xs ∙ rw e (zero-add (times slot xs))

pub times-filter : (p : ℕ → Bool) (slot : ℕ) (slots : List ℕ)
    → times slot (filter p slots) ≡ cond (p slot) (times slot slots) 0
times-filter p slot [] = by (p slot)
  where
    by : (b : Bool) → times slot [] ≡ cond b (times slot []) 0
    by true = refl
    by false = refl
times-filter p slot (x ∷ xs) = by (p x) refl (times-filter p slot xs)
  where
    by : (b : Bool) → p x ≡ b → times slot (filter p xs) ≡ cond (p slot) (times slot xs) 0
        → times slot (cond b (x ∷ filter p xs) (filter p xs)) ≡ cond (p slot) (times slot (x ∷ xs)) 0
    by true t r = ⊎_elim
        (λ s. let ps : p slot ≡ true = ap p (sym s.1) ∙ t in
        let r' : times slot (filter p xs) ≡ times slot xs = r ∙ rw ps refl in
        times-same slot x (filter p xs) s.0 ∙ ap (λ n. 1 + n) r' ∙ sym (times-same slot x xs s.0) ∙ rw ps refl)
        (λ s. times-apart slot x (filter p xs) s.0 ∙ r ∙ ap (λ n. cond (p slot) n 0) (sym (times-apart slot x xs s.0)))
        (eqb_tells x slot)
    by false t r = ⊎_elim
        (λ s. let ps : p slot ≡ false = ap p (sym s.1) ∙ t in r ∙ rw ps refl)
        (λ s. r ∙ ap (λ n. cond (p slot) n 0) (sym (times-apart slot x xs s.0)))
        (eqb_tells x slot)

-- a slot that is in a list occurs at least once
times-some : (slot : ℕ) (slots : List ℕ) → list_any (eqb slot) slots ≡ true → 0 < times slot slots
times-some slot [] h = absurd (true≢false (sym h))
times-some slot (x ∷ xs) h = ⊎_elim
    (λ s. omega (arith, times-same slot x xs s.0))
    (λ s. let e : eqb slot x ≡ false = ⊎_elim (λ t. absurd (s.1 (sym t.1))) (λ t. t.0) (eqb_tells slot x) in
    let in_rest : list_any (eqb slot) xs ≡ true = ap (λ b. b || list_any (eqb slot) xs) (sym e) ∙ h in
    omega (arith, times-some slot xs in_rest, times-apart slot x xs s.0))
    (eqb_tells x slot)

apart-none : (slot : ℕ) (slots : List ℕ) → times slot slots ≡ 0 → AllByRecursion (λ other. eqb slot other ≡ false) slots
apart-none slot [] h = tt
apart-none slot (x ∷ xs) h = ⊎_elim
    (λ s. absurd (omega (arith, h, times-same slot x xs s.0)))
    (λ s. let e : eqb slot x ≡ false = ⊎_elim (λ t. absurd (s.1 (sym t.1))) (λ t. t.0) (eqb_tells slot x) in
    (e, apart-none slot xs (sym (times-apart slot x xs s.0) ∙ h)))
    (eqb_tells x slot)

-- slots that each occur at most once in a list
distinct-once : (slots : List ℕ) → ((slot : ℕ) → times slot slots ≤ 1) → IsDistinct eqb slots
unfolding IsDistinct
distinct-once [] h = tt
distinct-once (x ∷ xs) h = (
  apart-none x xs (omega (arith, h x, times-same x x xs (eq-eqb x x refl))),
  distinct-once xs (λ slot. ⊎_elim
      (λ s. omega (arith, h slot, times-same slot x xs s.0))
      (λ s. omega (arith, h slot, times-apart slot x xs s.0))
      (eqb_tells x slot)),
)

module _ {X : Type 0} where
  -- the keys of the cells that have a value, from this key on
  abbrev keys_from : ℕ → List (Option X) → List ℕ
  keys_from key [] = []
  keys_from key (None ∷ cells) = keys_from (suc key) cells
  keys_from key (Some value ∷ cells) = key ∷ keys_from (suc key) cells

  keys-length : (key : ℕ) (cells : List (Option X)) → length (keys_from key cells) ≡ count_by is_some cells
  keys-length key [] = refl
  keys-length key (None ∷ cells) = keys-length (suc key) cells
  keys-length key (Some value ∷ cells) =
      let rest = keys-length (suc key) cells in
      let one = sum_by-cons (λ (cell : Option X). cond (is_some cell) 1 0) (Some value) cells in
      omega (arith, rest, one)

  keys-has : (key : ℕ) (cells : List (Option X)) (at slot : ℕ) → slot ≡ at + key
      → is_some (get_or cells at None) ≡ true → list_any (eqb slot) (keys_from key cells) ≡ true
  keys-has key [] at slot is h = absurd (true≢false (sym h))
  keys-has key (None ∷ cells) zero slot is h = absurd (true≢false (sym h))
  keys-has key (None ∷ cells) (suc at) slot is h = keys-has (suc key) cells at slot (omega (arith, is)) h
  keys-has key (Some value ∷ cells) zero slot is h =
      let e : eqb slot key ≡ true = eq-eqb slot key (omega (arith, is)) in rw e refl
  keys-has key (Some value ∷ cells) (suc at) slot is h =
      let r = keys-has (suc key) cells at slot (omega (arith, is)) h in by (eqb slot key) r
    where
      by : (b : Bool) → list_any (eqb slot) (keys_from (suc key) cells) ≡ true
          → (b || list_any (eqb slot) (keys_from (suc key) cells)) ≡ true
      by true r = refl
      by false r = r

  -- If these slots of cells with a value are different, and another such slot is not among them, they are fewer than
  -- all such cells.
  pub fewer-slots : (cells : List (Option X)) (slots : List ℕ) (at : ℕ)
      → ((slot : ℕ) → times slot slots ≤ cond (is_some (get_or cells slot None)) 1 0)
      → times at slots ≡ 0 → is_some (get_or cells at None) ≡ true → length slots < count_by is_some cells
  fewer-slots cells slots at once none there =
      let within = length-le_from_is_member nat_eq_equiv (at ∷ slots) (keys_from 0 cells)
      (IsDistinct-cons eqb at slots (apart-none at slots none) (distinct-once slots (λ slot. le-one slot (once slot))))
      (λ slot among. keys-has 0 cells slot slot (omega arith) (occupied slot among)) in
      let long = keys-length 0 cells in
      omega (arith, within, long)
    where
      le-one : (slot : ℕ) → times slot slots ≤ cond (is_some (get_or cells slot None)) 1 0 → times slot slots ≤ 1
      le-one slot h = grind (arith, h)

      occupied : (slot : ℕ) → (eqb slot at || list_any (eqb slot) slots) ≡ true
          → is_some (get_or cells slot None) ≡ true
      occupied slot among = ⊎_elim
          (λ s. subst (λ n. is_some (get_or cells n None) ≡ true) (sym s.1) there)
          (λ s. let e = s.0 in
          let rest : list_any (eqb slot) slots ≡ true = ap (λ b. b || list_any (eqb slot) slots) (sym e) ∙ among in
          let some = times-some slot slots rest in
          by (is_some (get_or cells slot None)) refl some (once slot))
          (eqb_tells slot at)
        where
          by : (b : Bool) → is_some (get_or cells slot None) ≡ b → 0 < times slot slots
              → times slot slots ≤ cond (is_some (get_or cells slot None)) 1 0
              → is_some (get_or cells slot None) ≡ true
          by true is some h = is
          by false is some h = let none : times slot slots ≤ 0 = rw is at h in absurd (omega (arith, some, none))

never-due : (due : Option ℕ) (p : ℕ → Type 0) → is_some due ≡ false → IsSomeAnd due p → ⊥
never-due None p h d = d
never-due (Some at) p h d = absurd (true≢false h)

-- the slot of a due part is in the list once, and that of any other part is not in it
open-is : (parts : Slab DoorPart) (slots : List ℕ) → AreOpen parts slots → (slot : ℕ)
    → ((is_some (due_at parts slot) ≡ true) × (times slot slots ≡ 1))
    ⊎ ((is_some (due_at parts slot) ≡ false) × (times slot slots ≡ 0))
open-is parts slots o slot = ⊎_elim
    (λ t. inl (t, o slot ∙ rw t refl)) (λ f. inr (f, o slot ∙ rw f refl)) (cases_Bool (is_some (due_at parts slot)))

due-there : (cell : Option DoorPart) → is_some (option_and_then (λ part. part.due) cell) ≡ true
    → is_some cell ≡ true
due-there None h = h
due-there (Some part) h = refl

-- a part that is not due does not change
turns-none : (now : ℕ) (cell : Option DoorPart) → is_some (option_and_then (λ part. part.due) cell) ≡ false
    → TurnsIfDue now cell cell
turns-none now None h = refl
turns-none now (Some part) h = inr (never-due part.due (λ due. due ≤ now) h, refl)

-- the turns of the slots of all due parts
pub turned-each : (now : ℕ) (slots : List ℕ) (old new : Slab DoorPart) → AreOpen old slots
    → TurnsOf now slots old new → HaveTurns now old new
turned-each now slots old new o t slot = ⊎_elim
    (λ due. (t slot).1 due.1)
    (λ no. subst (TurnsIfDue now (get old slot)) (sym ((t slot).0 no.1)) (turns-none now (get old slot) no.0))
    (open-is old slots o slot)

-- those that are due after them
pub open-turned : (now : ℕ) (slots : List ℕ) (old new : Slab DoorPart) → AreOpen old slots
    → TurnsOf now slots old new → AreOpen new (due_slots new slots)
open-turned now slots old new o t slot =
    times-filter (λ other. is_some (due_at new other)) slot slots ∙ by (is_some (due_at new slot)) refl
  where
    by : (b : Bool) → is_some (due_at new slot) ≡ b → cond b (times slot slots) 0 ≡ cond b 1 0
    by true is = ⊎_elim
        (λ due. due.1)
        (λ no. absurd (true≢false (sym is ∙ ap (λ cell. is_some (option_and_then (λ part. part.due) cell))
        ((t slot).0 no.1) ∙ no.0)))
        (open-is old slots o slot)
    by false is = refl

-- those that are due after a part has left its slot
pub open-dismissed : (slots : List ℕ) (slot : ℕ) (old new : Slab DoorPart) → AreOpen old slots
    → get new slot ≡ None → ((other : ℕ) → other ≢ slot → get new other ≡ get old other)
    → AreOpen new (filter (λ other. not (other == slot)) slots)
open-dismissed slots slot old new o free others other =
    times-filter (λ x. not (x == slot)) other slots ∙ ⊎_elim
    (λ s. let gone : get new other ≡ None = ap (get new) s.1 ∙ free in rw (s.0, gone) refl)
    (λ s. let same = others other s.1 in rw (s.0, same) (o other))
    (eqb_tells other slot)

-- there is room for the slot of a part that is not due
pub room-for : (parts : Slab DoorPart) (slots : List ℕ) (at room : ℕ) → AreOpen parts slots
    → IsSome (get parts at) → is_some (due_at parts at) ≡ false → slab_len parts ≤ room → length slots < room
room-for parts slots at room o there idle within =
    let fewer = fewer-slots parts.slots slots at once (o at ∙ rw idle refl) there in
    omega (arith, fewer, within)
  where
    once : (slot : ℕ) → times slot slots ≤ cond (is_some (get parts slot)) 1 0
    once slot = ⊎_elim
        (λ due. rw (due-there (get parts slot) due.0) (omega (arith, due.1)))
        (λ no. omega (arith, no.1))
        (open-is parts slots o slot)
