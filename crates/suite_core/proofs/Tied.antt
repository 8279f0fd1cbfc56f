-- The parts of a suite are those of its table.
use Rattle.std.proofs.Common.{◌≡◌, ℕ, ◌+◌, ◌<◌, Bool, true, false, not, ◌||◌, ◌==◌, List, [], ◌∷◌, ◌++◌, get_or, map}
use Rattle.std.proofs.Common.{append_assoc, refl, sym, subst, ap, ◌∙◌, arith, Option, Some, None, if◌then◌else◌}
use Rattle.std.specs.List.{All, AllPairs, filter, list_any, flat_map}
use Rattle.std.specs.Option.{option_map}
use Rattle.std.proofs.lemmas.Bool.Decides.{nat_tests}
use Rattle.std.proofs.lemmas.List.{get_or-map, length-map}
use Rattle.std.proofs.lemmas.List.Elements.{All-nil, All-cons, All-head, All-tail, All-weaker}
use Rattle.std.proofs.lemmas.List.Kept.{AllPairs-cons}
use Rattle.tai_status.specs.Label.{Tai64n}
use Rattle.sup_core.specs.declared.event.Event.{Event}
use Rattle.sup_core.specs.State.{is_gone}
use Rattle.tai_status.specs.declared.phase.Phase.{Phase}
use Rattle.tai_status.specs.declared.phase.Phase.TheVariants as phase
use Rattle.sup_core.specs.History.{Begin, phase_of}
use Rattle.sup_core.specs.Rules.{takes}
use Rattle.sup_core.proofs.Laws.{takes-gone, begin-not_gone}
use Rattle.sup_trace.specs.Trace.{Kept, noted_if_taken, history_of, replay}
use Rattle.sup_trace.proofs.Laws.{noted_if_taken-held}
use Rattle.scan_table.specs.declared.part.PartId.{PartId}
use Rattle.scan_table.specs.declared.part.Role.{Role}
use Rattle.scan_table.specs.declared.part.Role.TheVariants.{Main, Log}
use Rattle.scan_table.specs.declared.slot.Life.{Life}
use Rattle.scan_table.specs.Slots.{Row, SlotState, SlotPart, log_parts, ids_of, is_pair, eligible}
use Rattle.scan_table.specs.Scan.{drops, kept, is_dropped, need, new_slot, new_slots, new_slots_at, in_turn, starts}
use Rattle.scan_table.specs.Scan.{restarts}
use Rattle.scan_table.specs.Table.{TableState, scanned, after_end, slot_ended, life_ended, renewed, restarted, is_at}
use Rattle.scan_table.specs.Index.{IsBefore, IsNumbered}
use Rattle.scan_table.proofs.Given.{AllPairs-append, pairs-head, pairs-tail, all-flat, all-slots}
use Rattle.suite_core.specs.Parts.{PartState, is_part, is_place, trace_of, has_ended, part_after, parts_after}
use Rattle.suite_core.specs.Parts.{restarted_in, is_of}
use Rattle.suite_core.specs.Suite.{SuiteState, Beginning, begun_part, beginning, table_noted, parts_scanned}
use Rattle.suite_core.specs.Places.{rank, rank_in, AreRising, Seen, seen, seen_life, seen_in, AreTied}
use Rattle.suite_core.proofs.Names.{is_part-same, is_at-same}
use Rattle.suite_core.proofs.Traces.{is_among}

map-append : {X Y : Type 0} (f : X → Y) (xs ys : List X) → map f (xs ++ ys) ≡ map f xs ++ map f ys
map-append f [] ys = refl
map-append f (x ∷ xs) ys = ap (λ l. f x ∷ l) (map-append f xs ys)

flat-append : {X Y : Type 0} (f : X → List Y) (xs ys : List X) → flat_map f (xs ++ ys) ≡ flat_map f xs ++ flat_map f ys
flat-append f [] ys = refl
flat-append f (x ∷ xs) ys = ap (λ l. f x ++ l) (flat-append f xs ys)
    ∙ sym (append_assoc (f x) (flat_map f xs) (flat_map f ys))

filter-append : {X : Type 0} (p : X → Bool) (xs ys : List X) → filter p (xs ++ ys) ≡ filter p xs ++ filter p ys
filter-append p [] ys = refl
filter-append p (x ∷ xs) ys =
    elim (p x) as (λ b. (if b then x ∷ filter p (xs ++ ys) else filter p (xs ++ ys))
    ≡ (if b then x ∷ filter p xs else filter p xs) ++ filter p ys) [
      | true ↦ ap (λ l. x ∷ l) (filter-append p xs ys)
      | false ↦ filter-append p xs ys
    ]

-- If a function of slots agrees with one of their parts, the same is true of all slots.
flat-map : (f : SlotState → SlotState) (g : Seen → Seen) (slots : List SlotState)
    → ((slot : SlotState) → seen_in (f slot) ≡ map g (seen_in slot)) →
    flat_map seen_in (map f slots) ≡ map g (flat_map seen_in slots)
flat-map f g [] each = refl
flat-map f g (slot ∷ slots) each =
    ap (λ l. l ++ flat_map seen_in (map f slots)) (each slot)
    ∙ ap (λ l. map g (seen_in slot) ++ l) (flat-map f g slots each) ∙
    sym (map-append g (seen_in slot) (flat_map seen_in slots))

-- A part that ends

-- what is seen of a part after the part with this name ended
abbrev seen_end : PartId → Seen → Seen
seen_end id part = record { id = part.id; ended = part.ended || is_part part.id id }

end-in-slot : (id : PartId) (slot : SlotState) → seen_in (slot_ended id slot) ≡ map (seen_end id) (seen_in slot)
end-in-slot id slot =
    elim (slot.number == id.slot) as (λ b. (slot.number == id.slot) ≡ b →
    seen_in (if b then record {
      number = slot.number;
      name = slot.name;
      main = life_ended id Main slot.main;
      log =
          option_map (life_ended id Log) slot.log;
    } else slot)
    ≡ map (seen_end id) (seen_in slot)) [
      | true ↦ λ same.
          elim slot.log as (λ log.
          map (seen_life slot.number) (record { role = Main; life = life_ended id Main slot.main }
          ∷ log_parts (option_map (life_ended id Log) log))
          ≡ map (seen_end id)
          (map (seen_life slot.number) (record { role = Main; life = slot.main } ∷ log_parts log))) [
            | None ↦ rw same refl
            | (Some life) ↦ rw same refl
          ]
      | false ↦ λ other.
          elim slot.log as (λ log.
          map (seen_life slot.number) (record { role = Main; life = slot.main } ∷ log_parts log)
          ≡ map (seen_end id)
          (map (seen_life slot.number) (record { role = Main; life = slot.main } ∷ log_parts log))) [
            | None ↦ rw other (or-false-main id slot)
            | (Some life) ↦ rw other (or-false-both id slot life)
          ]
    ] refl
  where
    or-false : (b : Bool) → b ≡ (b || false)
    or-false true = refl
    or-false false = refl

    or-false-main : (id : PartId) (slot : SlotState) → seen_life slot.number (record { role = Main; life = slot.main })
        ∷ []
        ≡ record {
          id = record { slot = slot.number; role = Main; life = slot.main.number };
          ended =
              slot.main.has_ended || false;
        } ∷ []
    or-false-main id slot =
        ap (λ b. record { id = record { slot = slot.number; role = Main; life = slot.main.number }; ended = b } ∷ [])
        (or-false slot.main.has_ended)

    or-false-both : (id : PartId) (slot : SlotState) (life : Life)
        → seen_life slot.number (record { role = Main; life = slot.main })
        ∷ seen_life slot.number (record { role = Log; life = life }) ∷ []
        ≡ record {
          id = record { slot = slot.number; role = Main; life = slot.main.number };
          ended =
              slot.main.has_ended || false;
        }
        ∷ record { id = record { slot = slot.number; role = Log; life = life.number }; ended = life.has_ended || false }
        ∷ []
    or-false-both id slot life =
        ap (λ b. record { id = record { slot = slot.number; role = Main; life = slot.main.number }; ended = b }
        ∷ seen_life slot.number (record { role = Log; life = life }) ∷ []) (or-false slot.main.has_ended)
        ∙ ap (λ b. record {
          id = record { slot = slot.number; role = Main; life = slot.main.number };
          ended =
              slot.main.has_ended || false;
        }
        ∷ record { id = record { slot = slot.number; role = Log; life = life.number }; ended = b } ∷ [])
        (or-false life.has_ended)

-- A machine that is gone stays gone.
stays-ended : (kept : Kept) (event : Event) → has_ended kept ≡ true → has_ended (noted_if_taken kept event) ≡ true
stays-ended kept event ended =
    let gone : phase_of (history_of kept) ≡ phase.Gone = is_gone-same (replay kept).phase ended in
    let held : takes (history_of kept) event ≡ false = takes-gone (history_of kept) event gone in
    ap has_ended (noted_if_taken-held kept event held) ∙ ended
  where
    is_gone-same : (p : Phase) → is_gone p ≡ true → p ≡ phase.Gone
    is_gone-same phase.Starting is = absurd (cc)
    is_gone-same phase.Settling is = absurd (cc)
    is_gone-same phase.Resting is = absurd (cc)
    is_gone-same phase.Up is = absurd (cc)
    is_gone-same phase.Down is = absurd (cc)
    is_gone-same phase.Gone is = refl

-- each part of this name has this trace
abbrev Has : PartId → Kept → PartState → Type 0
Has id trace part = is_part part.id id ≡ true → part.trace ≡ trace

-- Rising parts have at most one part with a name, and so at most one trace for it.
pub only-one : (parts : List PartState) (id : PartId) (trace : Kept) → AreRising parts → trace_of parts id ≡ Some trace
    → All (Has id trace) parts
only-one [] id trace rising at = absurd (cc)
only-one (part ∷ parts) id trace rising at =
    elim (is_part part.id id) as (λ b. is_part part.id id ≡ b → (if b then Some part.trace else trace_of parts id)
    ≡ Some trace → All (Has id trace) (part ∷ parts)) [
      | true ↦ λ here at.
          let one : part.trace ≡ trace = cc in
          All-cons (Has id trace) part parts (λ own. one)
          (All-weaker (λ (later : PartState). rank part.id < rank later.id) (Has id trace)
          (λ later above own.
          let same : part.id ≡ later.id = is_part-same part.id id here ∙ sym (is_part-same later.id id own) in
          absurd (omega (arith, above, ap rank same)))
          parts (pairs-head (λ (a : PartState) (b : PartState). rank a.id < rank b.id) part parts rising))
      | false ↦ λ here at.
          All-cons (Has id trace) part parts (λ own. absurd (cc))
          (only-one parts id trace
          (pairs-tail (λ (a : PartState) (b : PartState). rank a.id < rank b.id) part parts rising) at)
    ] refl at

-- if an event ends the part
seen-ends : (parts : List PartState) (id : PartId) (event : Event) (trace : Kept)
    → has_ended (noted_if_taken trace event) ≡ true → All (Has id trace) parts →
    map seen (parts_after id event parts) ≡ map (seen_end id) (map seen parts)
seen-ends [] id event trace ends each = refl
seen-ends (part ∷ parts) id event trace ends each =
    ap (λ x. x ∷ map seen (parts_after id event parts)) (here part (All-head (Has id trace) part parts each))
    ∙ ap (λ xs. seen_end id (seen part) ∷ xs)
    (seen-ends parts id event trace ends (All-tail (Has id trace) part parts each))
  where
    or-true : (b : Bool) → true ≡ (b || true)
    or-true true = refl
    or-true false = refl

    or-false : (b : Bool) → b ≡ (b || false)
    or-false true = refl
    or-false false = refl

    here : (part : PartState) → Has id trace part → seen (part_after id event part) ≡ seen_end id (seen part)
    here part has =
        elim (is_part part.id id) as (λ b. is_part part.id id ≡ b →
        seen (if b then record { id = part.id; trace = noted_if_taken part.trace event } else part)
        ≡ record { id = part.id; ended = has_ended part.trace || b }) [
          | true ↦ λ own.
              let ended : has_ended (noted_if_taken part.trace event) ≡ true =
              ap (λ (k : Kept). has_ended (noted_if_taken k event)) (has own) ∙ ends in
              ap (λ e. record { id = part.id; ended = e }) (ended ∙ or-true (has_ended part.trace))
          | false ↦ λ own. ap (λ e. record { id = part.id; ended = e }) (or-false (has_ended part.trace))
        ] refl

-- if it does not
seen-stays : (parts : List PartState) (id : PartId) (event : Event) (trace : Kept)
    → has_ended (noted_if_taken trace event) ≡ false → All (Has id trace) parts →
    map seen (parts_after id event parts) ≡ map seen parts
seen-stays [] id event trace stays each = refl
seen-stays (part ∷ parts) id event trace stays each =
    ap (λ x. x ∷ map seen (parts_after id event parts)) (here part (All-head (Has id trace) part parts each))
    ∙ ap (λ xs. seen part ∷ xs) (seen-stays parts id event trace stays (All-tail (Has id trace) part parts each))
  where
    before : has_ended trace ≡ false
    before = elim (has_ended trace) as (λ b. has_ended trace ≡ b → b ≡ false) [
      | true ↦ λ is. let after : has_ended (noted_if_taken trace event) ≡ true = stays-ended trace event is in
          absurd (cc)
      | false ↦ λ is. refl
    ] refl

    here : (part : PartState) → Has id trace part → seen (part_after id event part) ≡ seen part
    here part has =
        elim (is_part part.id id) as (λ b. is_part part.id id ≡ b →
        seen (if b then record { id = part.id; trace = noted_if_taken part.trace event } else part) ≡ seen part) [
          | true ↦ λ own.
              ap (λ e. record { id = part.id; ended = e })
              (ap (λ (k : Kept). has_ended (noted_if_taken k event)) (has own) ∙ stays
              ∙ sym (ap has_ended (has own) ∙ before))
          | false ↦ λ own. refl
        ] refl

-- the parts, if none has the name
nothing-after : (parts : List PartState) (id : PartId) (event : Event) → trace_of parts id ≡ None
    → parts_after id event parts ≡ parts
nothing-after [] id event none = refl
nothing-after (part ∷ parts) id event none =
    elim (is_part part.id id) as (λ b. (if b then Some part.trace else trace_of parts id) ≡ None →
    (if b then record { id = part.id; trace = noted_if_taken part.trace event } else part) ∷ parts_after id event parts
    ≡ part ∷ parts) [
      | true ↦ λ none. absurd (cc)
      | false ↦ λ none. ap (λ l. part ∷ l) (nothing-after parts id event none)
    ] none

-- An event at a part keeps parts and table in agreement.
pub tied-at : (table : TableState) (parts : List PartState) (id : PartId) (event : Event) → AreRising parts
    → AreTied table parts →
    AreTied (table_noted table id event (trace_of parts id)) (parts_after id event parts)
tied-at table parts id event rising tied =
    elim (trace_of parts id) as (λ t. trace_of parts id ≡ t
    → AreTied (table_noted table id event t) (parts_after id event parts)) [
      | None ↦ λ none. ap (map seen) (nothing-after parts id event none) ∙ tied
      | (Some trace) ↦ λ at.
          let each = only-one parts id trace rising at in
          elim (has_ended (noted_if_taken trace event)) as (λ b. has_ended (noted_if_taken trace event) ≡ b →
          AreTied (if b then after_end table id else table) (parts_after id event parts)) [
            | true ↦ λ ends. seen-ends parts id event trace ends each ∙ ap (map (seen_end id)) tied
                ∙ sym (flat-map (slot_ended id) (seen_end id) table.slots (end-in-slot id))
            | false ↦ λ stays. seen-stays parts id event trace stays each ∙ tied
          ] refl
    ] refl

-- A scan

-- a slot's number is among the dropped ones exactly if the slot is dropped
dropped-here : (slots : List SlotState) (rows : List Row) (slot : SlotState) → All (IsBefore slot) slots
    → list_any (λ n. slot.number == n) (drops slots rows) ≡ false
dropped-here [] rows slot before = refl
dropped-here (other ∷ slots) rows slot before =
    let less : slot.number < other.number = All-head (IsBefore slot) other slots before in
    let no : (slot.number == other.number) ≡ false = grind (arith, nat_tests) in
    let later = dropped-here slots rows slot (All-tail (IsBefore slot) other slots before) in
    elim (is_dropped rows other) as (λ b.
    list_any (λ n. slot.number == n)
    (map (λ (s : SlotState). s.number)
    (if b then other ∷ filter (is_dropped rows) slots else filter (is_dropped rows) slots)) ≡ false) [
      | true ↦ rw no later
      | false ↦ later
    ]

abbrev Reports : List SlotState → List Row → SlotState → Type 0
Reports slots rows slot = list_any (λ n. slot.number == n) (drops slots rows) ≡ is_dropped rows slot

dropped-reported : (slots : List SlotState) (rows : List Row) → AllPairs IsBefore slots → All (Reports slots rows) slots
dropped-reported [] rows rising = All-nil (Reports [] rows)
dropped-reported (slot ∷ slots) rows rising =
    let above = pairs-head IsBefore slot slots rising in
    let later = dropped-reported slots rows (pairs-tail IsBefore slot slots rising) in
    elim (is_dropped rows slot) as (λ b. is_dropped rows slot ≡ b → All (Reports (slot ∷ slots) rows) (slot ∷ slots)) [
      | true ↦ λ gone.
          let yes : (slot.number == slot.number) ≡ true = grind (arith, nat_tests) in
          let more : drops (slot ∷ slots) rows ≡ slot.number ∷ drops slots rows = rw gone refl in
          All-cons (Reports (slot ∷ slots) rows) slot slots
          (ap (list_any (λ n. slot.number == n)) more ∙ rw yes (sym gone))
          (λ k d w.
          let less : slot.number < (get_or slots k d).number = above k d w in
          let no : ((get_or slots k d).number == slot.number) ≡ false = grind (arith, nat_tests) in
          ap (list_any (λ n. (get_or slots k d).number == n)) more ∙ rw no (later k d w))
      | false ↦ λ stays.
          let same : drops (slot ∷ slots) rows ≡ drops slots rows = rw stays refl in
          All-cons (Reports (slot ∷ slots) rows) slot slots
          (ap (list_any (λ n. slot.number == n)) same ∙ dropped-here slots rows slot above ∙ sym stays)
          (λ k d w. ap (list_any (λ n. (get_or slots k d).number == n)) same ∙ later k d w)
    ] refl

-- whether what is seen stays, if these slots are dropped
abbrev stays_seen : List ℕ → Seen → Bool
stays_seen dropped part = not (is_among dropped part.id)

-- what is seen in a slot goes or stays with the slot
slot-filter : (dropped : List ℕ) (slot : SlotState) → filter (stays_seen dropped) (seen_in slot)
    ≡ (if list_any (λ n. slot.number == n) dropped then [] else seen_in slot)
slot-filter dropped slot =
    elim slot.log as (λ log.
    filter (stays_seen dropped)
    (map (seen_life slot.number) (record { role = Main; life = slot.main } ∷ log_parts log))
    ≡ (if list_any (λ n. slot.number == n) dropped then [] else map (seen_life slot.number)
    (record { role = Main; life = slot.main } ∷ log_parts log))) [
      | None ↦ elim (list_any (λ n. slot.number == n) dropped) as (λ b.
          (if not b then seen_life slot.number (record { role = Main; life = slot.main }) ∷ [] else [])
          ≡ (if b then [] else seen_life slot.number (record { role = Main; life = slot.main }) ∷ []))
          [ true ↦ refl | false ↦ refl ]
      | (Some life) ↦ elim (list_any (λ n. slot.number == n) dropped) as (λ b.
          (if not b then seen_life slot.number (record { role = Main; life = slot.main })
          ∷ (if not b then seen_life slot.number (record { role = Log; life = life }) ∷ [] else [])
          else (if not b then seen_life slot.number (record { role = Log; life = life }) ∷ [] else []))
          ≡ (if b then [] else seen_life slot.number (record { role = Main; life = slot.main })
          ∷ seen_life slot.number (record { role = Log; life = life }) ∷ [])) [ true ↦ refl | false ↦ refl ]
    ]

kept-flat : (dropped : List ℕ) (rows : List Row) (slots : List SlotState) →
    All (λ (slot : SlotState). list_any (λ n. slot.number == n) dropped ≡ is_dropped rows slot) slots →
    filter (stays_seen dropped) (flat_map seen_in slots) ≡ flat_map seen_in (kept slots rows)
kept-flat dropped rows [] reported = refl
kept-flat dropped rows (slot ∷ slots) reported =
    let here : list_any (λ n. slot.number == n) dropped ≡ is_dropped rows slot =
    All-head (λ (s : SlotState). list_any (λ n. s.number == n) dropped ≡ is_dropped rows s) slot slots reported in
    let later = kept-flat dropped rows slots
    (All-tail (λ (s : SlotState). list_any (λ n. s.number == n) dropped ≡ is_dropped rows s) slot slots reported) in
    filter-append (stays_seen dropped) (seen_in slot) (flat_map seen_in slots)
    ∙ ap (λ l. l ++ filter (stays_seen dropped) (flat_map seen_in slots)) (slot-filter dropped slot
    ∙ ap (λ b. if b then [] else seen_in slot) here)
    ∙ ap (λ l. (if is_dropped rows slot then [] else seen_in slot) ++ l) later
    ∙ elim (is_dropped rows slot) as (λ b. (if b then [] else seen_in slot) ++ flat_map seen_in (kept slots rows)
    ≡ flat_map seen_in (if not b then slot ∷ kept slots rows else kept slots rows)) [ true ↦ refl | false ↦ refl ]

seen-filter : (dropped : List ℕ) (parts : List PartState) → map seen (filter (λ part. not (is_of dropped part)) parts)
    ≡ filter (stays_seen dropped) (map seen parts)
seen-filter dropped [] = refl
seen-filter dropped (part ∷ parts) =
    elim (is_of dropped part) as (λ b.
    map seen (if not b then part
    ∷ filter (λ p. not (is_of dropped p)) parts else filter (λ p. not (is_of dropped p)) parts)
    ≡ (if not b then seen part ∷ filter (stays_seen dropped) (map seen parts) else filter (stays_seen dropped)
    (map seen parts))) [
      | true ↦ seen-filter dropped parts
      | false ↦ ap (λ l. seen part ∷ l) (seen-filter dropped parts)
    ]

-- what is seen of a part after these restarted
abbrev seen_restart : List PartId → Seen → Seen
seen_restart [] part = part
seen_restart (new ∷ news) part =
    seen_restart news (if is_place new part.id then record { id = new; ended = false } else part)

restart-life : (news : List PartId) (number : ℕ) (role : Role) (life : Life) →
    seen_life number (record { role = role; life = restarted news number role life })
    ≡ seen_restart news (seen_life number (record { role = role; life = life }))
restart-life [] number role life = refl
restart-life (new ∷ news) number role life =
    elim (is_at new number role) as (λ b. is_at new number role ≡ b →
    seen_life number (record {
      role = role;
      life =
          restarted news number role (if b then record { number = new.life; has_ended = false } else life);
    })
    ≡ seen_restart news (if b then record { id = new; ended = false } else seen_life number
    (record { role = role; life = life }))) [
      | true ↦ λ at. restart-life news number role (record { number = new.life; has_ended = false })
          ∙ ap (λ (a : PartId). seen_restart news (record { id = a; ended = false }))
          (sym (is_at-same new number role at))
      | false ↦ λ at. restart-life news number role life
    ] refl

restart-slot : (news : List PartId) (slot : SlotState) → seen_in (renewed news slot)
    ≡ map (seen_restart news) (seen_in slot)
restart-slot news slot =
    elim slot.log as (λ log.
    map (seen_life slot.number) (record { role = Main; life = restarted news slot.number Main slot.main }
    ∷ log_parts (option_map (restarted news slot.number Log) log))
    ≡ map (seen_restart news)
    (map (seen_life slot.number) (record { role = Main; life = slot.main } ∷ log_parts log))) [
      | None ↦ ap (λ x. x ∷ []) (restart-life news slot.number Main slot.main)
      | (Some life) ↦
          ap (λ x. x ∷ seen_life slot.number (record { role = Log; life = restarted news slot.number Log life }) ∷ [])
          (restart-life news slot.number Main slot.main)
          ∙ ap (λ x. seen_restart news (seen_life slot.number (record { role = Main; life = slot.main })) ∷ x ∷ [])
          (restart-life news slot.number Log life)
    ]

-- A part that begins has not ended.
pub begun-stands : (capacity : ℕ) (label : Tai64n) (begins : Beginning)
    → has_ended (begun_part capacity label begins).trace ≡ false
begun-stands capacity label begins =
    elim (is_gone (phase_of (Begin begins.down label))) as (λ b. is_gone (phase_of (Begin begins.down label)) ≡ b
    → b ≡ false) [
      | true ↦ λ gone. absurd
          (begin-not_gone begins.down label (is_gone-same (phase_of (Begin begins.down label)) gone))
      | false ↦ λ is. refl
    ] refl
  where
    is_gone-same : (p : Phase) → is_gone p ≡ true → p ≡ phase.Gone
    is_gone-same phase.Starting is = absurd (cc)
    is_gone-same phase.Settling is = absurd (cc)
    is_gone-same phase.Resting is = absurd (cc)
    is_gone-same phase.Up is = absurd (cc)
    is_gone-same phase.Down is = absurd (cc)
    is_gone-same phase.Gone is = refl

abbrev begun_of : ℕ → Tai64n → List SlotState → List Row → PartId → PartState
begun_of capacity label slots rows id = begun_part capacity label (beginning slots rows id)

restart-part : (capacity : ℕ) (label : Tai64n) (slots : List SlotState) (rows : List Row) (ids : List PartId)
    (part : PartState) →
    seen (restarted_in (map (begun_part capacity label) (map (beginning slots rows) ids)) part)
    ≡ seen_restart ids (seen part)
restart-part capacity label slots rows [] part = refl
restart-part capacity label slots rows (id ∷ ids) part =
    elim (is_place id part.id) as (λ b.
    seen (restarted_in (map (begun_part capacity label) (map (beginning slots rows) ids))
    (if b then begun_of capacity label slots rows id else part))
    ≡ seen_restart ids (if b then record { id = id; ended = false } else seen part)) [
      | true ↦ restart-part capacity label slots rows ids (begun_of capacity label slots rows id)
          ∙ ap (λ e. seen_restart ids (record { id = id; ended = e }))
          (begun-stands capacity label (beginning slots rows id))
      | false ↦ restart-part capacity label slots rows ids part
    ]

seen-restarted : (capacity : ℕ) (label : Tai64n) (slots : List SlotState) (rows : List Row) (ids : List PartId)
    (parts : List PartState) →
    map seen (map (restarted_in (map (begun_part capacity label) (map (beginning slots rows) ids))) parts)
    ≡ map (seen_restart ids) (map seen parts)
seen-restarted capacity label slots rows ids [] = refl
seen-restarted capacity label slots rows ids (part ∷ parts) =
    ap (λ x. x ∷ map seen (map (restarted_in (map (begun_part capacity label) (map (beginning slots rows) ids))) parts))
    (restart-part capacity label slots rows ids part)
    ∙ ap (λ l. seen_restart ids (seen part) ∷ l) (seen-restarted capacity label slots rows ids parts)

-- what is seen of a part that starts
abbrev seen_start : PartId → Seen
seen_start id = record { id = id; ended = false }

seen-started : (capacity : ℕ) (label : Tai64n) (slots : List SlotState) (rows : List Row) (ids : List PartId) →
    map seen (map (begun_part capacity label) (map (beginning slots rows) ids)) ≡ map seen_start ids
seen-started capacity label slots rows [] = refl
seen-started capacity label slots rows (id ∷ ids) =
    ap (λ e. record { id = id; ended = e }
    ∷ map seen (map (begun_part capacity label) (map (beginning slots rows) ids)))
    (begun-stands capacity label (beginning slots rows id))
    ∙ ap (λ l. seen_start id ∷ l) (seen-started capacity label slots rows ids)

abbrev IsNew : SlotState → Type 0
IsNew slot = seen_in slot ≡ map seen_start (ids_of slot)

new-slot : (n : ℕ) (row : Row) → IsNew (new_slot n row)
new-slot n row =
    elim (is_pair row) as (λ b. IsNew (record {
      number = n;
      name = row.name;
      main = record { number = n + 1; has_ended = false };
      log = if b then Some (record { number = n + 2; has_ended = false }) else None;
    })) [ true ↦ refl | false ↦ refl ]

new-slots : (slots : List SlotState) (rows : List Row) (n : ℕ) (rest : List Row)
    → All IsNew (in_turn (need slots rows) (new_slots_at slots rows) n rest)
new-slots slots rows n [] = All-nil IsNew
new-slots slots rows n (row ∷ rest) =
    all-slots IsNew slots rows n row rest (λ is needs none. new-slot n row)
    (new-slots slots rows (n + need slots rows row) rest)

new-flat : (slots : List SlotState) → All IsNew slots → flat_map seen_in slots ≡ map seen_start (flat_map ids_of slots)
new-flat [] all = refl
new-flat (slot ∷ slots) all =
    ap (λ l. l ++ flat_map seen_in slots) (All-head IsNew slot slots all)
    ∙ ap (λ l. map seen_start (ids_of slot) ++ l) (new-flat slots (All-tail IsNew slot slots all))
    ∙ sym (map-append seen_start (ids_of slot) (flat_map ids_of slots))

-- The parts that a scan does not drop are those of the slots that it keeps.
pub parts-stay : (table : TableState) (parts : List PartState) (rows : List Row) → AllPairs IsBefore table.slots
    → AreTied table parts →
    map seen (filter (λ part. not (is_of (drops table.slots rows) part)) parts)
    ≡ flat_map seen_in (kept table.slots rows)
parts-stay table parts rows rising tied =
    seen-filter (drops table.slots rows) parts ∙ ap (filter (stays_seen (drops table.slots rows))) tied
    ∙ kept-flat (drops table.slots rows) rows table.slots (dropped-reported table.slots rows rising)

-- A scan keeps parts and table in agreement.
pub tied-scan : (suite : SuiteState) (rows : List Row) (label : Tai64n) → AllPairs IsBefore suite.table.slots
    → AreTied suite.table suite.parts →
    AreTied (scanned suite.table rows) (parts_scanned suite rows label)
tied-scan suite rows label rising tied =
    let slots = suite.table.slots in
    let next = suite.table.next in
    let after = (scanned suite.table rows).slots in
    let dropped = drops slots rows in
    let again = restarts slots next rows in
    let stay = filter (λ part. not (is_of dropped part)) suite.parts in
    let restarted_parts = map (begun_part suite.capacity label) (map (beginning after rows) again) in
    let started_parts = map (begun_part suite.capacity label) (map (beginning after rows) (starts slots next rows)) in
    let stayed : map seen stay ≡ flat_map seen_in (kept slots rows) =
    parts-stay suite.table suite.parts rows rising tied in
    let restarts_seen : map seen (map (restarted_in restarted_parts) stay)
    ≡ flat_map seen_in (map (renewed again) (kept slots rows)) =
    seen-restarted suite.capacity label after rows again stay ∙ ap (map (seen_restart again)) stayed
    ∙ sym (flat-map (renewed again) (seen_restart again) (kept slots rows) (restart-slot again)) in
    let starts_seen : map seen started_parts ≡ flat_map seen_in (new_slots slots next rows) =
    seen-started suite.capacity label after rows (starts slots next rows)
    ∙ sym (new-flat (new_slots slots next rows) (new-slots slots rows next (eligible rows))) in
    map-append seen (map (restarted_in restarted_parts) stay) started_parts
    ∙ ap (λ l. l ++ map seen started_parts) restarts_seen
    ∙ ap (λ l. flat_map seen_in (map (renewed again) (kept slots rows)) ++ l) starts_seen
    ∙ sym (flat-append seen_in (map (renewed again) (kept slots rows)) (new_slots slots next rows))

-- What the table says of numbers is true of the parts.

abbrev Below : Seen → Seen → Type 0
Below a b = rank a.id < rank b.id

slot-rises : (slot : SlotState) → AllPairs Below (seen_in slot)
slot-rises slot =
    elim slot.log as (λ log.
    AllPairs Below (map (seen_life slot.number) (record { role = Main; life = slot.main } ∷ log_parts log))) [
      | None ↦ λ i j d b w. absurd (omega (arith, b, w))
      | (Some life) ↦ AllPairs-cons Below (seen_life slot.number (record { role = Main; life = slot.main }))
          (seen_life slot.number (record { role = Log; life = life }) ∷ [])
          (All-cons (Below (seen_life slot.number (record { role = Main; life = slot.main })))
          (seen_life slot.number (record { role = Log; life = life })) [] (omega arith)
          (All-nil (Below (seen_life slot.number (record { role = Main; life = slot.main })))))
          (λ i j d b w. absurd (omega (arith, b, w)))
    ]

-- a property of the parts of a slot
all-in : (P : Seen → Type 0) (slot : SlotState) → ((part : SlotPart) → P (seen_life slot.number part))
    → All P (seen_in slot)
all-in P slot each =
    elim slot.log as (λ log.
    All P (map (seen_life slot.number) (record { role = Main; life = slot.main } ∷ log_parts log))) [
      | None ↦ All-cons P (seen_life slot.number (record { role = Main; life = slot.main })) []
          (each (record { role = Main; life = slot.main })) (All-nil P)
      | (Some life) ↦ All-cons P (seen_life slot.number (record { role = Main; life = slot.main }))
          (seen_life slot.number (record { role = Log; life = life }) ∷ [])
          (each (record { role = Main; life = slot.main }))
          (All-cons P (seen_life slot.number (record { role = Log; life = life })) []
          (each (record { role = Log; life = life })) (All-nil P))
    ]

pub rank-bound : (role : Role) → rank_in role < 2
rank-bound Main = omega arith
rank-bound Log = omega arith

slots-rise : (slots : List SlotState) → AllPairs IsBefore slots → AllPairs Below (flat_map seen_in slots)
slots-rise [] rising = λ i j d b w. absurd (omega (arith, b, w))
slots-rise (slot ∷ slots) rising =
    AllPairs-append Below (seen_in slot) (flat_map seen_in slots) (slot-rises slot)
    (slots-rise slots (pairs-tail IsBefore slot slots rising))
    (all-in (λ a. All (Below a) (flat_map seen_in slots)) slot
    (λ part. all-flat (Below (seen_life slot.number part)) seen_in slots
    (All-weaker (IsBefore slot) (λ (later : SlotState). All (Below (seen_life slot.number part)) (seen_in later))
    (λ later before. all-in (Below (seen_life slot.number part)) later
    (λ other. omega (arith, before, rank-bound part.role, rank-bound other.role)))
    slots (pairs-head IsBefore slot slots rising))))

-- The parts rise as the slots of the table do.
pub parts-rise : (table : TableState) (parts : List PartState) → AllPairs IsBefore table.slots → AreTied table parts
    → AreRising parts
parts-rise table parts rising tied i j d before within =
    let all : AllPairs Below (map seen parts) = subst (AllPairs Below) (sym tied) (slots-rise table.slots rising) in
    let less : Below (get_or (map seen parts) i (seen d)) (get_or (map seen parts) j (seen d)) =
    all i j (seen d) before (omega (arith, within, length-map parts seen)) in
    let one : get_or (map seen parts) i (seen d) ≡ seen (get_or parts i d) =
    get_or-map seen parts i d (seen d) (omega (arith, before, within)) in
    let two : get_or (map seen parts) j (seen d) ≡ seen (get_or parts j d) =
    get_or-map seen parts j d (seen d) within in
    subst (λ (a : Seen). rank a.id < rank (get_or parts j d).id) one
    (subst (λ (b : Seen). rank (get_or (map seen parts) i (seen d)).id < rank b.id) two less)

-- The lives of parts were given before the next number.
pub parts-below : (table : TableState) (parts : List PartState) → All (IsNumbered table.next) table.slots
    → AreTied table parts → All (λ (part : PartState). part.id.life < table.next) parts
parts-below table parts numbered tied k d within =
    let all : All (λ (a : Seen). a.id.life < table.next) (map seen parts) =
    subst (All (λ (a : Seen). a.id.life < table.next)) (sym tied)
    (all-flat (λ (a : Seen). a.id.life < table.next) seen_in table.slots
    (All-weaker (IsNumbered table.next)
    (λ (slot : SlotState). All (λ (a : Seen). a.id.life < table.next) (seen_in slot)) (λ slot is. lives slot is)
    table.slots numbered)) in
    let below : (get_or (map seen parts) k (seen d)).id.life < table.next =
    all k (seen d) (omega (arith, within, length-map parts seen)) in
    subst (λ (a : Seen). a.id.life < table.next) (get_or-map seen parts k d (seen d) within) below
  where
    P : Seen → Type 0
    P a = a.id.life < table.next

    lives : (slot : SlotState) → IsNumbered table.next slot → All (λ (a : Seen). a.id.life < table.next) (seen_in slot)
    lives slot is =
        elim slot.log as (λ log. slot.log ≡ log
        → All (λ (a : Seen). a.id.life < table.next)
        (map (seen_life slot.number) (record { role = Main; life = slot.main } ∷ log_parts log))) [
          | None ↦ λ none. All-cons (λ (a : Seen). a.id.life < table.next)
              (seen_life slot.number (record { role = Main; life = slot.main })) [] is.main
              (All-nil (λ (a : Seen). a.id.life < table.next))
          | (Some life) ↦ λ some.
              let log : life.number < table.next =
              subst (λ (l : Option Life). Rattle.std.specs.Option.IfSome l (λ (x : Life). x.number < table.next))
              some is.log in
              All-cons (λ (a : Seen). a.id.life < table.next)
              (seen_life slot.number (record { role = Main; life = slot.main }))
              (seen_life slot.number (record { role = Log; life = life }) ∷ []) is.main
              (All-cons (λ (a : Seen). a.id.life < table.next)
              (seen_life slot.number (record { role = Log; life = life })) [] log
              (All-nil (λ (a : Seen). a.id.life < table.next)))
        ] refl
