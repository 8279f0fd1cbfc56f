-- The traces of parts after events and scans.
use Rattle.std.proofs.Common.{◌≡◌, ℕ, Bool, true, false, not, ◌||◌, ◌==◌, List, [], ◌∷◌, ◌++◌, map, refl, sym, ap, ◌∙◌}
use Rattle.std.proofs.Common.{Option, Some, None, if◌then◌else◌}
use Rattle.std.specs.List.{All, filter, list_any}
use Rattle.std.specs.Option.{option_map}
use Rattle.std.proofs.lemmas.List.Elements.{All-head, All-tail}
use Rattle.sup_core.specs.declared.event.Event.{Event}
use Rattle.sup_trace.specs.Trace.{Kept, noted_if_taken}
use Rattle.scan_table.specs.declared.part.PartId.{PartId}
use Rattle.suite_core.specs.Parts.{PartState, is_part, is_place, trace_of, part_after, parts_after, restarted_in, is_of}
use Rattle.suite_core.specs.Suite.{changed}
use Rattle.suite_core.proofs.Names.{is_part-same, is_part-self}

-- what an event at a part means for the trace of any part
abbrev pub noted_where : Bool → Event → Kept → Kept
noted_where is_own event kept = if is_own then noted_if_taken kept event else kept

after-here : (part : PartState) (other id : PartId) (event : Event) (more after : Option Kept)
    → after ≡ option_map (noted_where (is_part other id) event) more →
    (if is_part (part_after other event part).id id then Some (part_after other event part).trace else after)
    ≡ option_map (noted_where (is_part other id) event) (if is_part part.id id then Some part.trace else more)
after-here part other id event more after rest =
    elim (is_part part.id other) as (λ own. is_part part.id other ≡ own →
    (if is_part (if own then record { id = part.id; trace = noted_if_taken part.trace event } else part).id id
    then Some (if own then record { id = part.id; trace = noted_if_taken part.trace event } else part).trace else after)
    ≡ option_map (noted_where (is_part other id) event) (if is_part part.id id then Some part.trace else more)) [
      | true ↦ λ own.
          let same : is_part part.id id ≡ is_part other id =
          ap (λ (a : PartId). is_part a id) (is_part-same part.id other own) in
          elim (is_part part.id id) as (λ here. is_part part.id id ≡ here →
          (if here then Some (noted_if_taken part.trace event) else after)
          ≡ option_map (noted_where (is_part other id) event) (if here then Some part.trace else more)) [
            | true ↦ λ here. let yes : is_part other id ≡ true = sym same ∙ here in rw yes refl
            | false ↦ λ here. rest
          ] refl
      | false ↦ λ own.
          elim (is_part part.id id) as (λ here. is_part part.id id ≡ here →
          (if here then Some part.trace else after)
          ≡ option_map (noted_where (is_part other id) event) (if here then Some part.trace else more)) [
            | true ↦ λ here.
                elim (is_part other id) as (λ both. is_part other id ≡ both
                → Some part.trace ≡ Some (noted_where both event part.trace)) [
                  | true ↦ λ both.
                      let one : other ≡ part.id = is_part-same other id both ∙ sym (is_part-same part.id id here) in
                      let self : is_part part.id other ≡ true = ap (λ (a : PartId). is_part part.id a) one
                      ∙ is_part-self part.id in
                      absurd (cc)
                  | false ↦ λ both. refl
                ] refl
            | false ↦ λ here. rest
          ] refl
    ] refl

-- What an event at a part does to the trace of any part.
pub trace_of-after : (parts : List PartState) (other id : PartId) (event : Event) →
    trace_of (parts_after other event parts) id ≡ option_map (noted_where (is_part other id) event) (trace_of parts id)
trace_of-after [] other id event = refl
trace_of-after (part ∷ parts) other id event =
    after-here part other id event (trace_of parts id) (trace_of (parts_after other event parts) id)
    (trace_of-after parts other id event)

-- None of these is the part with this name.
abbrev pub AreOthers : PartId → List PartState → Type 0
AreOthers id parts = All (λ (part : PartState). is_part part.id id ≡ false) parts

pub trace_of-others : (id : PartId) (parts : List PartState) → AreOthers id parts → trace_of parts id ≡ None
trace_of-others id [] others = refl
trace_of-others id (part ∷ parts) others =
    let no : is_part part.id id ≡ false = All-head (λ (p : PartState). is_part p.id id ≡ false) part parts others in
    rw no (trace_of-others id parts (All-tail (λ (p : PartState). is_part p.id id ≡ false) part parts others))

abbrev no_trace : Option Kept
no_trace = None

-- the first of two
abbrev pub first_of : Option Kept → Option Kept → Option Kept
first_of None other = other
first_of (Some kept) other = Some kept

trace_of-append : (xs ys : List PartState) (id : PartId)
    → trace_of (xs ++ ys) id ≡ first_of (trace_of xs id) (trace_of ys id)
trace_of-append [] ys id = refl
trace_of-append (x ∷ xs) ys id =
    elim (is_part x.id id) as (λ here. (if here then Some x.trace else trace_of (xs ++ ys) id)
    ≡ first_of (if here then Some x.trace else trace_of xs id) (trace_of ys id)) [
      | true ↦ refl
      | false ↦ trace_of-append xs ys id
    ]

first_of-none : (t : Option Kept) → first_of t None ≡ t
first_of-none None = refl
first_of-none (Some kept) = refl

-- whether a part belongs to one of these slots
abbrev pub is_among : List ℕ → PartId → Bool
is_among slots id = list_any (λ slot. id.slot == slot) slots

trace_of-kept : (dropped : List ℕ) (parts : List PartState) (id : PartId) →
    trace_of (filter (λ part. not (is_of dropped part)) parts) id
    ≡ (if is_among dropped id then None else trace_of parts id)
trace_of-kept dropped [] id =
    elim (is_among dropped id) as (λ b. trace_of [] id ≡ (if b then None else trace_of [] id))
    [ true ↦ refl | false ↦ refl ]
trace_of-kept dropped (part ∷ parts) id =
    let later = trace_of-kept dropped parts id in
    elim (is_of dropped part) as (λ gone. is_of dropped part ≡ gone →
    trace_of (if not gone then part ∷ filter (λ p. not (is_of dropped p)) parts else filter (λ p. not (is_of dropped p))
    parts) id
    ≡ (if is_among dropped id then None else (if is_part part.id id then Some part.trace else trace_of parts id))) [
      | true ↦ λ gone. later ∙
          elim (is_part part.id id) as (λ here. is_part part.id id ≡ here →
          (if is_among dropped id then None else trace_of parts id)
          ≡ (if is_among dropped id then None else (if here then Some part.trace else trace_of parts id))) [
            | true ↦ λ here.
                let yes : is_among dropped id ≡ true = ap (is_among dropped) (sym (is_part-same part.id id here))
                ∙ gone in
                rw yes refl
            | false ↦ λ here. refl
          ] refl
      | false ↦ λ gone.
          elim (is_part part.id id) as (λ here. is_part part.id id ≡ here →
          (if here then Some part.trace else trace_of (filter (λ p. not (is_of dropped p)) parts) id)
          ≡ (if is_among dropped id then None else (if here then Some part.trace else trace_of parts id))) [
            | true ↦ λ here.
                let no : is_among dropped id ≡ false = ap (is_among dropped) (sym (is_part-same part.id id here))
                ∙ gone in
                rw no refl
            | false ↦ λ here. later
          ] refl
    ] refl

-- whether one of these parts takes a part's place
abbrev pub is_replaced : List PartState → PartId → Bool
is_replaced news id = list_any (λ (new : PartState). is_place new.id id) news

-- What is true of a part, and of those that restart, is true of the part at its place afterwards.
pub restarted-one : (P : PartState → Type 0) (news : List PartState) (part : PartState) → P part → All P news
    → P (restarted_in news part)
restarted-one P [] part here all = here
restarted-one P (new ∷ news) part here all =
    restarted-one P news (if is_place new.id part.id then new else part)
    (elim (is_place new.id part.id) as (λ b. P (if b then new else part))
    [ true ↦ All-head P new news all | false ↦ here ])
    (All-tail P new news all)

restarted-new : (P : PartState → Type 0) (news : List PartState) (part : PartState) → is_replaced news part.id ≡ true
    → All P news → P (restarted_in news part)
restarted-new P [] part is all = absurd (cc)
restarted-new P (new ∷ news) part is all =
    elim (is_place new.id part.id) as (λ b. (b || is_replaced news part.id) ≡ true
    → P (restarted_in news (if b then new else part))) [
      | true ↦ λ is. restarted-one P news new (All-head P new news all) (All-tail P new news all)
      | false ↦ λ is. restarted-new P news part is (All-tail P new news all)
    ] is

pub restarted-same : (news : List PartState) (part : PartState) → is_replaced news part.id ≡ false
    → restarted_in news part ≡ part
restarted-same [] part is = refl
restarted-same (new ∷ news) part is =
    elim (is_place new.id part.id) as (λ b. (b || is_replaced news part.id) ≡ false
    → restarted_in news (if b then new else part) ≡ part) [
      | true ↦ λ is. absurd (cc)
      | false ↦ λ is. restarted-same news part is
    ] is

trace_of-restarted : (news parts : List PartState) (id : PartId) → AreOthers id news →
    trace_of (map (restarted_in news) parts) id ≡ (if is_replaced news id then None else trace_of parts id)
trace_of-restarted news [] id others =
    elim (is_replaced news id) as (λ b. trace_of [] id ≡ (if b then None else trace_of [] id))
    [ true ↦ refl | false ↦ refl ]
trace_of-restarted news (part ∷ parts) id others =
    let later = trace_of-restarted news parts id others in
    elim (is_replaced news part.id) as (λ b. is_replaced news part.id ≡ b →
    trace_of (restarted_in news part ∷ map (restarted_in news) parts) id
    ≡ (if is_replaced news id then None else (if is_part part.id id then Some part.trace else trace_of parts id))) [
      | true ↦ λ taken.
          let no : is_part (restarted_in news part).id id ≡ false =
          restarted-new (λ (p : PartState). is_part p.id id ≡ false) news part taken others in
          rw no (later ∙
          elim (is_part part.id id) as (λ here. is_part part.id id ≡ here →
          (if is_replaced news id then None else trace_of parts id)
          ≡ (if is_replaced news id then None else (if here then Some part.trace else trace_of parts id))) [
            | true ↦ λ here.
                let yes : is_replaced news id ≡ true = ap (is_replaced news) (sym (is_part-same part.id id here))
                ∙ taken in
                rw yes refl
            | false ↦ λ here. refl
          ] refl)
      | false ↦ λ free.
          let same : restarted_in news part ≡ part = restarted-same news part free in
          rw same (elim (is_part part.id id) as (λ here. is_part part.id id ≡ here →
          (if here then Some part.trace else trace_of (map (restarted_in news) parts) id)
          ≡ (if is_replaced news id then None else (if here then Some part.trace else trace_of parts id))) [
            | true ↦ λ here.
                let no : is_replaced news id ≡ false = ap (is_replaced news) (sym (is_part-same part.id id here))
                ∙ free in
                rw no refl
            | false ↦ λ here. later
          ] refl)
    ] refl

-- What a scan does to the trace of a part, if those that it begins are other parts.
pub trace_of-changed : (dropped : List ℕ) (started restarted parts : List PartState) (id : PartId)
    → AreOthers id started → AreOthers id restarted →
    trace_of (changed dropped started restarted parts) id
    ≡ (if is_among dropped id || is_replaced restarted id then None else trace_of parts id)
trace_of-changed dropped started restarted parts id no_start no_restart =
    let stay = filter (λ part. not (is_of dropped part)) parts in
    let none : trace_of started id ≡ None = trace_of-others id started no_start in
    trace_of-append (map (restarted_in restarted) stay) started id ∙
    ap (first_of (trace_of (map (restarted_in restarted) stay) id)) none ∙
    first_of-none (trace_of (map (restarted_in restarted) stay) id) ∙
    trace_of-restarted restarted stay id no_restart ∙
    ap (λ t. if is_replaced restarted id then None else t) (trace_of-kept dropped parts id) ∙
    elim (is_among dropped id) as (λ a.
    (if is_replaced restarted id then None else (if a then None else trace_of parts id))
    ≡ (if a || is_replaced restarted id then None else trace_of parts id)) [
      | true ↦ elim (is_replaced restarted id) as (λ b. (if b then None else None) ≡ no_trace)
          [ true ↦ refl | false ↦ refl ]
      | false ↦ refl
    ]
