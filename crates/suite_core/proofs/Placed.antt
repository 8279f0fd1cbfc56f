-- What is done at the place of a part.
use Rattle.std.proofs.Common.{◌≡◌, ◌≢◌, ℕ, ◌+◌, ◌<◌, ◌≤◌, Bool, true, false, ◌==◌, nat_lt, List, [], ◌∷◌, length}
use Rattle.std.proofs.Common.{get_or, set, map, sym, subst, ap, ◌∙◌, refl, arith, zero, suc, inl, inr, Option, Some}
use Rattle.std.proofs.Common.{None, is_none, if◌then◌else◌}
use Rattle.std.specs.Option.{IfSome}
use Rattle.std.proofs.lemmas.Bool.{cases_lt}
use Rattle.std.proofs.lemmas.Bool.Decides.{nat_tests}
use Rattle.std.proofs.lemmas.List.{get_or_default, get_or-map, length-map}
use Rattle.sup_core.specs.declared.event.Event.{Event}
use Rattle.sup_trace.specs.Trace.{Kept, noted_if_taken}
use Rattle.scan_table.specs.declared.part.PartId.{PartId}
use Rattle.scan_table.proofs.Placed.{map-none, map-one}
use Rattle.suite_lines.specs.declared.out.StepOut.{StepOut}
use Rattle.suite_core.specs.Parts.{PartState, is_part, is_place, trace_of, has_ended, part_after, parts_after}
use Rattle.suite_core.specs.Parts.{restarted_in}
use Rattle.scan_table.specs.Table.{TableState, after_end}
use Rattle.suite_core.specs.declared.fault.StepFault.TheVariants as fault
use Rattle.suite_core.specs.Suite.{SuiteState, outs_at, table_noted, suite_at, refusal_at}
use Rattle.suite_core.specs.Places.{rank, AreRising, IsEdge, IsPlaceOf, IsPartAt, HasNone}
use Rattle.suite_core.proofs.Names.{is_part-same, is_place-rank}

-- If a part comes before, all parts up to it come before.
pub before-edge : (parts : List PartState) (id : PartId) (middle : ℕ) → AreRising parts → middle < length parts
    → ((d : PartState) → rank (get_or parts middle d).id < rank id) →
    (k : ℕ) (d : PartState) → k < middle + 1 → rank (get_or parts k d).id < rank id
before-edge parts id middle rising within less k d b =
    elim (cases_lt k middle) [
      | (inl below) ↦ let step : rank (get_or parts k d).id < rank (get_or parts middle d).id =
          rising k middle d below within in let l = less d in omega (arith, step, l)
      | (inr same) ↦
          let e : k ≡ middle = omega arith in
          subst (λ n. rank (get_or parts n d).id < rank id) (sym e) (less d)
    ]

pub after-edge : (parts : List PartState) (id : PartId) (middle : ℕ) → AreRising parts
    → ((d : PartState) → rank id ≤ rank (get_or parts middle d).id) →
    (k : ℕ) (d : PartState) → middle ≤ k → k < length parts → rank id ≤ rank (get_or parts k d).id
after-edge parts id middle rising more k d b within =
    elim (cases_lt middle k) [
      | (inl below) ↦ let step : rank (get_or parts middle d).id < rank (get_or parts k d).id =
          rising middle k d below within in let m = more d in omega (arith, step, m)
      | (inr same) ↦
          let e : k ≡ middle = omega arith in
          subst (λ n. rank id ≤ rank (get_or parts n d).id) (sym e) (more d)
    ]

-- a part that is read, with any default
pub rank-read : (parts : List PartState) (place : ℕ) (part : PartState) → place < length parts
    → part ≡ get_or parts place part → (d : PartState) → get_or parts place d ≡ part
rank-read parts place part within read d = get_or_default parts place d part within ∙ sym read

-- no part has a slot and role, if the first part that does not come before is another one
pub none-at : (parts : List PartState) (id : PartId) (place : ℕ) → IsEdge parts id place → AreRising parts
    → (place < length parts → (d : PartState) → rank (get_or parts place d).id ≢ rank id) → HasNone parts id
none-at parts id place edge rising other k d within =
    elim (cases_lt k place) [
      | (inl below) ↦ let less = edge.before k d below in λ e. absurd (omega (arith, less, e))
      | (inr above) ↦ elim (cases_lt place k) [
        | (inl later) ↦
            let step : rank (get_or parts place d).id < rank (get_or parts k d).id = rising place k d later within in
            let more = edge.after place d (omega arith) (omega (arith, later, within)) in
            λ e. absurd (omega (arith, step, more, e))
        | (inr same) ↦
            let e : place ≡ k = omega arith in
            let here : rank (get_or parts place d).id ≢ rank id = other (omega (arith, within)) d in
            λ is. here (ap (λ n. rank (get_or parts n d).id) e ∙ is)
      ]
    ]

-- the other parts have another rank
pub others : (parts : List PartState) (id : PartId) (place : ℕ) → AreRising parts → IsPlaceOf parts id place →
    (k : ℕ) (d : PartState) → k < length parts → k ≢ place → rank (get_or parts k d).id ≢ rank id
others parts id place rising at k d within other =
    let here : rank (get_or parts place d).id ≡ rank id = at.here d in
    let in-place : place < length parts = at.within in
    elim (cases_lt k place) [
      | (inl below) ↦ let less : rank (get_or parts k d).id < rank (get_or parts place d).id =
          rising k place d below in-place in λ same. absurd (omega (arith, less, here, same))
      | (inr above) ↦
          let less : rank (get_or parts place d).id < rank (get_or parts k d).id =
          rising place k d (omega arith) within in λ same. absurd (omega (arith, less, here, same))
    ]

-- The place of a part is the place of its slot and role.
pub part-place : (parts : List PartState) (id : PartId) (place : ℕ) → IsPartAt parts id place → IsPlaceOf parts id place
part-place parts id place at =
    record { within = at.within; here = λ d. ap rank (is_part-same (get_or parts place d).id id (at.here d)) }

other-part : (part : PartState) (id : PartId) → rank part.id ≢ rank id → is_part part.id id ≡ false
other-part part id other =
    elim (is_part part.id id) as (λ b. is_part part.id id ≡ b → b ≡ false) [
      | true ↦ λ is. absurd (other (ap rank (is_part-same part.id id is)))
      | false ↦ λ is. refl
    ] refl

-- what is read at the place of a part is its trace
pub trace-here : (parts : List PartState) (id : PartId) (place : ℕ) (part : PartState) → AreRising parts
    → IsPartAt parts id place → part ≡ get_or parts place part →
    trace_of parts id ≡ Some part.trace
trace-here [] id place part rising at read = absurd (omega (arith, at.within))
trace-here (first ∷ parts) id zero part rising at read =
    let is : is_part first.id id ≡ true = at.here first in
    rw is (ap (λ (p : PartState). Some p.trace) (sym read))
trace-here (first ∷ parts) id (suc place) part rising at read =
    let no : is_part first.id id ≡ false =
    other-part first id (others (first ∷ parts) id (suc place) rising (part-place (first ∷ parts) id (suc place) at)
    0 first (omega arith) (omega arith)) in
    rw no (trace-here parts id place part (λ i j d b w. rising (suc i) (suc j) d (omega arith) (omega arith))
    (record { within = omega (arith, at.within); here = λ d. at.here d }) read)

pub trace-nowhere : (parts : List PartState) (id : PartId)
    → ((k : ℕ) (d : PartState) → k < length parts → is_part (get_or parts k d).id id ≡ false) → trace_of parts id ≡ None
trace-nowhere [] id none = refl
trace-nowhere (first ∷ parts) id none =
    let no : is_part first.id id ≡ false = none 0 first (omega arith) in
    rw no (trace-nowhere parts id (λ k d b. none (suc k) d (omega arith)))

-- no part has the name, if none has its slot and role
pub trace-none : (parts : List PartState) (id : PartId) → HasNone parts id → trace_of parts id ≡ None
trace-none parts id none = trace-nowhere parts id (λ k d b. other-part (get_or parts k d) id (none k d b))

-- no part has the name, if the one with its slot and role has another life
pub trace-other : (parts : List PartState) (id : PartId) (place : ℕ) (part : PartState) → AreRising parts
    → IsPlaceOf parts id place → part ≡ get_or parts place part → is_part part.id id ≡ false →
    trace_of parts id ≡ None
trace-other parts id place part rising at read differs =
    trace-nowhere parts id (λ k d b. elim (cases_lt k place) [
      | (inl below) ↦ other-part (get_or parts k d) id (others parts id place rising at k d b (omega arith))
      | (inr above) ↦ elim (cases_lt place k) [
        | (inl later) ↦ other-part (get_or parts k d) id (others parts id place rising at k d b (omega arith))
        | (inr same) ↦
            let e : k ≡ place = omega arith in
            ap (λ n. is_part (get_or parts n d).id id) e
            ∙ ap (λ (p : PartState). is_part p.id id) (rank-read parts place part at.within read d) ∙ differs
      ]
    ])

-- the element at a place, with any default for places past the end
again : (xs : List PartState) (place : ℕ) (d : PartState) → place < length xs
    → get_or xs place d ≡ get_or xs place (get_or xs place d)
again xs place d within = get_or_default xs place d (get_or xs place d) within

-- An event at the part at a place is one at that part.
pub after-at : (parts : List PartState) (id : PartId) (event : Event) (place : ℕ) (d new : PartState) → AreRising parts
    → IsPartAt parts id place →
    new ≡ record { id = (get_or parts place d).id; trace = noted_if_taken (get_or parts place d).trace event }
    → set parts place new ≡ parts_after id event parts
after-at parts id event place d new rising at is =
    let here : is_part (get_or parts place d).id id ≡ true = at.here d in
    let one : new ≡ part_after id event (get_or parts place d) = is ∙ rw here refl in
    ap (set parts place) one ∙
    map-one (part_after id event) parts place (get_or parts place d) at.within (again parts place d at.within)
    (λ k e b other. let no =
    other-part (get_or parts k e) id (others parts id place rising (part-place parts id place at) k e b other) in
    rw no refl)

-- what is read at the place of a part, with any default
trace-read : (parts : List PartState) (id : PartId) (place : ℕ) (d : PartState) → AreRising parts
    → IsPartAt parts id place → trace_of parts id ≡ Some (get_or parts place d).trace
trace-read parts id place d rising at =
    trace-here parts id place (get_or parts place d) rising at (again parts place d at.within)

pub out-at : {A : Type 0}
    → (parts : List PartState) (id : PartId) (event : Event) (place : ℕ) (d : PartState) (o : List (StepOut A))
    → AreRising parts → IsPartAt parts id place →
    o ≡ outs_at id event (Some (get_or parts place d).trace) → o ≡ outs_at id event (trace_of parts id)
out-at parts id event place d o rising at is = is ∙ ap (outs_at id event) (sym (trace-read parts id place d rising at))

pub ended-at : (parts : List PartState) (id : PartId) (event : Event) (place : ℕ) (d : PartState) (ended : Bool)
    → AreRising parts → IsPartAt parts id place →
    ended ≡ has_ended (noted_if_taken (get_or parts place d).trace event)
    → IfSome (trace_of parts id) (λ kept. ended ≡ has_ended (noted_if_taken kept event))
ended-at parts id event place d ended rising at is =
    subst (λ t. IfSome t (λ kept. ended ≡ has_ended (noted_if_taken kept event)))
    (sym (trace-read parts id place d rising at)) is

-- A part that has a place is there.
pub part-stands : (parts : List PartState) (id : PartId) (place : ℕ) → AreRising parts → IsPartAt parts id place
    → is_none (trace_of parts id) ≡ false
part-stands [] id place rising at = absurd (omega (arith, at.within))
part-stands (part ∷ parts) id place rising at = ap is_none (trace-read (part ∷ parts) id place part rising at)

-- The table notes what the trace says.
pub reported-as : (table : TableState) (id : PartId) (event : Event) (t : Option Kept) (ended : Bool)
    → is_none t ≡ false →
    IfSome t (λ kept. ended ≡ has_ended (noted_if_taken kept event)) → (if ended then after_end table id else table)
    ≡ table_noted table id event t
reported-as table id event None ended there reported = absurd (cc)
reported-as table id event (Some kept) ended there reported = ap (λ b. if b then after_end table id else table) reported

-- the suite after an event at a part that has a place
pub suite-at : (suite : SuiteState) (id : PartId) (event : Event) (place : ℕ) (seen parts : List PartState)
    (table : TableState) (ended : Bool) → AreRising suite.parts → seen ≡ suite.parts →
    IsPartAt seen id place → parts ≡ parts_after id event suite.parts
    → IfSome (trace_of suite.parts id) (λ kept. ended ≡ has_ended (noted_if_taken kept event)) →
    table ≡ (if ended then after_end suite.table id else suite.table)
    → record { table = table; parts = parts; capacity = suite.capacity } ≡ suite_at suite id event
suite-at suite id event place seen parts table ended rising same at is reported after =
    let there = part-stands suite.parts id place rising (subst (λ ps. IsPartAt ps id place) same at) in
    let tables : table ≡ table_noted suite.table id event (trace_of suite.parts id) = after
    ∙ reported-as suite.table id event (trace_of suite.parts id) ended there reported in
    rw (tables, is) refl

-- No event is refused at a part that has a place.
pub not-refused : (suite : SuiteState) (id : PartId) (place : ℕ) (seen : List PartState) → AreRising suite.parts
    → seen ≡ suite.parts → IsPartAt seen id place → refusal_at suite id ≡ None
not-refused suite id place seen rising same at =
    let there = part-stands suite.parts id place rising (subst (λ ps. IsPartAt ps id place) same at) in
    rw there refl

pub refused : (suite : SuiteState) (id : PartId) (seen : List PartState) → seen ≡ suite.parts → trace_of seen id ≡ None
    → refusal_at suite id ≡ Some fault.NoSuchPart
refused suite id seen same none =
    let none' : trace_of suite.parts id ≡ None = ap (λ ps. trace_of ps id) (sym same) ∙ none in
    rw none' refl

-- Restarts

other-place : (new part : PartState) → rank part.id ≢ rank new.id → restarted_in (new ∷ []) part ≡ part
other-place new part other =
    let no : is_place new.id part.id ≡ false = is_place-rank new.id part.id ∙ (grind (arith, nat_tests)) in
    rw no refl

pub restarted-at : (parts : List PartState) (new : PartState) (place : ℕ) → AreRising parts
    → IsPlaceOf parts new.id place → set parts place new ≡ map (restarted_in (new ∷ [])) parts
restarted-at parts new place rising at =
    let old = get_or parts place new in
    let same : rank old.id ≡ rank new.id = at.here new in
    let yes : is_place new.id old.id ≡ true = is_place-rank new.id old.id ∙ (grind (arith, nat_tests)) in
    let one : restarted_in (new ∷ []) old ≡ new = rw yes refl in
    ap (set parts place) (sym one) ∙
    map-one (restarted_in (new ∷ [])) parts place old at.within (again parts place new at.within)
    (λ k e b other. other-place new (get_or parts k e) (others parts new.id place rising at k e b other))

pub restarted-nowhere : (parts : List PartState) (new : PartState) → HasNone parts new.id
    → parts ≡ map (restarted_in (new ∷ [])) parts
restarted-nowhere parts new none =
    sym (map-none (restarted_in (new ∷ [])) parts (λ k d b. other-place new (get_or parts k d) (none k d b)))

restarted-more : (new : PartState) (news parts : List PartState)
    → map (restarted_in news) (map (restarted_in (new ∷ [])) parts) ≡ map (restarted_in (new ∷ news)) parts
restarted-more new news [] = refl
restarted-more new news (part ∷ parts) = ap (λ xs. restarted_in (new ∷ news) part ∷ xs) (restarted-more new news parts)

-- The ranks do not change.
pub restarted-rising : (new : PartState) (parts : List PartState) → AreRising parts
    → AreRising (map (restarted_in (new ∷ [])) parts)
restarted-rising new parts rising i j d before within =
    let w : j < length parts = omega (arith, within, length-map parts (restarted_in (new ∷ []))) in
    let less : rank (get_or parts i d).id < rank (get_or parts j d).id = rising i j d before w in
    let one : (get_or (map (restarted_in (new ∷ [])) parts) i d) ≡ restarted_in (new ∷ []) (get_or parts i d) =
    get_or-map (restarted_in (new ∷ [])) parts i d d (omega (arith, before, w)) in
    let two : (get_or (map (restarted_in (new ∷ [])) parts) j d) ≡ restarted_in (new ∷ []) (get_or parts j d) =
    get_or-map (restarted_in (new ∷ [])) parts j d d w in
    omega (
      arith,
      less,
      ap (λ (p : PartState). rank p.id) one,
      ap (λ (p : PartState). rank p.id) two,
      same-rank (get_or parts i d),
      same-rank (get_or parts j d),
    )
  where
    same-rank : (part : PartState) → rank (restarted_in (new ∷ []) part).id ≡ rank part.id
    same-rank part =
        elim (is_place new.id part.id) as (λ b. is_place new.id part.id ≡ b → rank (if b then new else part).id
        ≡ rank part.id) [
          | true ↦ λ at. let e = is_place-rank new.id part.id in grind (arith, nat_tests)
          | false ↦ λ at. refl
        ] refl

-- one more part
pub restarted-step : (items rest : List PartState) (new : PartState) (parts parts' whole : List PartState)
    → items ≡ new ∷ rest → parts' ≡ map (restarted_in (new ∷ [])) parts →
    map (restarted_in items) parts ≡ whole → map (restarted_in rest) parts' ≡ whole
restarted-step items rest new parts parts' whole cut is so =
    ap (map (restarted_in rest)) is ∙ restarted-more new rest parts
    ∙ ap (λ news. map (restarted_in news) parts) (sym cut) ∙ so

-- no more parts
pub restarted-end : (items parts whole : List PartState) → length items ≡ 0 → map (restarted_in items) parts ≡ whole
    → parts ≡ whole
restarted-end [] parts whole none so = sym (map-none (restarted_in []) parts (λ k d b. refl)) ∙ so
restarted-end (item ∷ items) parts whole none so = absurd (omega (arith, none))

-- How a part that was read compares with another, as the comparison returns it

pub read-before : (parts : List PartState) (place : ℕ) (part : PartState) (id reported : PartId) (result : Bool)
    → place < length parts → part ≡ get_or parts place part → reported ≡ part.id →
    result ≡ nat_lt (rank reported) (rank id) → result ≡ true → (d : PartState)
    → rank (get_or parts place d).id < rank id
read-before parts place part id reported result within read is compared so d =
    let same : rank (get_or parts place d).id ≡ rank reported =
    ap (λ (p : PartState). rank p.id) (rank-read parts place part within read d) ∙ ap rank (sym is) in
    let less : rank reported < rank id = grind (arith, nat_tests) in
    omega (arith, same, less)

pub read-after : (parts : List PartState) (place : ℕ) (part : PartState) (id reported : PartId) (result : Bool)
    → place < length parts → part ≡ get_or parts place part → reported ≡ part.id →
    result ≡ nat_lt (rank reported) (rank id) → result ≡ false → (d : PartState)
    → rank id ≤ rank (get_or parts place d).id
read-after parts place part id reported result within read is compared so d =
    let same : rank (get_or parts place d).id ≡ rank reported =
    ap (λ (p : PartState). rank p.id) (rank-read parts place part within read d) ∙ ap rank (sym is) in
    let more : rank id ≤ rank reported = grind (arith, nat_tests) in
    omega (arith, same, more)

pub read-place : (parts : List PartState) (place : ℕ) (part : PartState) (id reported : PartId) (result : Bool)
    → place < length parts → part ≡ get_or parts place part → reported ≡ part.id →
    result ≡ (rank reported == rank id) → result ≡ true → IsPlaceOf parts id place
read-place parts place part id reported result within read is compared so = record {
  within = within;
  here = λ d.
      let same : rank (get_or parts place d).id ≡ rank reported =
      ap (λ (p : PartState). rank p.id) (rank-read parts place part within read d) ∙ ap rank (sym is) in
      let equal : rank reported ≡ rank id = grind (arith, nat_tests) in
      same ∙ equal;
}

pub read-other : (parts : List PartState) (place : ℕ) (part : PartState) (id reported : PartId) (result : Bool)
    → place < length parts → part ≡ get_or parts place part → reported ≡ part.id →
    result ≡ (rank reported == rank id) → result ≡ false → (d : PartState) → rank (get_or parts place d).id ≢ rank id
read-other parts place part id reported result within read is compared so d =
    let same : rank (get_or parts place d).id ≡ rank reported =
    ap (λ (p : PartState). rank p.id) (rank-read parts place part within read d) ∙ ap rank (sym is) in
    let apart : rank reported ≢ rank id = grind (arith, nat_tests) in
    λ e. apart (sym same ∙ e)

pub read-other-life : (parts : List PartState) (place : ℕ) (part : PartState) (id reported : PartId) (result : Bool)
    → AreRising parts → IsPlaceOf parts id place → part ≡ get_or parts place part → reported ≡ part.id →
    result ≡ is_part reported id → result ≡ false → trace_of parts id ≡ None
read-other-life parts place part id reported result rising at read is compared so =
    trace-other parts id place part rising at read (ap (λ (a : PartId). is_part a id) (sym is) ∙ sym compared ∙ so)
