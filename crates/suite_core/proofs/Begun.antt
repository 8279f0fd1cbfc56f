-- The parts that a scan begins.
use Rattle.std.proofs.Common.{◌≡◌, ℕ, ◌+◌, ◌<◌, Bool, List, [], ◌∷◌, ◌++◌, length, get_or, map, drop, sym, ap, ◌∙◌}
use Rattle.std.proofs.Common.{refl, arith, suc, append_assoc}
use Rattle.std.proofs.Math.Seq.{drop-cons}
use Rattle.tai_status.specs.Label.{Tai64n}
use Rattle.scan_table.specs.declared.part.PartId.{PartId}
use Rattle.scan_table.specs.Slots.{Row, SlotState}
use Rattle.suite_lines.specs.declared.out.Begun.{Begun}
use Rattle.suite_core.specs.Parts.{PartState}
use Rattle.scan_table.specs.Table.{TableState, scanned}
use Rattle.scan_table.specs.Scan.{drops}
use Rattle.suite_core.specs.Suite.{SuiteState, Beginning, beginning, beginnings, begun_part, begun_out, scan_starts}
use Rattle.suite_core.specs.Suite.{scan_restarts, changed, parts_scanned, suite_scanned}

-- A part that begins with this flag begins as its row says, if the flag is the row's.
pub begun-as : (capacity : ℕ) (label : Tai64n) (slots : List SlotState) (rows : List Row) (id : PartId) (down : Bool)
    (part : PartState) →
    part ≡ begun_part capacity label (record { part = id; down = down }) → down ≡ (beginning slots rows id).down
    → part ≡ begun_part capacity label (beginning slots rows id)
begun-as capacity label slots rows id down part is same = is
    ∙ ap (λ d. begun_part capacity label (record { part = id; down = d })) same

pub said-as : (label : Tai64n) (slots : List SlotState) (rows : List Row) (id : PartId) (down : Bool) (said : Begun) →
    said ≡ begun_out label (record { part = id; down = down }) → down ≡ (beginning slots rows id).down
    → said ≡ begun_out label (beginning slots rows id)
said-as label slots rows id down said is same = is ∙ ap (λ d. begun_out label (record { part = id; down = d })) same

-- one more element
pub pushed : {T : Type 0} (made more : List T) (item whole : T) → more ≡ made ++ item ∷ [] → item ≡ whole
    → more ≡ made ++ whole ∷ []
pushed made more item whole is same = is ∙ ap (λ x. made ++ x ∷ []) same

-- One more element of a list that is mapped twice. What is made and what is left stay the whole.
pub map-more : {X Y Z : Type 0} (f : Y → Z) (h : X → Y) (xs : List X) (i : ℕ) (d : X) (made more whole : List Z)
    → i < length xs →
    made ++ map f (map h (drop i xs)) ≡ whole → more ≡ made ++ f (h (get_or xs i d)) ∷ []
    → more ++ map f (map h (drop (i + 1) xs)) ≡ whole
map-more f h xs i d made more whole within so here =
    let e : suc i ≡ i + 1 = omega arith in
    let cut : drop i xs ≡ get_or xs i d ∷ drop (i + 1) xs = drop-cons xs i d within
    ∙ ap (λ n. get_or xs i d ∷ drop n xs) e in
    ap (λ l. l ++ map f (map h (drop (i + 1) xs))) here
    ∙ append_assoc made (f (h (get_or xs i d)) ∷ []) (map f (map h (drop (i + 1) xs)))
    ∙ ap (λ l. made ++ map f (map h l)) (sym cut) ∙ so

-- The parts that a scan begins, in the words of the table after it and of its result

pub parts-as : (table after : TableState) (rows : List Row) (capacity : ℕ) (label : Tai64n) (seen ids : List PartId)
    (parts : List PartState) → after ≡ scanned table rows → seen ≡ ids →
    parts ≡ map (begun_part capacity label) (map (beginning after.slots rows) seen)
    → parts ≡ map (begun_part capacity label) (beginnings table rows ids)
parts-as table after rows capacity label seen ids parts scan same is =
    is ∙ ap (λ (t : TableState). map (begun_part capacity label) (map (beginning t.slots rows) seen)) scan
    ∙ ap (λ l. map (begun_part capacity label) (beginnings table rows l)) same

out-append : (label : Tai64n) (xs ys : List Beginning) → map (begun_out label) xs ++ map (begun_out label) ys
    ≡ map (begun_out label) (xs ++ ys)
out-append label [] ys = refl
out-append label (x ∷ xs) ys = ap (λ l. begun_out label x ∷ l) (out-append label xs ys)

pub begun-all : (table after : TableState) (rows : List Row) (label : Tai64n)
    (first second begins restarts : List PartId) (none begun more : List Begun) → after ≡ scanned table rows →
    first ≡ begins → second ≡ restarts → none ≡ []
    → begun ≡ none ++ map (begun_out label) (map (beginning after.slots rows) first) →
    more ≡ begun ++ map (begun_out label) (map (beginning after.slots rows) second) →
    more ≡ map (begun_out label) (beginnings table rows begins ++ beginnings table rows restarts)
begun-all table after rows label first second begins restarts none begun more scan one two empty is then_is =
    then_is
    ∙ ap (λ l. l ++ map (begun_out label) (map (beginning after.slots rows) second)) (is
    ∙ ap (λ l. l ++ map (begun_out label) (map (beginning after.slots rows) first)) empty)
    ∙ ap (λ (t : TableState). map (begun_out label) (map (beginning t.slots rows) first)
    ++ map (begun_out label) (map (beginning t.slots rows) second)) scan
    ∙ ap (λ l. map (begun_out label) (beginnings table rows l) ++ map (begun_out label) (beginnings table rows second))
    one
    ∙ ap (λ l. map (begun_out label) (beginnings table rows begins) ++ map (begun_out label) (beginnings table rows l))
    two
    ∙ out-append label (beginnings table rows begins) (beginnings table rows restarts)

-- the suite after a scan
pub suite-scanned : (suite : SuiteState) (rows : List Row) (label : Tai64n) (capacity : ℕ) (table : TableState)
    (dropped : List ℕ) (started restarted seen parts : List PartState) →
    capacity ≡ suite.capacity → table ≡ scanned suite.table rows → dropped ≡ drops suite.table.slots rows
    → started ≡ map (begun_part suite.capacity label) (scan_starts suite.table rows) →
    restarted ≡ map (begun_part suite.capacity label) (scan_restarts suite.table rows) → seen ≡ suite.parts
    → parts ≡ changed dropped started restarted seen →
    record { table = table; parts = parts; capacity = capacity } ≡ suite_scanned suite rows label
suite-scanned suite rows label capacity table dropped started restarted seen parts room scan drop start restart same
    is =
    let all : parts ≡ parts_scanned suite rows label =
    is ∙ ap (λ d. changed d started restarted seen) drop
    ∙ ap (λ l. changed (drops suite.table.slots rows) l restarted seen) start
    ∙ ap (λ l. changed (drops suite.table.slots rows)
    (map (begun_part suite.capacity label) (scan_starts suite.table rows)) l seen) restart
    ∙ ap (changed (drops suite.table.slots rows) (map (begun_part suite.capacity label) (scan_starts suite.table rows))
    (map (begun_part suite.capacity label) (scan_restarts suite.table rows))) same in
    rw (room, scan, all) refl
