-- A scan of a host is a scan of each suite with the same table.
use Rattle.std.proofs.Common.{◌≡◌, ℕ, Bool, true, false, not, ◌&&◌, ◌||◌, ◌==◌, List, [], ◌∷◌, ◌++◌, map, refl, sym}
use Rattle.std.proofs.Common.{subst, ap, ◌∙◌, arith, Option, Some, None}
use Rattle.std.specs.List.{filter, list_any}
use Rattle.std.proofs.lemmas.List.Elements.{All-weaker}
use Rattle.std.proofs.lemmas.Bool.Decides.{nat_tests}
use Rattle.tai_status.specs.Label.{Tai64n}
use Rattle.sup_core.specs.History.{Begin}
use Rattle.scan_table.specs.declared.part.PartId.{PartId}
use Rattle.scan_table.specs.declared.part.Role.{Role}
use Rattle.scan_table.specs.declared.table.ScanOut.{ScanOut}
use Rattle.scan_table.specs.Slots.{Row, SlotState, is_down}
use Rattle.scan_table.specs.Scan.{drops, restarts, starts}
use Rattle.scan_table.specs.Table.{TableState, scanned, slot_at}
use Rattle.suite_core.specs.Parts.{is_place}
use Rattle.suite_core.specs.Suite.{SuiteState, beginning, down_where, scan_out, scan_starts, scan_restarts}
use Rattle.suite_core.specs.Run.{is_taken_away}
use Rattle.svc_host.specs.declared.host.HostOut.{HostOut}
use Rattle.svc_host.specs.Parts.{HostPart, stays}
use Rattle.svc_host.specs.Begun.{Begins, IsBegun, row_at}
use Rattle.svc_record.specs.declared.opening.Opening.{Opening}
use Rattle.svc_record.specs.Opening.{beginning as begins_so}
use Rattle.svc_host.specs.Rounds.{HostState, IsParted, IsScan, IsScanned, staying, unmade_ids}
use Rattle.host_law.specs.Alike.{BeginsAlike, IsScanAlike, ScansAreAlike, part_of}

answer : {A : Type 0} (out : ScanOut A) (table : TableState) (rows : List Row) → IsScan table rows out
    → out ≡ scan_out table rows
answer out table rows is = rw (← is.starts, ← is.restarts, ← is.drops, ← is.refused) refl

-- Which parts stay

turned : (slots : List ℕ) (number : ℕ) → list_any (λ slot. slot == number) slots
    ≡ list_any (λ slot. number == slot) slots
turned [] number = refl
turned (slot ∷ slots) number =
    let same : (slot == number) ≡ (number == slot) = grind (arith, nat_tests) in
    rw (same, turned slots number) refl

neither : (a b : Bool) → (not a && not b) ≡ not (a || b)
neither true b = refl
neither false b = refl

pub stays-not : (suite : SuiteState) (rows : List Row) (part : PartId)
    → stays (drops suite.table.slots rows) (restarts suite.table.slots suite.table.next rows) part
    ≡ not (is_taken_away suite rows part)
stays-not suite rows part =
    rw (turned (drops suite.table.slots rows) part.slot)
    (neither (list_any (λ slot. part.slot == slot) (drops suite.table.slots rows))
    (list_any (λ (new : PartId). is_place new part) (restarts suite.table.slots suite.table.next rows)))

pub filtered : (f g : HostPart → Bool) (parts : List HostPart) → ((part : HostPart) → f part ≡ g part)
    → filter f parts ≡ filter g parts
filtered f g [] alike = refl
filtered f g (part ∷ parts) alike = rw (alike part, filtered f g parts alike) refl

-- How parts begin

down : (rows : List Row) (role : Role) (slot : Option SlotState) (row : Row) → row_at rows slot ≡ Some row
    → down_where rows role slot ≡ is_down role row
down rows role None row found = cc found
down rows role (Some slot) row found = rw found refl

begins : (suite : SuiteState) (rows : List Row) (label : Tai64n) (part : HostPart)
    → Begins (scanned suite.table rows).slots rows label part → BeginsAlike suite rows label part
begins suite rows label part is by_row =
    let slots = (scanned suite.table rows).slots in
    subst (λ (b : Bool). IsBegun part.id (Begin b label) part)
    (sym (down rows part.id.role (slot_at slots part.id.slot) is.row is.found))
    (subst (λ (o : Opening). IsBegun part.id (begins_so o (is_down part.id.role is.row) label) part) by_row is.begun)

-- All parts that begin

its_parts : (slots : List SlotState) (rows : List Row) (parts : List PartId)
    → map part_of (map (beginning slots rows) parts) ≡ parts
its_parts slots rows [] = refl
its_parts slots rows (part ∷ parts) = ap (λ (ps : List PartId). part ∷ ps) (its_parts slots rows parts)

pub joined : (slots : List SlotState) (rows : List Row) (xs ys : List PartId)
    → map part_of (map (beginning slots rows) xs ++ map (beginning slots rows) ys) ≡ xs ++ ys
joined slots rows [] ys = its_parts slots rows ys
joined slots rows (x ∷ xs) ys = ap (λ (ps : List PartId). x ∷ ps) (joined slots rows xs ys)

scans-same : (suite : SuiteState) (rows : List Row) (label : Tai64n) (old : HostState) (out : HostOut) (new : HostState)
    → IsScanned (record { table = suite.table; parts = old.parts; calls = old.calls }) rows label out new
    → IsScanAlike suite rows label old out new
scans-same suite rows label old out new is =
    let table = suite.table in
    let all : map part_of (scan_starts table rows ++ scan_restarts table rows) ≡ out.scan.starts ++ out.scan.restarts =
    joined (scanned table rows).slots rows (starts table.slots table.next rows) (restarts table.slots table.next rows)
    ∙ rw (is.scan.starts, is.scan.restarts) refl in
    let stay : staying out.scan old.parts ≡ filter (λ (part : HostPart). not (is_taken_away suite rows part.id))
    old.parts =
    rw (is.scan.drops, is.scan.restarts)
    (filtered (λ (part : HostPart). stays (drops table.slots rows) (restarts table.slots table.next rows) part.id)
    (λ (part : HostPart). not (is_taken_away suite rows part.id)) old.parts (λ part. stays-not suite rows part.id)) in
    record {
      answer = answer out.scan table rows is.scan;
      table = is.table;
      begun = is.begun.begun;
      parts = is.begun.parts ∙ ap (λ (parts : List HostPart). parts ++ is.begun.begun) stay;
      each = All-weaker (Begins (scanned table rows).slots rows label) (BeginsAlike suite rows label)
          (begins suite rows label)
          is.begun.begun is.begun.each;
      all = subst (λ (parts : List PartId). IsParted parts (map (λ (part : HostPart). part.id) is.begun.begun)
          (unmade_ids out.failed.items))
          (sym all) is.begun.parted;
    }

pub scans : ScansAreAlike
scans suite rows label old out new same is =
    scans-same suite rows label old out new
    (subst (λ (table : TableState). IsScanned
    (record { table = table; parts = old.parts; calls = old.calls }) rows label out new)
    (sym same) is)
