-- A scan of a host is some turns of each suite that stands for it.
use Rattle.std.proofs.Common.{◌≡◌, ℕ, ◌+◌, ◌<◌, ◌≤◌, zero, suc, Bool, true, false, not, List, [], ◌∷◌, ◌++◌}
use Rattle.std.proofs.Common.{map, length, refl, sym}
use Rattle.std.proofs.Common.{subst, ap, ◌∙◌, Option, Some, None, if◌then◌else◌, arith}
use Rattle.std.specs.List.{All, AllByRecursion, filter, list_any}
use Rattle.std.proofs.lemmas.List.{map-append}
use Rattle.std.proofs.lemmas.List.Elements.{All-append, recursion_from_All}
use Rattle.tai_status.specs.Label.{Tai64n}
use Rattle.sup_core.specs.State.{State, is_gone}
use Rattle.sup_core.specs.History.{Begin, state_of}
use Rattle.sup_trace.specs.Trace.{Kept, new_trace}
use Rattle.sup_trace.proofs.Lists.{AllByRecursion-joined, AllByRecursion-right}
use Rattle.scan_table.specs.declared.part.PartId.{PartId}
use Rattle.scan_table.specs.declared.table.ScanOut.{ScanOut}
use Rattle.scan_table.specs.Order.{scan_refusal}
use Rattle.scan_table.specs.Scan.{drops, needs, restarts, starts}
use Rattle.scan_table.specs.Slots.{Row, SlotState}
use Rattle.scan_table.specs.Table.{TableState, between, scanned}
use Rattle.scan_table.proofs.Given.{restarts-fresh, starts-fresh}
use Rattle.suite_lines.specs.declared.event.SuiteEvent.{SuiteEvent}
use Rattle.suite_lines.specs.declared.event.SuiteEvent.TheVariants.{Scan, At}
use Rattle.suite_core.specs.Parts.{is_part, trace_of}
use Rattle.suite_core.specs.Places.{IsSuite}
use Rattle.suite_core.specs.Run.{is_taken_away}
use Rattle.suite_core.specs.Suite.{SuiteState, Beginning, IsSuiteEvent, fault_of_scan, opening, scan_restarts}
use Rattle.suite_core.specs.Suite.{scan_starts}
use Rattle.suite_core.specs.Suite.{suite_scanned}
use Rattle.suite_core.proofs.Begins.{begins-as-rows-say}
use Rattle.suite_core.proofs.Names.{is_part-later}
use Rattle.suite_core.proofs.Runs.{IsSuite-scanned, life-below, trace_of-scanned}
use Rattle.svc_host.specs.declared.host.HostOut.{HostOut}
use Rattle.svc_host.specs.Begun.{Begins}
use Rattle.svc_host.specs.Calls.{Call}
use Rattle.svc_host.specs.Parts.{HostPart, stays}
use Rattle.svc_host.specs.Rounds.{HostState, IsScanned, after_ends, chosen, staying, unmade_ids}
use Rattle.host_law.specs.Alike.{part_of}
use Rattle.host_law.specs.Whole.{AreApart, Follows, IsTold, StandsFor, Takes, ids_of}
use Rattle.host_law.proofs.Lists.{ScanApart, ScansFollow, all_both, turned_round}
use Rattle.host_law.proofs.Scanning.{filtered, joined, stays-not}
use Rattle.host_law.proofs.Scanned.{Differs, HasBegun, IsJustBegun, Placed, placed, told_there}

-- What a suite's scan begins

all_scan : {A : Type 0} (rows : List Row) (label : Tai64n) → All (IsSuiteEvent {A = A}) (Scan rows label ∷ [])
all_scan rows label zero d less = tt
all_scan rows label (suc k) d less = absurd (omega (arith, less))

begun_so : (suite : SuiteState) (rows : List Row) (label : Tai64n) → IsSuite suite
    → scan_refusal suite.table rows ≡ None
    → All (λ (b : Beginning). trace_of (suite_scanned suite rows label).parts b.part
    ≡ Some (new_trace (state_of (opening label b)) suite.capacity))
    (scan_starts suite.table rows ++ scan_restarts suite.table rows)
begun_so suite rows label is free =
    begins-as-rows-say {A = Unit {0}} suite (Scan rows label ∷ []) 1 is (all_scan {A = Unit {0}} rows label)
    (ap fault_of_scan free, tt) 0 rows label (omega arith) refl

as_begun : (s : SuiteState) (label : Tai64n) (bs : List Beginning)
    → AllByRecursion (λ (b : Beginning). trace_of s.parts b.part
    ≡ Some (new_trace (state_of (opening label b)) s.capacity)) bs
    → AllByRecursion (IsJustBegun s) (map part_of bs)
as_begun s label [] all = tt
as_begun s label (b ∷ bs) all =
    (record { down = b.down; label = label; trace = all.0 }, as_begun s label bs all.1)

-- Parts that stay

module _ (f : HostPart → Bool) where
  filtered_ids : (P : PartId → Type 0) (parts : List HostPart) → AllByRecursion P (ids_of parts)
      → AllByRecursion P (ids_of (filter f parts))
  filtered_ids P [] all = tt
  filtered_ids P (part ∷ parts) all =
      elim (f part) as (λ b. AllByRecursion P (ids_of (if b then part ∷ filter f parts else filter f parts))) [
        | true ↦ (all.0, filtered_ids P parts all.1)
        | false ↦ filtered_ids P parts all.1
      ]

  filtered_apart : (parts : List HostPart) → AreApart (ids_of parts) → AreApart (ids_of (filter f parts))
  filtered_apart [] apart = tt
  filtered_apart (part ∷ parts) apart =
      elim (f part) as (λ b. AreApart (ids_of (if b then part ∷ filter f parts else filter f parts))) [
        | true ↦ (
          filtered_ids (λ (other : PartId). is_part part.id other ≡ false) parts apart.0,
          filtered_apart parts apart.1,
        )
        | false ↦ filtered_apart parts apart.1
      ]

staying_told : (suite : SuiteState) (rows : List Row) (label : Tai64n) (parts : List HostPart) → IsSuite suite
    → AllByRecursion (IsTold suite) parts
    → AllByRecursion (IsTold (suite_scanned suite rows label))
    (filter (λ (part : HostPart). not (is_taken_away suite rows part.id)) parts)
staying_told suite rows label [] is all = tt
staying_told suite rows label (part ∷ parts) is all =
    let s = suite_scanned suite rows label in
    let rest = staying_told suite rows label parts is all.1 in
    elim (is_taken_away suite rows part.id) as (λ b. is_taken_away suite rows part.id ≡ b
    → AllByRecursion (IsTold (suite_scanned suite rows label))
    (if not b then part ∷ filter (λ (part : HostPart). not (is_taken_away suite rows part.id)) parts
    else filter (λ (part : HostPart). not (is_taken_away suite rows part.id)) parts)) [
      | true ↦ λ gone. rest
      | false ↦ λ here. (
        told_there suite s part refl
            (trace_of-scanned suite rows label part.id (life-below suite part.id _ is all.0.trace)
            ∙ ap (λ (b : Bool). if b then None else trace_of suite.parts part.id) here) all.0,
        rest,
      )
    ] refl

lives_below : (suite : SuiteState) (parts : List HostPart) → IsSuite suite → AllByRecursion (IsTold suite) parts
    → AllByRecursion (λ (id : PartId). id.life < suite.table.next) (ids_of parts)
lives_below suite [] is all = tt
lives_below suite (part ∷ parts) is all =
    (life-below suite part.id _ is all.0.trace, lives_below suite parts is all.1)

-- Ids by their lives

cross_one : (n : ℕ) (id : PartId) (parts : List HostPart) → n ≤ id.life
    → AllByRecursion (λ (i : PartId). i.life < n) (ids_of parts) → AllByRecursion (Differs id) parts
cross_one n id [] above all = tt
cross_one n id (part ∷ parts) above all =
    (is_part-later id part.id (omega (arith, above, all.0)), cross_one n id parts above all.1)

cross_all : (n : ℕ) (ids : List PartId) (parts : List HostPart) → AllByRecursion (λ (i : PartId). n ≤ i.life) ids
    → AllByRecursion (λ (i : PartId). i.life < n) (ids_of parts)
    → AllByRecursion (λ (id : PartId). AllByRecursion (Differs id) parts) ids
cross_all n [] parts above below = tt
cross_all n (id ∷ ids) parts above below =
    (cross_one n id parts above.0 below, cross_all n ids parts above.1 below)

pub each_life : (n : ℕ) (x : PartId) (ys : List PartId) → x.life < n → AllByRecursion (λ (i : PartId). n ≤ i.life) ys
    → AllByRecursion (λ (y : PartId). is_part x y ≡ false) ys
each_life n x [] below above = tt
each_life n x (y ∷ ys) below above =
    (turned_round y x (is_part-later y x (omega (arith, below, above.0))), each_life n x ys below above.1)

pub apart_by_life : (n : ℕ) (xs ys : List PartId) → AreApart xs → AreApart ys
    → AllByRecursion (λ (i : PartId). i.life < n) xs → AllByRecursion (λ (i : PartId). n ≤ i.life) ys
    → AreApart (xs ++ ys)
apart_by_life n [] ys one two below above = two
apart_by_life n (x ∷ xs) ys one two below above = (
  AllByRecursion-joined (λ (y : PartId). is_part x y ≡ false) xs ys one.0 (each_life n x ys below.0 above),
  apart_by_life n xs ys one.1 two below.1 above,
)

chosen_all : (P : PartId → Type 0) (flags : List Bool) (ids : List PartId) → AllByRecursion P ids
    → AllByRecursion P (chosen flags ids)
chosen_all P [] ids all = tt
chosen_all P (true ∷ flags) [] all = tt
chosen_all P (false ∷ flags) [] all = tt
chosen_all P (true ∷ flags) (id ∷ ids) all = (all.0, chosen_all P flags ids all.1)
chosen_all P (false ∷ flags) (id ∷ ids) all = chosen_all P flags ids all.1

chosen_apart : (flags : List Bool) (ids : List PartId) → AreApart ids → AreApart (chosen flags ids)
chosen_apart [] ids all = tt
chosen_apart (true ∷ flags) [] all = tt
chosen_apart (false ∷ flags) [] all = tt
chosen_apart (true ∷ flags) (id ∷ ids) all =
    (chosen_all (λ (other : PartId). is_part id other ≡ false) flags ids all.0, chosen_apart flags ids all.1)
chosen_apart (false ∷ flags) (id ∷ ids) all = chosen_apart flags ids all.1

above_of : (n high : ℕ) (ids : List PartId) → AllByRecursion (between n high) ids
    → AllByRecursion (λ (i : PartId). n ≤ i.life) ids
above_of n high [] all = tt
above_of n high (id ∷ ids) all = (all.0.0, above_of n high ids all.1)

-- Parts that begin

begun_fresh : (slots : List SlotState) (rows : List Row) (label : Tai64n) (begun : List HostPart)
    → AllByRecursion (Begins slots rows label) begun → AllByRecursion HasBegun begun
begun_fresh slots rows label [] each = tt
begun_fresh slots rows label (part ∷ begun) each = (
  record { alive = each.0.begun.alive; known = each.0.begun.known; runs = each.0.begun.has_ended },
  begun_fresh slots rows label begun each.1,
)

module _ (A : Type 0) (apart : ScanApart) (suite : SuiteState) (rows : List Row) (label : Tai64n) (out : HostOut)
    (olds : List HostPart) (calls : Option (List Call)) (new : HostState) (suite_is : IsSuite suite)
    (apart_olds : AreApart (ids_of olds)) (told : AllByRecursion (IsTold suite) olds)
    (is : IsScanned (record { table = suite.table; parts = olds; calls = calls }) rows label out new) where
  free : scan_refusal suite.table rows ≡ None
  free = is.accepted

  abbrev table : TableState
  table = suite.table

  abbrev s : SuiteState
  s = suite_scanned suite rows label

  abbrev all_ids : List PartId
  all_ids = map part_of (scan_starts table rows ++ scan_restarts table rows)

  abbrev stay : List HostPart
  stay = filter (λ (part : HostPart). not (is_taken_away suite rows part.id)) olds

  abbrev begun : List HostPart
  begun = is.begun.begun

  abbrev flags : List Bool
  flags = is.begun.parted.flags

  ids_are : out.scan.starts ++ out.scan.restarts ≡ all_ids
  ids_are =
      sym (joined (scanned table rows).slots rows (starts table.slots table.next rows)
      (restarts table.slots table.next rows)
      ∙ rw (is.scan.starts, is.scan.restarts) refl)

  stay_is : staying out.scan olds ≡ stay
  stay_is =
      rw (is.scan.drops, is.scan.restarts)
      (filtered (λ (part : HostPart). stays (drops table.slots rows) (restarts table.slots table.next rows) part.id)
      (λ (part : HostPart). not (is_taken_away suite rows part.id)) olds (λ part. stays-not suite rows part.id))

  parts_are : new.parts ≡ stay ++ begun
  parts_are = is.begun.parts ∙ ap (λ (parts : List HostPart). parts ++ begun) stay_is

  set : ids_of begun ≡ chosen flags all_ids
  set = is.begun.parted.set ∙ ap (chosen flags) ids_are

  not_set : unmade_ids out.failed.items ≡ chosen (map not flags) all_ids
  not_set = is.begun.parted.not_set ∙ ap (chosen (map not flags)) ids_are

  count : length flags ≡ length all_ids
  count = is.begun.parted.each ∙ ap length ids_are

  above : AllByRecursion (λ (i : PartId). table.next ≤ i.life) all_ids
  above =
      subst (AllByRecursion (λ (i : PartId). table.next ≤ i.life))
      (sym (joined (scanned table rows).slots rows (starts table.slots table.next rows)
      (restarts table.slots table.next rows)))
      (above_of table.next (table.next + needs table.slots rows)
      (starts table.slots table.next rows ++ restarts table.slots table.next rows)
      (recursion_from_All (between table.next (table.next + needs table.slots rows))
      (starts table.slots table.next rows ++ restarts table.slots table.next rows)
      (All-append (between table.next (table.next + needs table.slots rows)) (starts table.slots table.next rows)
      (restarts table.slots table.next rows) (starts-fresh table.slots table.next rows)
      (restarts-fresh table.slots table.next rows))))

  below : AllByRecursion (λ (i : PartId). i.life < table.next) (ids_of stay)
  below =
      filtered_ids (λ (part : HostPart). not (is_taken_away suite rows part.id))
      (λ (i : PartId). i.life < table.next) olds (lives_below suite olds suite_is told)

  put : Placed A s (chosen (map not flags) all_ids) stay begun
  put =
      placed A s flags all_ids stay begun count set (apart suite rows suite_is free)
      (cross_all table.next all_ids stay above below) (IsSuite-scanned suite rows label suite_is)
      (as_begun s label (scan_starts table rows ++ scan_restarts table rows)
      (recursion_from_All _ (scan_starts table rows ++ scan_restarts table rows)
      (begun_so suite rows label suite_is free)))
      (staying_told suite rows label olds suite_is told)
      (begun_fresh (scanned table rows).slots rows label begun
      (recursion_from_All (Begins (scanned table rows).slots rows label) begun is.begun.each))

  pub follows : Follows A suite new
  follows = record {
    turns = Takes (Scan rows label) ∷ put.turns;
    accepted = (ap fault_of_scan free, put.accepted);
    stands = record {
      suite_is = put.suite_is;
      table = put.table ∙ ap (λ (ids : List PartId). after_ends ids (scanned table rows)) (sym not_set) ∙ sym is.table;
      apart = subst (λ (parts : List HostPart). AreApart (ids_of parts)) (sym parts_are)
          (subst AreApart (sym (map-append (λ (part : HostPart). part.id) stay begun))
          (apart_by_life table.next (ids_of stay) (ids_of begun)
          (filtered_apart (λ (part : HostPart). not (is_taken_away suite rows part.id)) olds apart_olds)
          (subst AreApart (sym set) (chosen_apart flags all_ids (apart suite rows suite_is free)))
          below
          (subst (AllByRecursion (λ (i : PartId). table.next ≤ i.life)) (sym set)
          (chosen_all (λ (i : PartId). table.next ≤ i.life) flags all_ids above))));
      parts = subst (AllByRecursion (IsTold _)) (sym parts_are)
          (AllByRecursion-joined (IsTold _) stay begun put.stay_told put.begun_told);
    };
  }

pub scans_follow : (A : Type 0) → ScanApart → ScansFollow A
scans_follow A apart suite rows label out old new stands sc =
    follows A apart suite rows label out old.parts old.calls new stands.suite_is stands.apart stands.parts
    (subst (λ (t : TableState). IsScanned (record { table = t; parts = old.parts; calls = old.calls }) rows label out
    new) (sym stands.table) sc)
