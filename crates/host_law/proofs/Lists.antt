-- Lists of parts.
use Rattle.std.proofs.Common.{◌≡◌, true, false, true≢false, List, [], ◌∷◌, ◌++◌, map, refl, sym, ap, ◌∙◌, subst, None}
use Rattle.std.specs.List.{AllByRecursion}
use Rattle.scan_table.specs.declared.part.PartId.{PartId}
use Rattle.suite_core.specs.Parts.{is_part}
use Rattle.suite_core.proofs.Names.{is_part-same, is_part-self}
use Rattle.svc_host.specs.Parts.{HostPart}
use Rattle.tai_status.specs.Label.{Tai64n}
use Rattle.scan_table.specs.Order.{scan_refusal}
use Rattle.scan_table.specs.Slots.{Row}
use Rattle.suite_core.specs.Places.{IsSuite}
use Rattle.suite_core.specs.Suite.{SuiteState, scan_restarts, scan_starts}
use Rattle.svc_host.specs.declared.host.HostOut.{HostOut}
use Rattle.svc_host.specs.Rounds.{HostState, IsScanned}
use Rattle.host_law.specs.Alike.{part_of}
use Rattle.host_law.specs.Whole.{AreApart, Follows, StandsFor, ids_of}

-- what must be shown about a scan
abbrev pub ScansFollow : Type 0 → Type 0
ScansFollow A =
    (suite : SuiteState) (rows : List Row) (label : Tai64n) (out : HostOut) (old new : HostState)
    → StandsFor suite old → IsScanned old rows label out new → Follows A suite new

-- what a scan starts and restarts has ids of its own
abbrev pub ScanApart : Type 0
ScanApart =
    (suite : SuiteState) (rows : List Row) → IsSuite suite → scan_refusal suite.table rows ≡ None
    → AreApart (map part_of (scan_starts suite.table rows ++ scan_restarts suite.table rows))

-- ids that differ one way differ the other way
pub turned_round : (a b : PartId) → is_part a b ≡ false → is_part b a ≡ false
turned_round a b other =
    elim (is_part b a) as (λ t. is_part b a ≡ t → t ≡ false) [
      | true ↦ λ is.
          let self : is_part a b ≡ true = ap (λ (x : PartId). is_part a x) (is_part-same b a is) ∙ is_part-self a in
          absurd (true≢false (sym self ∙ other))
      | false ↦ λ is. refl
    ] refl

-- what holds for all ids holds for the one in the middle, and for the others
pub at_middle : (P : PartId → Type 0) (before : List HostPart) (part : HostPart) (after : List HostPart)
    → AllByRecursion P (ids_of (before ++ part ∷ after)) → P part.id
at_middle P [] part after all = all.0
at_middle P (x ∷ before) part after all = at_middle P before part after all.1

pub of_parts : (P : PartId → Type 0) (parts : List HostPart) → AllByRecursion P (ids_of parts)
    → AllByRecursion (λ (part : HostPart). P part.id) parts
of_parts P [] all = tt
of_parts P (part ∷ parts) all = (all.0, of_parts P parts all.1)

-- the others have other ids
pub others_before : (before : List HostPart) (part : HostPart) (after : List HostPart)
    → AreApart (ids_of (before ++ part ∷ after))
    → AllByRecursion (λ (other : HostPart). is_part part.id other.id ≡ false) before
others_before [] part after distinct = tt
others_before (x ∷ before) part after distinct = (
  turned_round x.id part.id (at_middle (λ (id : PartId). is_part x.id id ≡ false) before part after distinct.0),
  others_before before part after distinct.1,
)

pub others_after : (before : List HostPart) (part : HostPart) (after : List HostPart)
    → AreApart (ids_of (before ++ part ∷ after))
    → AllByRecursion (λ (other : HostPart). is_part part.id other.id ≡ false) after
others_after [] part after distinct = of_parts (λ (id : PartId). is_part part.id id ≡ false) after distinct.0
others_after (x ∷ before) part after distinct = others_after before part after distinct.1

pub all_both : (P Q R : HostPart → Type 0) (parts : List HostPart) → ((part : HostPart) → P part → Q part → R part)
    → AllByRecursion P parts → AllByRecursion Q parts → AllByRecursion R parts
all_both P Q R [] goes ps qs = tt
all_both P Q R (part ∷ parts) goes ps qs = (goes part ps.0 qs.0, all_both P Q R parts goes ps.1 qs.1)

-- one in the middle, and those around it
pub middle_of : (P : HostPart → Type 0) (before : List HostPart) (part : HostPart) (after : List HostPart)
    → AllByRecursion P (before ++ part ∷ after) → P part
middle_of P [] part after all = all.0
middle_of P (x ∷ before) part after all = middle_of P before part after all.1

pub after_middle : (P : HostPart → Type 0) (before : List HostPart) (part : HostPart) (after : List HostPart)
    → AllByRecursion P (before ++ part ∷ after) → AllByRecursion P after
after_middle P [] part after all = all.1
after_middle P (x ∷ before) part after all = after_middle P before part after all.1

pub before_middle : (P : HostPart → Type 0) (before : List HostPart) (part : HostPart) (after : List HostPart)
    → AllByRecursion P (before ++ part ∷ after) → AllByRecursion P before
before_middle P [] part after all = tt
before_middle P (x ∷ before) part after all = (all.0, before_middle P before part after all.1)

pub with_middle : (P : HostPart → Type 0) (before : List HostPart) (part : HostPart) (after : List HostPart)
    → AllByRecursion P before → P part → AllByRecursion P after → AllByRecursion P (before ++ part ∷ after)
with_middle P [] part after bs p cs = (p, cs)
with_middle P (x ∷ before) part after bs p cs = (bs.0, with_middle P before part after bs.1 p cs)

-- the ids, if one part is replaced by one with the same id
pub same_names : (before : List HostPart) (old new : HostPart) (after : List HostPart) → new.id ≡ old.id
    → ids_of (before ++ new ∷ after) ≡ ids_of (before ++ old ∷ after)
same_names [] old new after is = ap (λ (id : PartId). id ∷ ids_of after) is
same_names (x ∷ before) old new after is = ap (λ (ids : List PartId). x.id ∷ ids) (same_names before old new after is)
