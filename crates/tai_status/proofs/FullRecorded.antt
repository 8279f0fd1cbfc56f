-- A full status and its record.
use Rattle.std.proofs.Common.{◌≡◌, ◌↔◌, ℕ, ◌==◌, Bool, true, false, List, [], ◌∷◌, ◌++◌, append_assoc, drop-cons}
use Rattle.std.proofs.Common.{length, take, drop, slice_index, Some, Result, Ok, Err, refl, sym, subst, ap, ◌∙◌, arith}
use Rattle.std.specs.Prelude.{IfOk, if◌then◌else◌}
use Rattle.std.proofs.lemmas.List.{take-append-drop}
use Rattle.std.proofs.Math.ListN.{drop_of_length-le}
use Rattle.hex.specs.Hex.{IsBytes}
use Rattle.tai_status.specs.Record.{Status, IsStatus, IsRecord, flag_byte}
use Rattle.tai_status.specs.Decoding.{status_from}
use Rattle.tai_status.specs.Phase.{phase_byte, phase_from}
use Rattle.tai_status.specs.Full.{FullStatus, StandsIn, stands_in, IsFull, IsFullRecord, full_of_parts, full_record}
use Rattle.tai_status.specs.Full.{full_with}
use Rattle.tai_status.specs.Loading.{IsLoaded, full_from, if_stands, loaded_from, old_from}
use Rattle.tai_status.specs.declared.phase.Phase.{Phase}
use Rattle.tai_status.specs.declared.phase.Phase.TheVariants as phase
use Rattle.tai_status.specs.declared.loading.Loaded.{Loaded}
use Rattle.tai_status.specs.declared.loading.Loaded.TheVariants.{Old, New}
use Rattle.tai_status.specs.declared.record.RecordFault.{RecordFault}
use Rattle.tai_status.proofs.Packed.{IsBytes-take}
use Rattle.tai_status.proofs.Recorded.{found_recorded, record-status_record, IsRecord-status_record, status_from-record}
use Rattle.tai_status.proofs.Standing.{stands_in-decides}

-- Whatever has this record is read.

phase_from-byte : (p : Phase) → phase_from (phase_byte p) ≡ Some p
phase_from-byte phase.Starting = refl
phase_from-byte phase.Settling = refl
phase_from-byte phase.Resting = refl
phase_from-byte phase.Up = refl
phase_from-byte phase.Down = refl
phase_from-byte phase.Gone = refl

stands_so : (s : Status) (p : Phase) (x : Bool) → StandsIn p s x → full_of_parts s p x ≡ Some (full_with s p x)
stands_so s p x stands = rw ((stands_in-decides p s x).0 stands) refl

full_are : (s : Status) (p : Phase) (x : Bool) → StandsIn p s x
    → full_from (Ok s) (flag_byte x) (phase_byte p) ≡ Ok (New (full_with s p x))
full_are s p true stands = rw (phase_from-byte p) (ap if_stands (stands_so s p true stands))
full_are s p false stands = rw (phase_from-byte p) (ap if_stands (stands_so s p false stands))

pub loaded_from-full : (bytes : List ℕ) (full : FullStatus) → IsFull full → IsFullRecord bytes full
    → loaded_from bytes ≡ Ok (New full)
unfolding loaded_from
loaded_from-full bytes full is r =
    let front = status_from-record (take 18 bytes) full.status is.status r.status in
    rw (r.size, front, r.exiting, r.phase) (full_are full.status full.phase full.exiting is.stands)

pub loaded_from-old : (bytes : List ℕ) (status : Status) → IsStatus status → IsRecord bytes status
    → loaded_from bytes ≡ Ok (Old status)
unfolding loaded_from
loaded_from-old bytes status is r =
    let front = status_from-record bytes status is r in
    rw (r.size, front) refl

pub loaded_from-record : (bytes : List ℕ) (loaded : Loaded) → IsLoaded bytes loaded → loaded_from bytes ≡ Ok loaded
loaded_from-record bytes (Old status) is = loaded_from-old bytes status is.0 is.1
loaded_from-record bytes (New full) is = loaded_from-full bytes full is.0 is.1

-- Whatever is read has this record.

-- the parts of a full status that was read
record HasParts (full : FullStatus) (status : Status) (exiting phase : ℕ) : Type 0 where
  status_is : full.status ≡ status
  exiting_is : flag_byte full.exiting ≡ exiting
  phase_is : phase_byte full.phase ≡ phase
  stands : stands_in full.phase full.status full.exiting ≡ true

parts_read : (status : Status) (exiting phase : ℕ) (loaded : Loaded) → full_from (Ok status) exiting phase ≡ Ok loaded
    → (full : FullStatus) × (loaded ≡ New full) × HasParts full status exiting phase
parts_read status exiting phase loaded h = grind (arith)

full_read : (bytes : List ℕ) (r : Result Status RecordFault) (loaded : Loaded) → IsBytes bytes → length bytes ≡ 20
    → r ≡ status_from (take 18 bytes) → full_from r (slice_index bytes 18) (slice_index bytes 19) ≡ Ok loaded
    → IsLoaded bytes loaded
full_read bytes (Err fault) loaded fits size is h = cc h
full_read bytes (Ok status) loaded fits size is h =
    let front = found_recorded (take 18 bytes) (Ok status) (IsBytes-take 18 bytes fits) is in
    let parts = parts_read status (slice_index bytes 18) (slice_index bytes 19) loaded h in
    let has = parts.2 in
    let status_so = subst (λ (s : Status). IsStatus s × IsRecord (take 18 bytes) s) (sym has.status_is) front in
    subst (IsLoaded bytes) (sym parts.1) (
      record { status = status_so.0; stands = (stands_in-decides _ _ _).1 has.stands },
      record { size = size; status = status_so.1; exiting = sym has.exiting_is; phase = sym has.phase_is },
    )

old_read : (bytes : List ℕ) (r : Result Status RecordFault) (loaded : Loaded) → IsBytes bytes → r ≡ status_from bytes
    → old_from r ≡ Ok loaded → IsLoaded bytes loaded
old_read bytes (Err fault) loaded fits is h = cc h
old_read bytes (Ok status) loaded fits is h =
    let same : Old status ≡ loaded = cc h in
    subst (IsLoaded bytes) same (found_recorded bytes (Ok status) fits is)

loaded : (bytes : List ℕ) (found : Loaded) → IsBytes bytes → loaded_from bytes ≡ Ok found → IsLoaded bytes found
unfolding loaded_from
loaded bytes found fits h =
    elim (length bytes == 20) as (λ t. (length bytes == 20) ≡ t
    → (if t then full_from (status_from (take 18 bytes)) (slice_index bytes 18) (slice_index bytes 19) else old_from
    (status_from bytes)) ≡ Ok found
    → IsLoaded bytes found) [
      | true ↦ λ is. full_read bytes (status_from (take 18 bytes)) found fits (grind (arith, is)) refl
      | false ↦ λ is. old_read bytes (status_from bytes) found fits refl
    ] refl h

pub found_loaded : (bytes : List ℕ) (r : Result Loaded RecordFault) → IsBytes bytes → r ≡ loaded_from bytes
    → IfOk r (λ found. IsLoaded bytes found)
found_loaded bytes (Ok found) fits e = loaded bytes found fits (sym e)
found_loaded bytes (Err fault) fits e = tt

-- The one full record

in_rows : (xs : List ℕ) → length xs ≡ 20 → xs ≡ take 18 xs ++ (slice_index xs 18 ∷ []) ++ (slice_index xs 19 ∷ [])
in_rows xs size =
    let last : drop 18 xs ≡ slice_index xs 18 ∷ slice_index xs 19 ∷ [] =
    drop-cons xs 18 0 (omega (arith, size)) ∙ ap (λ (ys : List ℕ). slice_index xs 18 ∷ ys)
    (drop-cons xs 19 0 (omega (arith, size))
    ∙ ap (λ (ys : List ℕ). slice_index xs 19 ∷ ys) (drop_of_length-le xs {i = 20} (omega (arith, size)))) in
    sym (take-append-drop 18 xs) ∙ ap (λ (ys : List ℕ). take 18 xs ++ ys) last
    ∙ sym (append_assoc (take 18 xs) (slice_index xs 18 ∷ []) (slice_index xs 19 ∷ []))

pub record-full_record : (bytes : List ℕ) (full : FullStatus) → IsFullRecord bytes full → bytes ≡ full_record full
record-full_record bytes full r =
    let front = record-status_record (take 18 bytes) full.status r.status in
    rw (in_rows bytes r.size, front, r.exiting, r.phase) refl

pub IsFullRecord-full_record : (full : FullStatus) → IsFullRecord (full_record full) full
IsFullRecord-full_record full =
    record { size = refl; status = IsRecord-status_record full.status; exiting = refl; phase = refl }

pub one_full_record : (bytes : List ℕ) (full : FullStatus) → IsFullRecord bytes full ↔ (bytes ≡ full_record full)
one_full_record bytes full = (
  record-full_record bytes full,
  λ e. subst (λ (bs : List ℕ). IsFullRecord bs full) (sym e) (IsFullRecord-full_record full),
)
