-- A status and its record.
use Rattle.std.proofs.Common.{◌≡◌, ◌↔◌, ℕ, ◌<◌, ◌==◌, ◌^◌, Bool, true, false, List, [], ◌∷◌, ◌++◌, append_assoc}
use Rattle.std.proofs.Common.{drop-cons, length, take, drop, slice_index, Some, Result, Ok, Err, refl, sym, subst, ap}
use Rattle.std.proofs.Common.{◌∙◌, arith, length-drop}
use Rattle.std.specs.Prelude.{IfOk}
use Rattle.std.specs.Int.{w32, from_le_bytes}
use Rattle.std.proofs.lemmas.List.{length-take-le, take-append-drop}
use Rattle.std.proofs.Math.Seq.{take-add}
use Rattle.std.proofs.Math.ListN.{drop_of_length-le}
use Rattle.std.proofs.lemmas.Nat.{le_bytes_4, from_le_bytes-to_le_bytes_4}
use Rattle.hex.specs.Hex.{IsBytes}
use Rattle.tai_status.specs.Label.{Tai64n, IsLabel, packed}
use Rattle.tai_status.specs.Record.{Status, IsStatus, IsRecord, flag_byte, want_byte, status_record}
use Rattle.tai_status.specs.Reading.{from_packed}
use Rattle.tai_status.specs.Decoding.{status_from, from_fields, with_want, want_from}
use Rattle.tai_status.specs.declared.label.LabelFault.{LabelFault}
use Rattle.tai_status.specs.declared.record.RecordFault.{RecordFault}
use Rattle.tai_status.specs.declared.record.Want.{Want}
use Rattle.tai_status.specs.declared.record.Want.TheVariants.{Up, Down, Once}
use Rattle.tai_status.proofs.Packed.{from_packed-packed, packed-from_packed, IsBytes-take, IsBytes-drop}

-- Whatever has this record is read.

want_from-byte : (want : Want) → want_from (want_byte want) ≡ Some want
want_from-byte Up = refl
want_from-byte Down = refl
want_from-byte Once = refl

fields_are : (label : Tai64n) (pid : ℕ) (paused : Bool) (want : Want) → (paused ≡ true → 0 < pid)
    → from_fields (Ok label) pid (flag_byte paused) (want_byte want)
    ≡ Ok (record { label = label; pid = pid; paused = paused; want = want })
fields_are label pid true want h =
    let some : (pid == 0) ≡ false = let p = h refl in grind (arith, p) in
    rw some (ap (with_want label pid true) (want_from-byte want))
fields_are label pid false want h = ap (with_want label pid false) (want_from-byte want)

pub status_from-record : (bytes : List ℕ) (status : Status) → IsStatus status → IsRecord bytes status
    → status_from bytes ≡ Ok status
unfolding status_from
status_from-record bytes status is r =
    let label : from_packed (take 12 bytes) ≡ Ok status.label = ap from_packed r.label
    ∙ from_packed-packed status.label is.label in
    let pid : from_le_bytes w32 (take 4 (drop 12 bytes)) ≡ status.pid =
    ap (from_le_bytes w32) r.pid ∙ from_le_bytes-to_le_bytes_4 status.pid is.pid in
    rw (r.size, label, pid, r.paused, r.want) (fields_are status.label status.pid status.paused status.want is.paused)

-- Whatever is read has this record.

-- the fields of a status that was read
record HasFields (status : Status) (label : Tai64n) (pid paused want : ℕ) : Type 0 where
  label_is : status.label ≡ label
  pid_is : status.pid ≡ pid
  paused_is : flag_byte status.paused ≡ paused
  want_is : want_byte status.want ≡ want
  runs : status.paused ≡ true → 0 < status.pid

fields_read : (label : Tai64n) (pid paused want : ℕ) (status : Status) → from_fields (Ok label) pid paused want
    ≡ Ok status
    → HasFields status label pid paused want
fields_read label pid paused want status h = grind (arith)

label_read : (label : Result Tai64n LabelFault) (pid paused want : ℕ) (status : Status)
    → from_fields label pid paused want ≡ Ok status
    → (l : Tai64n) × (label ≡ Ok l) × (from_fields (Ok l) pid paused want ≡ Ok status)
label_read (Ok l) pid paused want status h = (l, refl, h)
label_read (Err fault) pid paused want status h = cc h

size_read : (bytes : List ℕ) (status : Status) → status_from bytes ≡ Ok status
    → (length bytes ≡ 18)
    × (from_fields (from_packed (take 12 bytes)) (from_le_bytes w32 (take 4 (drop 12 bytes))) (slice_index bytes 16)
    (slice_index bytes 17) ≡ Ok status)
unfolding status_from
size_read bytes status h = grind (arith)

-- four bytes are a number of 32 bits
four_bytes : (bytes : List ℕ) → IsBytes bytes → from_le_bytes w32 bytes < 2 ^ 32
four_bytes bytes fits = let a = fits 0 in let b = fits 1 in let c = fits 2 in let d = fits 3 in
    omega (arith, a, b, c, d)

recorded : (bytes : List ℕ) (status : Status) → IsBytes bytes
    → status_from bytes ≡ Ok status → IsStatus status × IsRecord bytes status
recorded bytes status fits h =
    let size = size_read bytes status h in
    let found = label_read _ _ _ _ status size.1 in
    let is : HasFields status found.0 (from_le_bytes w32 (take 4 (drop 12 bytes))) (slice_index bytes 16)
    (slice_index bytes 17) =
    fields_read found.0 _ _ _ status found.2 in
    let packed_so = packed-from_packed (take 12 bytes) found.0 (IsBytes-take 12 bytes fits) found.1 in
    let len = size.0 in
    let pid = le_bytes_4 (take 4 (drop 12 bytes)) status.pid
    (length-take-le 4 (drop 12 bytes) (rw length-drop (omega (arith, len))))
    (IsBytes-take 4 (drop 12 bytes) (IsBytes-drop 12 bytes fits)) is.pid_is in (
      record {
        label = subst IsLabel (sym is.label_is) packed_so.0;
        pid =
            rw is.pid_is (four_bytes (take 4 (drop 12 bytes))
            (IsBytes-take 4 (drop 12 bytes) (IsBytes-drop 12 bytes fits)));
        paused = is.runs;
      },
      record {
        size = len;
        label = packed_so.1 ∙ ap packed (sym is.label_is);
        pid = sym pid;
        paused = sym is.paused_is;
        want = sym is.want_is;
      },
    )

pub found_recorded : (bytes : List ℕ) (r : Result Status RecordFault) → IsBytes bytes → r ≡ status_from bytes
    → IfOk r (λ status. IsStatus status × IsRecord bytes status)
found_recorded bytes (Ok status) fits e = recorded bytes status fits (sym e)
found_recorded bytes (Err fault) fits e = tt

-- The one record of a status

in_rows : (xs : List ℕ) → length xs ≡ 18
    → xs ≡ take 12 xs ++ take 4 (drop 12 xs) ++ (slice_index xs 16 ∷ []) ++ (slice_index xs 17 ∷ [])
in_rows xs size =
    let last : drop 16 xs ≡ slice_index xs 16 ∷ slice_index xs 17 ∷ [] =
    drop-cons xs 16 0 (omega (arith, size)) ∙ ap (λ (ys : List ℕ). slice_index xs 16 ∷ ys)
    (drop-cons xs 17 0 (omega (arith, size))
    ∙ ap (λ (ys : List ℕ). slice_index xs 17 ∷ ys) (drop_of_length-le xs {i = 18} (omega (arith, size)))) in
    sym (take-append-drop 16 xs)
    ∙ ap (λ (ys : List ℕ). ys ++ drop 16 xs) (take-add 12 4 xs)
    ∙ ap (λ (ys : List ℕ). take 12 xs ++ take 4 (drop 12 xs) ++ ys) last
    ∙ sym (append_assoc (take 12 xs ++ take 4 (drop 12 xs)) (slice_index xs 16 ∷ []) (slice_index xs 17 ∷ []))

pub record-status_record : (bytes : List ℕ) (status : Status) → IsRecord bytes status → bytes ≡ status_record status
record-status_record bytes status r = rw (in_rows bytes r.size, r.label, r.pid, r.paused, r.want) refl

pub IsRecord-status_record : (status : Status) → IsRecord (status_record status) status
IsRecord-status_record status = record { size = refl; label = refl; pid = refl; paused = refl; want = refl }

pub one_record : (bytes : List ℕ) (status : Status) → IsRecord bytes status ↔ (bytes ≡ status_record status)
one_record bytes status = (
  record-status_record bytes status,
  λ e. subst (λ (bs : List ℕ). IsRecord bs status) (sym e) (IsRecord-status_record status),
)
