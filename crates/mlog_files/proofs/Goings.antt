-- A log that continues.
use Rattle.std.proofs.Common.{◌≡◌, ℕ, zero, suc, ◌+◌, ◌-◌, ◌<◌, ◌≤◌, ◌==◌, nat_le, Bool, true, false, List, [], ◌∷◌}
use Rattle.std.proofs.Common.{◌++◌, length, take, drop, get_or, Option, Some, None, inl, inr, refl, sym, subst, ap, ◌∙◌}
use Rattle.std.proofs.Common.{arith, append_assoc, append-nil}
use Rattle.std.proofs.lemmas.List.{get_or-take, length-take-le, take_rest, map-append, take-append-drop}
use Rattle.std.proofs.lemmas.Bool.{cases_lt}
use Rattle.std.proofs.Math.Seq.{take-add}
use Rattle.tai_status.specs.Label.{Tai64n}
use Rattle.tai_status.specs.Lines.{Sent, sent}
use Rattle.mlog_files.specs.Cut.{fills}
use Rattle.mlog_files.specs.Files.{Step, Append, append_steps, appends}
use Rattle.mlog_files.specs.Steps.{Marks, label_given}
use Rattle.mlog_files.specs.Tails.{longer}
use Rattle.mlog_files.specs.Going.{Standing, begun, stands_under, finish_at, finished_at, byte_steps, after_byte}
use Rattle.mlog_files.specs.Going.{first_steps, ready, steps_on, standing_on}

pub steps_on-none : (size keep : ℕ) (log : Option Standing) → steps_on size keep log [] ≡ []
steps_on-none size keep None = refl
steps_on-none size keep (Some log) = refl

pub standing_on-none : (size keep : ℕ) (log : Option Standing) → standing_on size keep log [] ≡ log
standing_on-none size keep None = refl
standing_on-none size keep (Some log) = refl

pub steps_on-append : (size keep : ℕ) (log : Option Standing) (xs ys : List Sent)
    → steps_on size keep log (xs ++ ys) ≡ steps_on size keep log xs
    ++ steps_on size keep (standing_on size keep log xs) ys
steps_on-append size keep None xs ys = refl
steps_on-append size keep (Some log) [] ys = refl
steps_on-append size keep (Some log) (s ∷ xs) ys =
    let first = first_steps size keep log s.reading ++ byte_steps size keep (ready size keep log s.reading) s in
    let now = after_byte size keep (ready size keep log s.reading) s in
    ap (λ (t : List Step). first ++ t) (steps_on-append size keep now xs ys)
    ∙ sym (append_assoc first (steps_on size keep now xs) (steps_on size keep (standing_on size keep now xs) ys))

pub standing_on-append : (size keep : ℕ) (log : Option Standing) (xs ys : List Sent)
    → standing_on size keep log (xs ++ ys) ≡ standing_on size keep (standing_on size keep log xs) ys
standing_on-append size keep None xs ys = refl
standing_on-append size keep (Some log) [] ys = refl
standing_on-append size keep (Some log) (s ∷ xs) ys =
    standing_on-append size keep (after_byte size keep (ready size keep log s.reading) s) xs ys

-- One byte, with what is done before it.
pub step_is : (size keep : ℕ) (log : Standing) (s : Sent) (text : List Sent) (first : List Step) (now : Option Standing)
    → first_steps size keep log s.reading ≡ first → ready size keep log s.reading ≡ now
    → (steps_on size keep (Some log) (s ∷ text) ≡ first ++ byte_steps size keep now s
    ++ steps_on size keep (after_byte size keep now s) text)
    × (standing_on size keep (Some log) (s ∷ text) ≡ standing_on size keep (after_byte size keep now s) text)
step_is size keep log s text first now e f =
    let was = ready size keep log s.reading in (
      ap (λ (t : List Step). t ++ byte_steps size keep was s ++ steps_on size keep (after_byte size keep was s) text) e
          ∙ ap (λ (r : Option Standing). first ++ byte_steps size keep r s
          ++ steps_on size keep (after_byte size keep r s) text) f,
      ap (λ (r : Option Standing). standing_on size keep (after_byte size keep r s) text) f,
    )

not_over : (size keep : ℕ) (log : Standing) (reading : Tai64n) → log.count < size
    → (first_steps size keep log reading ≡ []) × (ready size keep log reading ≡ Some log)
not_over size keep log reading room =
    let low : nat_le size log.count ≡ false = grind (arith, room) in (rw low refl, rw low refl)

-- One byte that comes to a file with room.
in_room : (size keep : ℕ) (log : Standing) (s : Sent) (text : List Sent) → log.count < size
    → (steps_on size keep (Some log) (s ∷ text) ≡ byte_steps size keep (Some log) s
    ++ steps_on size keep (after_byte size keep (Some log) s) text)
    × (standing_on size keep (Some log) (s ∷ text) ≡ standing_on size keep (after_byte size keep (Some log) s) text)
in_room size keep log s text room =
    let e = not_over size keep log s.reading room in step_is size keep log s text [] (Some log) e.0 e.1

-- One byte, after which the file is not full.
pub byte_open : (size keep : ℕ) (log : Standing) (s : Sent) (text : List Sent) → log.count < size
    → fills size (log.count + 1) (s.byte == 10) ≡ false
    → (steps_on size keep (Some log) (s ∷ text) ≡ Append s.byte
    ∷ steps_on size keep (Some (record { count = log.count + 1; marks = log.marks })) text)
    × (standing_on size keep (Some log) (s ∷ text)
    ≡ standing_on size keep (Some (record { count = log.count + 1; marks = log.marks })) text)
byte_open size keep log s text room open_yet =
    let now : Standing = record { count = log.count + 1; marks = log.marks } in
    let one = in_room size keep log s text room in
    let first : byte_steps size keep (Some log) s ≡ Append s.byte ∷ [] = rw open_yet refl in
    let later : after_byte size keep (Some log) s ≡ Some now = rw open_yet refl in (
      one.0 ∙ ap (λ (t : List Step). t ++ steps_on size keep (after_byte size keep (Some log) s) text) first
          ∙ ap (λ (r : Option Standing). Append s.byte ∷ steps_on size keep r text) later,
      one.1 ∙ ap (λ (r : Option Standing). standing_on size keep r text) later,
    )

-- One byte, after which the file is full.
pub byte_cut : (size keep : ℕ) (log : Standing) (s : Sent) → log.count < size
    → fills size (log.count + 1) (s.byte == 10) ≡ true
    → (steps_on size keep (Some log) (s ∷ []) ≡ Append s.byte ∷ finish_at keep log.marks s.reading)
    × (standing_on size keep (Some log) (s ∷ []) ≡ finished_at keep log.marks s.reading)
byte_cut size keep log s room full =
    let one = in_room size keep log s [] room in
    let first : byte_steps size keep (Some log) s ≡ Append s.byte ∷ finish_at keep log.marks s.reading = rw full refl in
    let later : after_byte size keep (Some log) s ≡ finished_at keep log.marks s.reading = rw full refl in (
      one.0 ∙ ap (λ (t : List Step). byte_steps size keep (Some log) s ++ t)
          (steps_on-none size keep (after_byte size keep (Some log) s))
          ∙ append-nil (byte_steps size keep (Some log) s) ∙ first,
      one.1 ∙ standing_on-none size keep (after_byte size keep (Some log) s) ∙ later,
    )

-- what is known of the bytes after the first
later_bytes : (size count b : ℕ) (bs : List ℕ) (truth : Bool) (k : ℕ) → 0 < k
    → fills size (count + suc k) (get_or (b ∷ bs) (suc k - 1) 0 == 10) ≡ truth
    → fills size (count + 1 + k) (get_or bs (k - 1) 0 == 10) ≡ truth
later_bytes size count b bs truth zero some is = absurd (omega (arith, some))
later_bytes size count b bs truth (suc k) some is =
    let sum : count + suc (suc k) ≡ count + 1 + suc k = omega arith in
    let before : suc (suc k) - 1 ≡ suc k = omega arith in
    let here : suc k - 1 ≡ k = omega arith in
    subst (λ (i : ℕ). fills size (count + 1 + suc k) (get_or bs i 0 == 10) ≡ truth) (sym here)
    (subst (λ (n : ℕ). fills size n (get_or bs k 0 == 10) ≡ truth) sum
    (subst (λ (i : ℕ). fills size (count + suc (suc k)) (get_or (b ∷ bs) i 0 == 10) ≡ truth) before is))

-- Bytes after which the file is not full.
pub bytes_open : (size keep : ℕ) (log : Standing) (reading : Tai64n) (bytes : List ℕ) → log.count + length bytes < size
    → ((k : ℕ) → 0 < k → k ≤ length bytes → fills size (log.count + k) (get_or bytes (k - 1) 0 == 10) ≡ false)
    → (steps_on size keep (Some log) (sent reading bytes) ≡ append_steps bytes)
    × (standing_on size keep (Some log) (sent reading bytes)
    ≡ Some (record { count = log.count + length bytes; marks = log.marks }))
bytes_open size keep log reading [] room none =
    let same : log.count + 0 ≡ log.count = omega arith in
    (refl, ap (λ (n : ℕ). Some (record { count = n; marks = log.marks })) (sym same))
bytes_open size keep log reading (b ∷ bs) room none =
    let now : Standing = record { count = log.count + 1; marks = log.marks } in
    let one = byte_open size keep log (record { byte = b; reading = reading }) (sent reading bs) (omega (arith, room))
    (none 1 (omega arith) (omega arith)) in
    let later = bytes_open size keep now reading bs (omega (arith, room))
    (λ k some within.
    later_bytes size log.count b bs false k some (none (suc k) (omega arith) (omega (arith, within)))) in
    let sum : log.count + 1 + length bs ≡ log.count + suc (length bs) = omega arith in (
      one.0 ∙ ap (λ (t : List Step). Append b ∷ t) later.0,
      one.1 ∙ later.1 ∙ ap (λ (n : ℕ). Some (record { count = n; marks = log.marks })) sum,
    )

-- Bytes after which the file is full, and after no shorter prefix of them.
pub bytes_cut : (size keep : ℕ) (log : Standing) (reading : Tai64n) (bytes : List ℕ) → 0 < length bytes
    → log.count + length bytes ≤ size
    → ((k : ℕ) → 0 < k → k < length bytes → fills size (log.count + k) (get_or bytes (k - 1) 0 == 10) ≡ false)
    → fills size (log.count + length bytes) (get_or bytes (length bytes - 1) 0 == 10) ≡ true
    → (steps_on size keep (Some log) (sent reading bytes) ≡ append_steps bytes ++ finish_at keep log.marks reading)
    × (standing_on size keep (Some log) (sent reading bytes) ≡ finished_at keep log.marks reading)
bytes_cut size keep log reading [] some room none full = absurd (omega (arith, some))
bytes_cut size keep log reading (b ∷ []) some room none full =
    byte_cut size keep log (record { byte = b; reading = reading }) (omega (arith, room)) full
bytes_cut size keep log reading (b ∷ c ∷ bs) some room none full =
    let now : Standing = record { count = log.count + 1; marks = log.marks } in
    let one = byte_open size keep log (record { byte = b; reading = reading }) (sent reading (c ∷ bs))
    (omega (arith, room)) (none 1 (omega arith) (omega arith)) in
    let later = bytes_cut size keep now reading (c ∷ bs) (omega arith) (omega (arith, room))
    (λ k some within. later_bytes size log.count b (c ∷ bs) false k some
    (none (suc k) (omega arith) (omega (arith, within))))
    (later_bytes size log.count b (c ∷ bs) true (suc (length bs)) (omega arith) full) in
    (one.0 ∙ ap (λ (t : List Step). Append b ∷ t) later.0, one.1 ∙ later.1)

-- A prefix of bytes: what is known of it.
front_known : (size count : ℕ) (bytes : List ℕ) (len : ℕ) (truth : Bool) (k : ℕ) → 0 < k → k ≤ len
    → fills size (count + k) (get_or bytes (k - 1) 0 == 10) ≡ truth
    → fills size (count + k) (get_or (take len bytes) (k - 1) 0 == 10) ≡ truth
front_known size count bytes len truth k some within is =
    subst (λ (b : ℕ). fills size (count + k) (b == 10) ≡ truth)
    (sym (get_or-take len bytes (k - 1) 0 (omega (arith, some, within)))) is

-- A prefix of bytes after which the file is not full.
pub front_open : (size keep : ℕ) (log : Standing) (reading : Tai64n) (bytes : List ℕ) (len : ℕ) → 0 < len
    → len ≤ length bytes → log.count + len < size
    → ((k : ℕ) → 0 < k → k < len → fills size (log.count + k) (get_or bytes (k - 1) 0 == 10) ≡ false)
    → fills size (log.count + len) (get_or bytes (len - 1) 0 == 10) ≡ false
    → (steps_on size keep (Some log) (sent reading (take len bytes)) ≡ append_steps (take len bytes))
    × (standing_on size keep (Some log) (sent reading (take len bytes))
    ≡ Some (record { count = log.count + len; marks = log.marks }))
front_open size keep log reading bytes len some within room none last =
    let long : length (take len bytes) ≡ len = length-take-le len bytes within in
    let all = bytes_open size keep log reading (take len bytes) (omega (arith, long, room))
    (λ k more upto. front_known size log.count bytes len false k more (omega (arith, long, upto))
    (elim (cases_lt k len) [
      | inl less ↦ none k more less
      | inr no_less ↦
          let same : len ≡ k = omega (arith, long, upto, no_less) in
          subst (λ (n : ℕ). fills size (log.count + n) (get_or bytes (n - 1) 0 == 10) ≡ false) same last
    ])) in
    (all.0, all.1 ∙ ap (λ (n : ℕ). Some (record { count = log.count + n; marks = log.marks })) long)

-- A prefix of bytes after which the file is full.
pub front_cut : (size keep : ℕ) (log : Standing) (reading : Tai64n) (bytes : List ℕ) (len : ℕ) → 0 < len
    → len ≤ length bytes → log.count + len ≤ size
    → ((k : ℕ) → 0 < k → k < len → fills size (log.count + k) (get_or bytes (k - 1) 0 == 10) ≡ false)
    → fills size (log.count + len) (get_or bytes (len - 1) 0 == 10) ≡ true
    → (steps_on size keep (Some log) (sent reading (take len bytes)) ≡ append_steps (take len bytes)
    ++ finish_at keep log.marks reading)
    × (standing_on size keep (Some log) (sent reading (take len bytes)) ≡ finished_at keep log.marks reading)
front_cut size keep log reading bytes len some within room none full =
    let long : length (take len bytes) ≡ len = length-take-le len bytes within in
    bytes_cut size keep log reading (take len bytes) (omega (arith, long, some)) (omega (arith, long, room))
    (λ k more less. front_known size log.count bytes len false k more (omega (arith, long, less))
    (none k more (omega (arith, long, less))))
    (subst (λ (n : ℕ). fills size (log.count + n) (get_or (take len bytes) (n - 1) 0 == 10) ≡ true) (sym long)
    (front_known size log.count bytes len true len some (omega arith) full))

-- A new file is not too large.
after_finish : (size keep : ℕ) (marks : Marks) (label : Option Tai64n) (s : Sent) (text : List Sent) → 0 < size
    → (steps_on size keep (stands_under keep marks label) (s ∷ text)
    ≡ byte_steps size keep (stands_under keep marks label) s
    ++ steps_on size keep (after_byte size keep (stands_under keep marks label) s) text)
    × (standing_on size keep (stands_under keep marks label) (s ∷ text)
    ≡ standing_on size keep (after_byte size keep (stands_under keep marks label) s) text)
after_finish size keep marks None s text sized = (refl, refl)
after_finish size keep marks (Some label) s text sized = in_room size keep (begun keep marks label) s text sized

-- A file that was already too large is finished first.
pub over_full : (size keep : ℕ) (log : Standing) (s : Sent) (text : List Sent) → 0 < size → size ≤ log.count
    → (steps_on size keep (Some log) (s ∷ text)
    ≡ finish_at keep log.marks s.reading ++ steps_on size keep (finished_at keep log.marks s.reading) (s ∷ text))
    × (standing_on size keep (Some log) (s ∷ text)
    ≡ standing_on size keep (finished_at keep log.marks s.reading) (s ∷ text))
over_full size keep log s text sized over =
    let high : nat_le size log.count ≡ true = grind (arith, over) in
    let now = finished_at keep log.marks s.reading in
    let finish = finish_at keep log.marks s.reading in
    let one = step_is size keep log s text finish now (rw high refl) (rw high refl) in
    let later = after_finish size keep log.marks (label_given log.marks.last s.reading) s text sized in (
      one.0 ∙ append_assoc finish (byte_steps size keep now s) (steps_on size keep (after_byte size keep now s) text)
          ∙ ap (λ (t : List Step). finish ++ t) (sym later.0),
      one.1 ∙ sym later.1,
    )

pub sent-append : (reading : Tai64n) (xs ys : List ℕ) → sent reading (xs ++ ys) ≡ sent reading xs ++ sent reading ys
sent-append reading xs ys = map-append (λ (byte : ℕ). record { byte = byte; reading = reading }) xs ys

-- more bytes of a line
pub sent-further : (reading : Tai64n) (bytes : List ℕ) (at n : ℕ)
    → sent reading (take (at + n) bytes) ≡ sent reading (take at bytes)
    ++ sent reading (take n (take (length bytes - at) (drop at bytes)))
sent-further reading bytes at n =
    ap (sent reading) (take-add at n bytes ∙ ap (λ (t : List ℕ). take at bytes ++ take n t) (sym (take_rest bytes at)))
    ∙ sent-append reading (take at bytes) (take n (take (length bytes - at) (drop at bytes)))

-- the remaining bytes of a line
pub sent-rest : (reading : Tai64n) (bytes : List ℕ) (at : ℕ)
    → sent reading bytes ≡ sent reading (take at bytes) ++ sent reading (take (length bytes - at) (drop at bytes))
sent-rest reading bytes at =
    ap (sent reading) (sym (take-append-drop at bytes)
    ∙ ap (λ (t : List ℕ). take at bytes ++ t) (sym (take_rest bytes at)))
    ∙ sent-append reading (take at bytes) (take (length bytes - at) (drop at bytes))

-- A text that can't fill the current file, with any bytes.
not_full : (size count : ℕ) (ends : Bool) → count < size - 2000 → fills size count ends ≡ false
not_full size count ends room =
    let a : nat_le size count ≡ false = grind (arith, room) in
    let b : nat_le (size - 2000) count ≡ false = grind (arith, room) in
    rw (a, b) refl

pub text_within : (size keep : ℕ) (log : Standing) (text : List Sent) → log.count + length text < size - 2000
    → (steps_on size keep (Some log) text ≡ appends text)
    × (standing_on size keep (Some log) text ≡ Some (longer log (length text)))
text_within size keep log [] room =
    let same : log.count ≡ log.count + 0 = omega arith in
    (refl, ap (λ (n : ℕ). Some (record { count = n; marks = log.marks })) same)
text_within size keep log (s ∷ text) room =
    let now : Standing = record { count = log.count + 1; marks = log.marks } in
    let one = byte_open size keep log s text (omega (arith, room))
    (not_full size (log.count + 1) (s.byte == 10) (omega (arith, room))) in
    let later = text_within size keep now text (omega (arith, room)) in
    let sum : log.count + 1 + length text ≡ log.count + suc (length text) = omega arith in (
      one.0 ∙ ap (λ (t : List Step). Append s.byte ∷ t) later.0,
      one.1 ∙ later.1 ∙ ap (λ (n : ℕ). Some (record { count = n; marks = log.marks })) sum,
    )

pub text_in_room : (size keep : ℕ) (log : Standing) (text : List Sent) → length text ≤ size - 2000 - log.count - 1
    → (steps_on size keep (Some log) text ≡ appends text)
    × (standing_on size keep (Some log) text ≡ Some (longer log (length text)))
text_in_room size keep log [] room =
    let same : log.count ≡ log.count + 0 = omega arith in
    (refl, ap (λ (n : ℕ). Some (record { count = n; marks = log.marks })) same)
text_in_room size keep log (s ∷ text) room = text_within size keep log (s ∷ text) (omega (arith, room))
