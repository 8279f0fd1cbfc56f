-- Bytes of one line, put part by part.
use Rattle.std.proofs.Common.{◌≡◌, ℕ, ◌+◌, ◌-◌, ◌<◌, ◌≤◌, ◌==◌, Bool, true, false, List, [], ◌∷◌, ◌++◌, length, take}
use Rattle.std.proofs.Common.{drop, get_or, Option, Some, None, Result, Ok, Err, IfOk, refl, sym, subst, ap, ◌∙◌, arith}
use Rattle.std.proofs.Common.{append_assoc, append-nil}
use Rattle.std.proofs.lemmas.List.{take-append-drop}
use Rattle.tai_status.specs.Label.{Tai64n}
use Rattle.tai_status.specs.Lines.{Sent, sent}
use Rattle.mlog_files.specs.Cut.{fills}
use Rattle.mlog_files.specs.Files.{Files, Step, append_steps}
use Rattle.mlog_files.specs.Steps.{Marks}
use Rattle.mlog_files.specs.Going.{Standing, finish_under, stands_under, finish_at, finished_at, steps_on, standing_on}
use Rattle.mlog_files.specs.Store.{StoreState, Reaches, Does, DoesFront, Fails, Goes}
use Rattle.mlog_files.specs.Tails.{StopsOn}
use Rattle.mlog_files.specs.declared.tail.LogFault.{LogFault}
use Rattle.mlog_files.specs.declared.tail.LogFault.TheVariants as fault
use Rattle.mlog_files.proofs.Doing.{rose_since, DoesFront-more, Does-more, Fails-more, Goes-then, Goes-front, Goes-does}
use Rattle.mlog_files.proofs.Doing.{Goes-through}
use Rattle.mlog_files.proofs.Goings.{steps_on-append, standing_on-append, front_open, front_cut, over_full, sent-append}
use Rattle.mlog_files.proofs.Goings.{sent-further, sent-rest}

-- A text in two parts.
pub steps_parted : (size keep size' keep' : ℕ) (log : Standing) (now : Option Standing) (text xs ys : List Sent)
    → size' ≡ size → keep' ≡ keep
    → text ≡ xs ++ ys → standing_on size keep (Some log) xs ≡ now
    → steps_on size keep (Some log) text ≡ steps_on size keep (Some log) xs ++ steps_on size' keep' now ys
steps_parted size keep size' keep' log now text xs ys a b e is =
    ap (steps_on size keep (Some log)) e ∙ steps_on-append size keep (Some log) xs ys
    ∙ ap (λ (r : Option Standing). steps_on size keep (Some log) xs ++ steps_on size keep r ys) is
    ∙ ap (λ (n : ℕ). steps_on size keep (Some log) xs ++ steps_on n keep now ys) (sym a)
    ∙ ap (λ (n : ℕ). steps_on size keep (Some log) xs ++ steps_on size' n now ys) (sym b)

pub stands_parted : (size keep size' keep' : ℕ) (log : Standing) (now : Option Standing) (text xs ys : List Sent)
    → size' ≡ size → keep' ≡ keep
    → text ≡ xs ++ ys → standing_on size keep (Some log) xs ≡ now
    → standing_on size keep (Some log) text ≡ standing_on size' keep' now ys
stands_parted size keep size' keep' log now text xs ys a b e is =
    ap (standing_on size keep (Some log)) e ∙ standing_on-append size keep (Some log) xs ys
    ∙ ap (λ (r : Option Standing). standing_on size keep r ys) is
    ∙ ap (λ (n : ℕ). standing_on n keep now ys) (sym a)
    ∙ ap (λ (n : ℕ). standing_on size' n now ys) (sym b)

pub none_given : (keep : ℕ) (marks : Marks) (label : Option Tai64n) → stands_under keep marks label ≡ None
    → finish_under keep marks label ≡ []
none_given keep marks None is = refl
none_given keep marks (Some label) is = cc

-- A prefix of the bytes: after it the file is finished, or its bytes wait.
record Front (size keep : ℕ) (log : Standing) (reading : Tai64n) (bytes : List ℕ) (len : ℕ) : Type 0 where
  some : 0 < len
  within : len ≤ length bytes
  upto : log.count + len ≤ size
  before : (k : ℕ) → 0 < k → k < len → fills size (log.count + k) (get_or bytes (k - 1) 0 == 10) ≡ false

front_sent : (reading : Tai64n) (bytes : List ℕ) (len : ℕ) → sent reading bytes ≡ sent reading (take len bytes)
    ++ sent reading (drop len bytes)
front_sent reading bytes len = ap (sent reading) (sym (take-append-drop len bytes))
    ∙ sent-append reading (take len bytes) (drop len bytes)

-- A prefix that fills the file.
cut_whole : (size keep : ℕ) (log : Standing) (reading : Tai64n) (bytes : List ℕ) (len : ℕ)
    → Front size keep log reading bytes len
    → fills size (log.count + len) (get_or bytes (len - 1) 0 == 10) ≡ true
    → (steps_on size keep (Some log) (sent reading bytes)
    ≡ (append_steps (take len bytes) ++ finish_at keep log.marks reading)
    ++ steps_on size keep (finished_at keep log.marks reading) (sent reading (drop len bytes)))
    × (standing_on size keep (Some log) (sent reading bytes)
    ≡ standing_on size keep (finished_at keep log.marks reading) (sent reading (drop len bytes)))
cut_whole size keep log reading bytes len f full =
    let one = front_cut size keep log reading bytes len f.some f.within f.upto f.before full in
    let now = finished_at keep log.marks reading in
    let later = sent reading (drop len bytes) in (
      steps_parted size keep size keep log now (sent reading bytes) (sent reading (take len bytes)) later refl refl
          (front_sent reading bytes len) one.1
          ∙ ap (λ (t : List Step). t ++ steps_on size keep now later) one.0,
      stands_parted size keep size keep log now (sent reading bytes) (sent reading (take len bytes)) later refl refl
          (front_sent reading bytes len) one.1,
    )

-- A prefix that does not fill the file.
open_whole : (size keep : ℕ) (log : Standing) (reading : Tai64n) (bytes : List ℕ) (len : ℕ)
    → Front size keep log reading bytes len → log.count + len < size
    → fills size (log.count + len) (get_or bytes (len - 1) 0 == 10) ≡ false
    → steps_on size keep (Some log) (sent reading bytes)
    ≡ append_steps (take len bytes)
    ++ steps_on size keep (Some (record { count = log.count + len; marks = log.marks })) (sent reading (drop len bytes))
open_whole size keep log reading bytes len f room last =
    let one = front_open size keep log reading bytes len f.some f.within room f.before last in
    let now : Standing = record { count = log.count + len; marks = log.marks } in
    let later = sent reading (drop len bytes) in
    steps_parted size keep size keep log (Some now) (sent reading bytes) (sent reading (take len bytes)) later refl refl
    (front_sent reading bytes len) one.1
    ∙ ap (λ (t : List Step). t ++ steps_on size keep (Some now) later) one.0

-- The store failed while the prefix was put.
front_failed : {o q : StoreState} {log : ℕ} (waited : List ℕ) (front rest steps : List Step) → steps ≡ front ++ rest
    → Fails o q log (append_steps waited ++ front) → Fails o q log (append_steps waited ++ steps)
front_failed {o} {q} {log} waited front rest steps e d =
    subst (λ (t : List Step). Fails o q log t) (append_assoc (append_steps waited) front rest
    ∙ ap (λ (t : List Step). append_steps waited ++ t) (sym e))
    (Fails-more rest d)

-- a file that is not full has room
pub room_left : (size count len : ℕ) (ends : Bool) → fills size (count + len) ends ≡ false → count + len < size
room_left size count len ends is = grind (arith, is)

pub held_failed : {o q : StoreState} {log : ℕ} (size keep : ℕ) (from : Standing) (reading : Tai64n) (bytes : List ℕ)
    (len : ℕ) (waited : List ℕ) (full : Bool)
    → 0 < len → len ≤ length bytes → from.count + len ≤ size
    → ((k : ℕ) → 0 < k → k < len → fills size (from.count + k) (get_or bytes (k - 1) 0 == 10) ≡ false)
    → fills size (from.count + len) (get_or bytes (len - 1) 0 == 10) ≡ full
    → Fails o q log (append_steps waited ++ append_steps (take len bytes))
    → Fails o q log (append_steps waited ++ steps_on size keep (Some from) (sent reading bytes))
held_failed {o} {q} {log} size keep from reading bytes len waited true some within upto before is d =
    let f : Front size keep from reading bytes len =
    record { some = some; within = within; upto = upto; before = before } in
    let finish = finish_at keep from.marks reading in
    let later = steps_on size keep (finished_at keep from.marks reading) (sent reading (drop len bytes)) in
    front_failed waited (append_steps (take len bytes)) (finish ++ later)
    (steps_on size keep (Some from) (sent reading bytes))
    ((cut_whole size keep from reading bytes len f is).0 ∙ append_assoc (append_steps (take len bytes)) finish later) d
held_failed {o} {q} {log} size keep from reading bytes len waited false some within upto before is d =
    let f : Front size keep from reading bytes len =
    record { some = some; within = within; upto = upto; before = before } in
    front_failed waited (append_steps (take len bytes)) _ (steps_on size keep (Some from) (sent reading bytes))
    (open_whole size keep from reading bytes len f (room_left size from.count len _ is) is) d

-- A log stops since the store failed.
pub stops_failed : {o q : StoreState} {log : ℕ} (steps : List Step) (end : Option Standing) → Fails o q log steps
    → StopsOn o q log steps end fault.Store
stops_failed {o} {q} {log} steps end f = record {
  front = f.front;
  store = λ is. f.rose;
  nowhere = λ is. cc;
  spent = λ is. cc;
}

-- A log stops since there is no label.
pub stops_spent : {o q : StoreState} {log : ℕ} (steps more : List Step) (end : Option Standing) → Does o q log steps
    → end ≡ None → more ≡ []
    → StopsOn o q log (steps ++ more) end fault.LabelsSpent
stops_spent {o} {q} {log} steps more end d none nothing = record {
  front = Does-more more d;
  store = λ is. cc;
  nowhere = λ is. none;
  spent = λ is. subst (λ (t : List Step). Does o q log t)
      (sym (ap (λ (t : List Step). steps ++ t) nothing ∙ append-nil steps)) d;
}

-- A log stopped after other steps.
pub stops_then : {o p q : StoreState} {log : ℕ} {a b : List ℕ} {xs : List Step} {end : Option Standing} {why : LogFault}
    (ys steps : List Step) (last : Option Standing)
    → Goes o p log a b xs → steps ≡ xs ++ ys → last ≡ end → StopsOn p q log (append_steps b ++ ys) end why
    → StopsOn o q log (append_steps a ++ steps) last why
stops_then {o} {p} {q} {log} {a} {b} {xs} ys steps last g e same s = record {
  front = subst (λ (t : List Step). DoesFront o q log (append_steps a ++ t)) (sym e) (Goes-front ys g s.front);
  store = λ is. rose_since o.failures p.failures q.failures g.does.stays.steady (s.store is);
  nowhere = λ is. same ∙ s.nowhere is;
  spent = λ is. subst (λ (t : List Step). Does o q log (append_steps a ++ t)) (sym e) (Goes-does ys g (s.spent is));
}

-- A log stopped before the steps of a text.
pub stops_before : {o q : StoreState} {log : ℕ} {now : Option Standing} {why : LogFault} (waited : List ℕ)
    (first : List Step) (size keep : ℕ) (text : List Sent)
    (steps : List Step) (end : Option Standing) → steps ≡ first ++ steps_on size keep now text
    → end ≡ standing_on size keep now text
    → StopsOn o q log (append_steps waited ++ first) now why → StopsOn o q log (append_steps waited ++ steps) end why
stops_before {o} {q} {log} {now} waited first size keep text steps end e ends s = record {
  front = subst (λ (t : List Step). DoesFront o q log t)
      (append_assoc (append_steps waited) first (steps_on size keep now text)
      ∙ ap (λ (t : List Step). append_steps waited ++ t) (sym e))
      (DoesFront-more (steps_on size keep now text) s.front);
  store = s.store;
  nowhere = λ is. ends ∙ ap (λ (r : Option Standing). standing_on size keep r text) (s.nowhere is);
  spent = λ is. subst (λ (t : List Step). Does o q log (append_steps waited ++ t))
      (sym (e ∙ ap (λ (r : Option Standing). first ++ steps_on size keep r text) (s.nowhere is) ∙ append-nil first))
      (s.spent is);
}

-- The file was filled, and finished.
pub cut_done : {o p q : StoreState} {log : ℕ} (size keep : ℕ) (from : Standing) (reading : Tai64n) (bytes : List ℕ)
    (len : ℕ) (waited waits now : List ℕ)
    → 0 < len → len ≤ length bytes → from.count + len ≤ size
    → ((k : ℕ) → 0 < k → k < len → fills size (from.count + k) (get_or bytes (k - 1) 0 == 10) ≡ false)
    → fills size (from.count + len) (get_or bytes (len - 1) 0 == 10) ≡ true
    → Goes o p log waited waits (append_steps (take len bytes))
    → Does p q log (append_steps waits ++ finish_at keep from.marks reading) → now ≡ []
    → Goes o q log waited now (steps_on size keep (Some from) (sent reading (take len bytes)))
cut_done {o} {p} {q} {log} size keep from reading bytes len waited waits now some within upto before full g d empty =
    subst (λ (t : List Step). Goes o q log waited now t)
    (sym (front_cut size keep from reading bytes len some within upto before full).0)
    (Goes-through waited now (append_steps (take len bytes) ++ finish_at keep from.marks reading) empty
    (Goes-does (finish_at keep from.marks reading) g d))

-- The file was filled, and not finished.
pub cut_stopped : {o p q : StoreState} {log : ℕ} {why : LogFault} (size keep : ℕ) (from : Standing) (reading : Tai64n)
    (bytes : List ℕ) (len : ℕ) (waited waits : List ℕ)
    → 0 < len → len ≤ length bytes → from.count + len ≤ size
    → ((k : ℕ) → 0 < k → k < len → fills size (from.count + k) (get_or bytes (k - 1) 0 == 10) ≡ false)
    → fills size (from.count + len) (get_or bytes (len - 1) 0 == 10) ≡ true
    → Goes o p log waited waits (append_steps (take len bytes))
    → StopsOn p q log (append_steps waits ++ finish_at keep from.marks reading) (finished_at keep from.marks reading)
    why
    → StopsOn o q log (append_steps waited ++ steps_on size keep (Some from) (sent reading bytes))
    (standing_on size keep (Some from) (sent reading bytes)) why
cut_stopped {o} {p} {q} {log} size keep from reading bytes len waited waits some within upto before full g s =
    let f : Front size keep from reading bytes len =
    record { some = some; within = within; upto = upto; before = before } in
    let all = cut_whole size keep from reading bytes len f full in
    let finish = finish_at keep from.marks reading in
    stops_before waited (append_steps (take len bytes) ++ finish) size keep (sent reading (drop len bytes)) _ _ all.0
    all.1
    (stops_then finish (append_steps (take len bytes) ++ finish) (finished_at keep from.marks reading) g refl refl s)

-- The file is not full yet.
pub open_done : {o p : StoreState} {log : ℕ} (size keep : ℕ) (from : Standing) (reading : Tai64n) (bytes : List ℕ)
    (len : ℕ) (waited waits : List ℕ)
    → 0 < len → len ≤ length bytes
    → ((k : ℕ) → 0 < k → k < len → fills size (from.count + k) (get_or bytes (k - 1) 0 == 10) ≡ false)
    → fills size (from.count + len) (get_or bytes (len - 1) 0 == 10) ≡ false
    → Goes o p log waited waits (append_steps (take len bytes))
    → Goes o p log waited waits (steps_on size keep (Some from) (sent reading (take len bytes)))
open_done {o} {p} {log} size keep from reading bytes len waited waits some within before last g =
    subst (λ (t : List Step). Goes o p log waited waits t)
    (sym (front_open size keep from reading bytes len some within (room_left size from.count len _ last) before last).0)
    g

-- A file that was already too large: what is done before the bytes.
pub over_steps : (size keep size' keep' : ℕ) (from : Standing) (now : Option Standing) (reading : Tai64n)
    (bytes : List ℕ) → 0 < size → size ≤ from.count
    → 0 < length bytes → size' ≡ size → keep' ≡ keep → finished_at keep from.marks reading ≡ now
    → (steps_on size keep (Some from) (sent reading bytes)
    ≡ finish_at keep from.marks reading ++ steps_on size' keep' now (sent reading bytes))
    × (standing_on size keep (Some from) (sent reading bytes) ≡ standing_on size' keep' now (sent reading bytes))
over_steps size keep size' keep' from now reading [] sized over some a b is = absurd (omega (arith, some))
over_steps size keep size' keep' from now reading (byte ∷ bytes) sized over some a b is =
    let s : Sent = record { byte = byte; reading = reading } in
    let text = sent reading bytes in
    let one = over_full size keep from s text sized over in
    let finish = finish_at keep from.marks reading in (
      one.0 ∙ ap (λ (r : Option Standing). finish ++ steps_on size keep r (s ∷ text)) is
          ∙ ap (λ (n : ℕ). finish ++ steps_on n keep now (s ∷ text)) (sym a)
          ∙ ap (λ (n : ℕ). finish ++ steps_on size' n now (s ∷ text)) (sym b),
      one.1 ∙ ap (λ (r : Option Standing). standing_on size keep r (s ∷ text)) is
          ∙ ap (λ (n : ℕ). standing_on n keep now (s ∷ text)) (sym a)
          ∙ ap (λ (n : ℕ). standing_on size' n now (s ∷ text)) (sym b),
    )

pub over_done : {o p q : StoreState} {log : ℕ} {waited waits now : List ℕ} (first later steps : List Step)
    → steps ≡ first ++ later
    → Does o p log (append_steps waited ++ first) → waits ≡ [] → Goes p q log waits now later
    → Goes o q log waited now steps
over_done {o} {p} {q} {log} {waited} {waits} {now} first later steps e d empty g =
    subst (λ (t : List Step). Goes o q log waited now t) (sym e) (Goes-then (Goes-through waited waits first empty d) g)

-- It was finished, and the log stopped later.
pub over_failed : {o p q : StoreState} {log : ℕ} {waits : List ℕ} {end : Option Standing} {why : LogFault}
    (waited : List ℕ) (first later steps : List Step)
    (last : Option Standing) → steps ≡ first ++ later → last ≡ end → Does o p log (append_steps waited ++ first)
    → waits ≡ []
    → StopsOn p q log (append_steps waits ++ later) end why → StopsOn o q log (append_steps waited ++ steps) last why
over_failed {o} {p} {q} {log} {waits} waited first later steps last e same d empty s =
    stops_then later steps last (Goes-through waited waits first empty d) e same s

-- A line's bytes, part by part.
pub put_further : {o p q : StoreState} {log : ℕ} {waited waits now : List ℕ} (size keep size' keep' : ℕ)
    (from to : Standing) (reading : Tai64n) (bytes : List ℕ) (at n : ℕ)
    → size' ≡ size → keep' ≡ keep → standing_on size keep (Some from) (sent reading (take at bytes)) ≡ Some to
    → Goes o p log waited waits (steps_on size keep (Some from) (sent reading (take at bytes)))
    → Goes p q log waits now
    (steps_on size' keep' (Some to) (sent reading (take n (take (length bytes - at) (drop at bytes)))))
    → Goes o q log waited now (steps_on size keep (Some from) (sent reading (take (at + n) bytes)))
put_further {o} {p} {q} {log} {waited} {waits} {now} size keep size' keep' from to reading bytes at n a b is g h =
    subst (λ (t : List Step). Goes o q log waited now t)
    (sym (steps_parted size keep size' keep' from (Some to) _ _ _ a b (sent-further reading bytes at n) is))
    (Goes-then g h)

pub put_stands : (size keep size' keep' : ℕ) (from to : Standing) (end : Option Standing) (reading : Tai64n)
    (bytes : List ℕ) (at n : ℕ)
    → size' ≡ size → keep' ≡ keep → standing_on size keep (Some from) (sent reading (take at bytes)) ≡ Some to
    → standing_on size' keep' (Some to) (sent reading (take n (take (length bytes - at) (drop at bytes)))) ≡ end
    → standing_on size keep (Some from) (sent reading (take (at + n) bytes)) ≡ end
put_stands size keep size' keep' from to end reading bytes at n a b is later =
    stands_parted size keep size' keep' from (Some to) _ _ _ a b (sent-further reading bytes at n) is ∙ later

pub put_stopped : {o p q : StoreState} {log : ℕ} {waited waits : List ℕ} {why : LogFault} (size keep size' keep' : ℕ)
    (from to : Standing) (reading : Tai64n) (bytes : List ℕ) (at : ℕ)
    → size' ≡ size → keep' ≡ keep → standing_on size keep (Some from) (sent reading (take at bytes)) ≡ Some to
    → Goes o p log waited waits (steps_on size keep (Some from) (sent reading (take at bytes)))
    → StopsOn p q log (append_steps waits
    ++ steps_on size' keep' (Some to) (sent reading (take (length bytes - at) (drop at bytes))))
    (standing_on size' keep' (Some to) (sent reading (take (length bytes - at) (drop at bytes)))) why
    → StopsOn o q log (append_steps waited ++ steps_on size keep (Some from) (sent reading bytes))
    (standing_on size keep (Some from) (sent reading bytes)) why
put_stopped {o} {p} {q} {log} {waited} {waits} size keep size' keep' from to reading bytes at a b is g s =
    stops_then _ _ _ g (steps_parted size keep size' keep' from (Some to) _ _ _ a b (sent-rest reading bytes at) is)
    (stands_parted size keep size' keep' from (Some to) _ _ _ a b (sent-rest reading bytes at) is) s

pub same_files : (files : Option Files) → Reaches files files []
same_files None = tt
same_files (Some files) = refl

pub if_ok_both : {T E : Type 0} (r : Result T E) (P Q R : T → Type 0) → ((x : T) → P x → Q x → R x) → IfOk r P
    → IfOk r Q → IfOk r R
if_ok_both (Ok x) P Q R all p q = all x p q
if_ok_both (Err e) P Q R all p q = tt
