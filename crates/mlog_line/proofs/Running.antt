-- Texts that go to all logs.
use Rattle.std.proofs.Common.{◌≡◌, ℕ, suc, ◌+◌, ◌<◌, ◌≤◌, ◌==◌, nat_lt, if◌then◌else◌, Bool, true, false, List}
use Rattle.std.proofs.Common.{[], ◌∷◌, ◌++◌, length, take, set, Option, Some, refl, sym, subst, ap, ◌∙◌, arith}
use Rattle.std.proofs.Common.{append-nil}
use Rattle.std.specs.Prelude.{slice_get}
use Rattle.tai_status.specs.Lines.{Sent}
use Rattle.mlog_files.specs.Files.{Step, Append, append_steps, appends}
use Rattle.mlog_files.specs.Going.{Standing}
use Rattle.mlog_files.specs.Store.{StoreState, Reaches, Fails, Goes}
use Rattle.mlog_files.specs.Tails.{size_of, keep_of, waiting_in, standing, room_in, longer, SameLimits}
use Rattle.mlog_files.specs.declared.tail.Tail.{Tail}
use Rattle.mlog_files.specs.declared.tail.LogFault.{LogFault}
use Rattle.mlog_files.specs.declared.tail.LogFault.TheVariants as fault
use Rattle.mlog_files.proofs.Goings.{text_in_room}
use Rattle.mlog_line.specs.Given.{Given, joined, to_one, to_first, bytes_of}
use Rattle.mlog_line.specs.Outputs.{Outputs, outputs, steps_for, after, Takes, Stops, SameGiven}
use Rattle.mlog_line.specs.LineRouter.{HasRoomAt}
use Rattle.mlog_line.proofs.Ones.{set_here, set_elsewhere, one_takes, one_stops}
use Rattle.mlog_line.proofs.Taking.{Takes-same, Takes-then, Stops-same, Stops-then, Stops-more}

-- One log

appends_are : (text : List Sent) → appends text ≡ append_steps (bytes_of text)
appends_are [] = refl
appends_are (s ∷ text) = ap (λ (t : List Step). Append s.byte ∷ t) (appends_are text)

long_as : (text : List Sent) → length (bytes_of text) ≡ length text
long_as [] = refl
long_as (s ∷ text) = ap suc (long_as text)

room_at : (tails : List Tail) (log count : ℕ) (t : Tail) → slice_get tails log ≡ Some t
    → HasRoomAt count (slice_get tails log) → count ≤ room_in t
room_at tails log count t is room = subst (λ (o : Option Tail). HasRoomAt count o) is room

-- What a text does that a log has room for.
steps_are : (t : Tail) (bytes : List ℕ) (text : List Sent) → length bytes ≤ room_in t → bytes_of text ≡ bytes
    → (steps_for t text ≡ append_steps bytes) × (after t text ≡ Some (longer (standing t) (length bytes)))
steps_are t bytes text room is =
    let long : length text ≡ length bytes = sym (long_as text) ∙ ap length is in
    let all = text_in_room (size_of t) (keep_of t) (standing t) text (omega (arith, room, long)) in (
      all.0 ∙ appends_are text ∙ ap append_steps is,
      all.1 ∙ ap (λ (n : ℕ). Some (longer (standing t) n)) long,
    )

pub within_takes : (tails now : List Tail) (old new : StoreState) (log : ℕ) (t u : Tail) (bytes : List ℕ)
    (text : List Sent) → log < length tails
    → slice_get tails log ≡ Some t → now ≡ set tails log u → HasRoomAt (length bytes) (slice_get tails log)
    → Goes old new log (waiting_in t) (waiting_in u) (append_steps bytes)
    → standing u ≡ longer (standing t) (length bytes) → SameLimits t u → bytes_of text ≡ bytes
    → Takes (outputs tails old) (outputs now new) (to_one log text)
within_takes tails now old new log t u bytes text within was is room k stands same bytes_are =
    let s = steps_are t bytes text (room_at tails log (length bytes) t was room) bytes_are in
    one_takes tails now old new log t u text was
    (ap (λ (l : List Tail). slice_get l log) is ∙ set_here tails log u within)
    (λ n apart. ap (λ (l : List Tail). slice_get l n) is ∙ set_elsewhere tails log n u apart)
    k.does.others k.does.statuses k.does.alerts k.does.stays.steady
    (record {
      done = k.done;
      reaches = k.does.here;
      whole = k.whole ∙ ap (λ (w : List Step). append_steps (waiting_in t) ++ w) (sym s.0);
      stands = s.1 ∙ ap (λ (l : Standing). Some l) (sym stands);
      size = same.size;
      keep = same.keep;
    })

pub within_stops : (tails now : List Tail) (old new : StoreState) (log : ℕ) (t : Tail) (bytes : List ℕ)
    (text : List Sent) (why : LogFault) → slice_get tails log ≡ Some t
    → HasRoomAt (length bytes) (slice_get tails log)
    → Fails old new log (append_steps (waiting_in t) ++ append_steps bytes) → why ≡ fault.Store → bytes_of text ≡ bytes
    → Stops (outputs tails old) (outputs now new) (to_one log text) why
within_stops tails now old new log t bytes text why was room f is_store bytes_are =
    let k = f.front in
    let s = steps_are t bytes text (room_at tails log (length bytes) t was room) bytes_are in
    one_stops tails now old new log t text why was k.front.others k.front.statuses k.front.alerts
    (record {
      count = k.count;
      reaches = subst (λ (w : List Step).
          Reaches (old.visible.files log) (new.visible.files log) (take k.count (append_steps (waiting_in t) ++ w)))
          (sym s.0)
          k.front.here;
    })
    (λ is. f.rose) (λ is. cc)

pub others_as_before : (tails now : List Tail) (log : ℕ) (u : Tail) → now ≡ set tails log u → (n : ℕ) → log < n
    → slice_get now n ≡ slice_get tails n
others_as_before tails now log u is n above = ap (λ (l : List Tail). slice_get l n) is
    ∙ set_elsewhere tails log n u (λ same. omega (arith, above, same))

-- The first logs

next_by : {X : Type 0} (log k : ℕ) (text : List X) (a b c : Bool) → nat_lt log k ≡ a → (log == k) ≡ b
    → nat_lt log (k + 1) ≡ c
    → (if a then text else []) ++ (if b then text else []) ≡ (if c then text else [])
next_by log k text true true c ea eb ec = absurd (grind (arith, ea, eb))
next_by log k text true false true ea eb ec = append-nil text
next_by log k text true false false ea eb ec = absurd (grind (arith, ea, ec))
next_by log k text false true true ea eb ec = refl
next_by log k text false true false ea eb ec = absurd (grind (arith, eb, ec))
next_by log k text false false true ea eb ec = absurd (grind (arith, ea, eb, ec))
next_by log k text false false false ea eb ec = refl

first_next : (k : ℕ) (text : List Sent) → SameGiven (joined (to_first k text) (to_one k text)) (to_first (k + 1) text)
first_next k text = record {
  logs = λ log. next_by log k text (nat_lt log k) (log == k) (nat_lt log (k + 1)) refl refl refl;
  alerts = refl;
  files = λ file. refl;
}

pub first_further : (a b c : Outputs) (k : ℕ) (text : List Sent) → Takes a b (to_first k text)
    → Takes b c (to_one k text) → Takes a c (to_first (k + 1) text)
first_further a b c k text t u =
    Takes-same a c (joined (to_first k text) (to_one k text)) (to_first (k + 1) text)
    (Takes-then a b c (to_first k text) (to_one k text) t u) (first_next k text)

rest_by : {X : Type 0} (log k count : ℕ) (text : List X) (a b : Bool) → k ≤ count → nat_lt log k ≡ a
    → nat_lt log count ≡ b
    → (if a then text else []) ++ (if a then [] else (if b then text else [])) ≡ (if b then text else [])
rest_by log k count text true true few ea eb = append-nil text
rest_by log k count text true false few ea eb = absurd (grind (arith, ea, eb, few))
rest_by log k count text false b few ea eb = refl

pub first_stopped : (a b c : Outputs) (k count : ℕ) (text : List Sent) (why : LogFault) → k < count
    → Takes a b (to_first k text) → Stops b c (to_one k text) why
    → Stops a c (to_first count text) why
first_stopped a b c k count text why few t u =
    let upto : Stops a c (to_first (k + 1) text) why =
    Stops-same a c (joined (to_first k text) (to_one k text)) (to_first (k + 1) text) why
    (Stops-then a b c (to_first k text) (to_one k text) why t u) (first_next k text) in
    let rest : Given = record {
      logs =
          λ log. if nat_lt log (k + 1) then [] else (if nat_lt log count then text else []);
      alerts = [];
      files =
          λ file. [];
    } in
    Stops-same a c (joined (to_first (k + 1) text) rest) (to_first count text) why
    (Stops-more a c (to_first (k + 1) text) rest why upto)
    (record {
      logs = λ log. rest_by log (k + 1) count text (nat_lt log (k + 1)) (nat_lt log count) (omega (arith, few))
          refl refl;
      alerts = refl;
      files = λ file. refl;
    })
