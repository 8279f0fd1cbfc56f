-- One log of several.
use Rattle.std.proofs.Common.{◌≡◌, ◌≢◌, ℕ, zero, suc, ◌+◌, ◌<◌, ◌≤◌, ◌==◌, if◌then◌else◌, Bool, true, false, List, []}
use Rattle.std.proofs.Common.{◌∷◌, ◌++◌, length, take, set, get_or, Option, Some, None, refl, sym, subst, ap, ◌∙◌}
use Rattle.std.proofs.Common.{arith, append-nil, add-one, inl, inr}
use Rattle.std.proofs.lemmas.Bool.{cases_lt}
use Rattle.std.specs.Prelude.{slice_get}
use Rattle.tai_status.specs.Label.{Tai64n}
use Rattle.tai_status.specs.Lines.{Sent, sent}
use Rattle.mlog_script.specs.Selection.{flag_at}
use Rattle.mlog_files.specs.Files.{Files, Step, append_steps}
use Rattle.mlog_files.specs.Going.{Standing}
use Rattle.mlog_files.specs.Store.{StoreState, Reaches, Does, Fails}
use Rattle.mlog_files.specs.Tails.{size_of, keep_of, waiting_in, standing, SameLimits, Puts, PutsUpTo}
use Rattle.mlog_files.specs.declared.tail.Tail.{Tail}
use Rattle.mlog_files.proofs.Goings.{steps_on-none, standing_on-none}
use Rattle.mlog_line.specs.Given.{Given, nothing, joined, to_one, to_logs}
use Rattle.tai_status.specs.Counted.{Rose}
use Rattle.mlog_files.specs.declared.tail.LogFault.{LogFault}
use Rattle.mlog_files.specs.declared.tail.LogFault.TheVariants as fault
use Rattle.mlog_line.specs.Outputs.{Outputs, outputs, steps_for, after, TakesIn, TakesFront, TakesInAt, TakesFrontAt}
use Rattle.mlog_line.specs.Outputs.{Takes, IsSpent, Stops, SameGiven}
use Rattle.mlog_line.specs.LineRouter.{IsWrittenAt, IsWritten, IsWrittenUpTo}
use Rattle.mlog_line.proofs.Taking.{TakesInAt-none, TakesFrontAt-none, WasGiven-none, GivenFront-none, Appends-none}
use Rattle.mlog_line.proofs.Taking.{AppendsFront-none}
use Rattle.mlog_line.proofs.Taking.{Takes-same, Takes-then, Stops-same, Stops-then, Stops-more}

pub set_here : {X : Type 0} (xs : List X) (i : ℕ) (y : X) → i < length xs → slice_get (set xs i y) i ≡ Some y
set_here [] i y within = absurd (omega (arith, within))
set_here (x ∷ xs) zero y within = refl
set_here (x ∷ xs) (suc i) y within = set_here xs i y (omega (arith, within))

pub set_elsewhere : {X : Type 0} (xs : List X) (i j : ℕ) (y : X) → j ≢ i → slice_get (set xs i y) j ≡ slice_get xs j
set_elsewhere [] i j y apart = refl
set_elsewhere (x ∷ xs) zero zero y apart = absurd (apart refl)
set_elsewhere (x ∷ xs) zero (suc j) y apart = refl
set_elsewhere (x ∷ xs) (suc i) zero y apart = refl
set_elsewhere (x ∷ xs) (suc i) (suc j) y apart = set_elsewhere xs i j y (λ same. apart (ap suc same))

not_same : (i j : ℕ) → (i == j) ≡ false → i ≢ j
not_same i j e = λ is. grind (arith, e, is)

if_none : {X : Type 0} (b : Bool) → ◌≡◌ {A = List X} (if b then [] else []) []
if_none true = refl
if_none false = refl

-- The log with a number took a text, and the others are as before.
one_at : (tails now : List Tail) (old new : StoreState) (log other : ℕ) (text : List Sent) (b : Bool)
    → (other == log) ≡ b
    → TakesInAt (slice_get tails log) (slice_get now log) (old.visible.files log) (new.visible.files log) text
    → ((n : ℕ) → n ≢ log → slice_get now n ≡ slice_get tails n)
    → ((n : ℕ) → n ≢ log → new.visible.files n ≡ old.visible.files n)
    → TakesInAt (slice_get tails other) (slice_get now other) (old.visible.files other) (new.visible.files other)
    (if other == log then text else [])
one_at tails now old new log other text true e here rest files =
    let same : other ≡ log = grind (arith, e) in
    rw e (subst (λ (n : ℕ). TakesInAt (slice_get tails n) (slice_get now n) (old.visible.files n)
    (new.visible.files n) text)
    (sym same) here)
one_at tails now old new log other text false e here rest files =
    let apart = not_same other log e in
    rw e (subst (λ (t : Option Tail). TakesInAt (slice_get tails other) t (old.visible.files other)
    (new.visible.files other)
    []) (sym (rest other apart))
    (subst (λ (f : Option Files). TakesInAt (slice_get tails other) (slice_get tails other)
    (old.visible.files other) f [])
    (sym (files other apart))
    (TakesInAt-none (slice_get tails other) (old.visible.files other))))

front_at : (tails : List Tail) (old new : StoreState) (log other : ℕ) (text : List Sent) (b : Bool) → (other == log) ≡ b
    → TakesFrontAt (slice_get tails log) (old.visible.files log) (new.visible.files log) text
    → ((n : ℕ) → n ≢ log → new.visible.files n ≡ old.visible.files n)
    → TakesFrontAt (slice_get tails other) (old.visible.files other) (new.visible.files other)
    (if other == log then text else [])
front_at tails old new log other text true e here files =
    let same : other ≡ log = grind (arith, e) in
    rw e (subst (λ (n : ℕ). TakesFrontAt (slice_get tails n) (old.visible.files n) (new.visible.files n) text)
    (sym same)
    here)
front_at tails old new log other text false e here files =
    rw e (subst (λ (f : Option Files). TakesFrontAt (slice_get tails other) (old.visible.files other) f [])
    (sym (files other (not_same other log e)))
    (TakesFrontAt-none (slice_get tails other) (old.visible.files other) []))

at_here : (tails now : List Tail) (log : ℕ) (t u : Tail) (a b : Option Files) (text : List Sent)
    → slice_get tails log ≡ Some t → slice_get now log ≡ Some u
    → TakesIn t u a b text → TakesInAt (slice_get tails log) (slice_get now log) a b text
at_here tails now log t u a b text was is k = rw (was, is) k

front_here : (tails : List Tail) (log : ℕ) (t : Tail) (a b : Option Files) (text : List Sent)
    → slice_get tails log ≡ Some t
    → TakesFront t a b text → TakesFrontAt (slice_get tails log) a b text
front_here tails log t a b text was k = rw was k

-- All outputs, after one log took a text.
pub one_takes : (tails now : List Tail) (old new : StoreState) (log : ℕ) (t u : Tail) (text : List Sent)
    → slice_get tails log ≡ Some t → slice_get now log ≡ Some u
    → ((n : ℕ) → n ≢ log → slice_get now n ≡ slice_get tails n)
    → ((n : ℕ) → n ≢ log → new.visible.files n ≡ old.visible.files n)
    → new.visible.statuses ≡ old.visible.statuses → new.visible.alerts ≡ old.visible.alerts
    → old.failures ≤ new.failures
    → TakesIn t u (old.visible.files log) (new.visible.files log) text
    → Takes (outputs tails old) (outputs now new) (to_one log text)
one_takes tails now old new log t u text was is rest files statuses alerts steady k = record {
  logs = λ other. one_at tails now old new log other text (other == log) refl
      (at_here tails now log t u (old.visible.files log) (new.visible.files log) text was is k) rest files;
  alerts = rw alerts (Appends-none old.visible.alerts);
  files = λ file. rw statuses (WasGiven-none (old.visible.statuses file));
  steady = steady;
}

spent_here : (tails : List Tail) (log : ℕ) (t : Tail) (text : List Sent) → slice_get tails log ≡ Some t
    → after t text ≡ None
    → IsSpent (slice_get tails log) (if log == log then text else [])
spent_here tails log t text was none =
    let same : (log == log) ≡ true = grind arith in rw (was, same) none

pub one_stops : (tails now : List Tail) (old new : StoreState) (log : ℕ) (t : Tail) (text : List Sent) (why : LogFault)
    → slice_get tails log ≡ Some t
    → ((n : ℕ) → n ≢ log → new.visible.files n ≡ old.visible.files n)
    → new.visible.statuses ≡ old.visible.statuses → new.visible.alerts ≡ old.visible.alerts
    → TakesFront t (old.visible.files log) (new.visible.files log) text
    → (why ≡ fault.Store → Rose old.failures new.failures) → (why ≡ fault.LabelsSpent → after t text ≡ None)
    → Stops (outputs tails old) (outputs now new) (to_one log text) why
one_stops tails now old new log t text why was files statuses alerts k store spent = record {
  logs = λ other. front_at tails old new log other text (other == log) refl
      (front_here tails log t (old.visible.files log) (new.visible.files log) text was k) files;
  alerts = rw alerts (AppendsFront-none old.visible.alerts []);
  files = λ file. rw statuses (GivenFront-none (old.visible.statuses file) []);
  store = store;
  spent = λ is. record { log = log; spent = spent_here tails log t text was (spent is) };
}

-- A put

pub put_takes : (tails now : List Tail) (old new : StoreState) (log : ℕ) (t u : Tail) (label : Tai64n) (bytes : List ℕ)
    → log < length tails
    → slice_get tails log ≡ Some t → now ≡ set tails log u → Puts old new log t u label bytes → SameLimits t u
    → Takes (outputs tails old) (outputs now new) (to_one log (sent label bytes))
put_takes tails now old new log t u label bytes within was is k same =
    let d = k.goes.does in
    one_takes tails now old new log t u (sent label bytes) was
    (ap (λ (l : List Tail). slice_get l log) is ∙ set_here tails log u within)
    (λ n apart. ap (λ (l : List Tail). slice_get l n) is ∙ set_elsewhere tails log n u apart)
    d.others d.statuses d.alerts d.stays.steady
    (record {
      done = k.goes.done;
      reaches = d.here;
      whole = k.goes.whole;
      stands = k.stands;
      size = same.size;
      keep =
          same.keep;
    })

pub put_stops : (tails now : List Tail) (old new : StoreState) (log : ℕ) (t : Tail) (label : Tai64n) (bytes : List ℕ)
    (why : LogFault)
    → slice_get tails log ≡ Some t → PutsUpTo old new log t label bytes why
    → Stops (outputs tails old) (outputs now new) (to_one log (sent label bytes)) why
put_stops tails now old new log t label bytes why was s =
    one_stops tails now old new log t (sent label bytes) why was s.front.front.others s.front.front.statuses
    s.front.front.alerts
    (record { count = s.front.count; reaches = s.front.front.here }) s.store s.nowhere

nothing_one : (log : ℕ) → SameGiven (to_one log []) nothing
nothing_one log = record { logs = λ other. if_none (other == log); alerts = refl; files = λ file. refl }

-- A flush

no_steps : (t : Tail) (waited : List Step) → waited ++ steps_for t [] ≡ waited
no_steps t waited =
    ap (λ (s : List Step). waited ++ s) (steps_on-none (size_of t) (keep_of t) (Some (standing t))) ∙ append-nil waited

pub flush_takes : (tails now : List Tail) (old new : StoreState) (log : ℕ) (t u : Tail) → log < length tails
    → slice_get tails log ≡ Some t → now ≡ set tails log u → Does old new log (append_steps (waiting_in t))
    → waiting_in u ≡ []
    → standing u ≡ standing t → SameLimits t u
    → Takes (outputs tails old) (outputs now new) nothing
flush_takes tails now old new log t u within was is k empty stands same =
    Takes-same (outputs tails old) (outputs now new) (to_one log []) nothing
    (one_takes tails now old new log t u [] was
    (ap (λ (l : List Tail). slice_get l log) is ∙ set_here tails log u within)
    (λ n apart. ap (λ (l : List Tail). slice_get l n) is ∙ set_elsewhere tails log n u apart)
    k.others k.statuses k.alerts k.stays.steady
    (record {
      done = append_steps (waiting_in t);
      reaches = k.here;
      whole = ap (λ (w : List ℕ). append_steps (waiting_in t) ++ append_steps w) empty
          ∙ append-nil (append_steps (waiting_in t)) ∙ sym (no_steps t (append_steps (waiting_in t)));
      stands = standing_on-none (size_of t) (keep_of t) (Some (standing t))
          ∙ ap (λ (s : Standing). Some s) (sym stands);
      size = same.size;
      keep = same.keep;
    })) (nothing_one log)

pub flush_stops : (tails now : List Tail) (old new : StoreState) (log : ℕ) (t : Tail) (why : LogFault)
    → slice_get tails log ≡ Some t
    → Fails old new log (append_steps (waiting_in t)) → why ≡ fault.Store
    → Stops (outputs tails old) (outputs now new) nothing why
flush_stops tails now old new log t why was f is_store =
    let k = f.front in
    Stops-same (outputs tails old) (outputs now new) (to_one log []) nothing why
    (one_stops tails now old new log t [] why was k.front.others k.front.statuses k.front.alerts
    (record {
      count = k.count;
      reaches = subst (λ (s : List Step). Reaches (old.visible.files log) (new.visible.files log) (take k.count s))
          (sym (no_steps t (append_steps (waiting_in t)))) k.front.here;
    })
    (λ is. f.rose) (λ is. cc)) (nothing_one log)

written_by : (tails now : List Tail) (log n : ℕ) (u : Tail) → log < length tails → now ≡ set tails log u
    → waiting_in u ≡ []
    → IsWrittenUpTo log tails → n < log + 1 → (b : Bool) → (n == log) ≡ b → IsWrittenAt (slice_get now n)
written_by tails now log n u within is empty before below true e =
    let same : n ≡ log = grind (arith, e) in
    let here : slice_get now n ≡ Some u = ap (slice_get now) same ∙ ap (λ (l : List Tail). slice_get l log) is
    ∙ set_here tails log u within in
    rw here empty
written_by tails now log n u within is empty before below false e =
    let apart = not_same n log e in
    let lower : n < log = omega (arith, below, apart) in
    let there : slice_get now n ≡ slice_get tails n = ap (λ (l : List Tail). slice_get l n) is
    ∙ set_elsewhere tails log n u apart in
    subst (λ (t : Option Tail). IsWrittenAt t) (sym there) (before n lower)

-- One more log is written.
pub written_next : (tails now : List Tail) (log : ℕ) (u : Tail) → log < length tails → now ≡ set tails log u
    → waiting_in u ≡ []
    → IsWrittenUpTo log tails → IsWrittenUpTo (log + 1) now
written_next tails now log u within is empty before =
    λ n below. written_by tails now log n u within is empty before below (n == log) refl

-- Flags

-- One more flag.
pub flag_next : {X : Type 0} (flags : List Bool) (k : ℕ) (flag : Bool) (n : ℕ) (text : List X) → k < length flags
    → flag ≡ get_or flags k flag
    → (if flag_at (take k flags) n then text else []) ++ (if n == k then (if flag then text else []) else [])
    ≡ (if flag_at (take (k + 1) flags) n then text else [])
flag_next [] k flag n text within is = absurd (omega (arith, within))
flag_next (f ∷ fs) zero flag zero text within is = ap (λ (b : Bool). if b then text else []) is
flag_next (f ∷ fs) zero flag (suc n) text within is = let apart : (suc n == 0) ≡ false = grind arith in rw apart refl
flag_next (f ∷ fs) (suc k) flag zero text within is =
    let apart : (0 == suc k) ≡ false = grind arith in rw (add-one, apart) (append-nil (if f then text else []))
flag_next (f ∷ fs) (suc k) flag (suc n) text within is =
    let rest = flag_next fs k flag n text (omega (arith, within)) is in
    let same : (suc n == suc k) ≡ (n == k) = grind arith in rw (add-one, same) (rw (add-one) at rest)

pub chosen_next : (chosen : List Bool) (k : ℕ) (flag : Bool) (label : Tai64n) (bytes : List ℕ) → k < length chosen
    → flag ≡ get_or chosen k flag
    → SameGiven (joined (to_logs (take k chosen) label bytes) (to_one k (if flag then sent label bytes else [])))
    (to_logs (take (k + 1) chosen) label bytes)
chosen_next chosen k flag label bytes within is = record {
  logs = λ log. flag_next chosen k flag log (sent label bytes) within is;
  alerts = refl;
  files = λ file. refl;
}

pub chosen_further : (a b c : Outputs) (chosen : List Bool) (k : ℕ) (flag : Bool) (label : Tai64n) (bytes : List ℕ)
    → k < length chosen → flag ≡ get_or chosen k flag
    → Takes a b (to_logs (take k chosen) label bytes) → Takes b c (to_one k (if flag then sent label bytes else []))
    → Takes a c (to_logs (take (k + 1) chosen) label bytes)
chosen_further a b c chosen k flag label bytes within is t u =
    Takes-same a c (joined (to_logs (take k chosen) label bytes) (to_one k (if flag then sent label bytes else [])))
    (to_logs (take (k + 1) chosen) label bytes)
    (Takes-then a b c (to_logs (take k chosen) label bytes) (to_one k (if flag then sent label bytes else [])) t u)
    (chosen_next chosen k flag label bytes within is)

-- Later flags do not change the earlier ones.
pub later_flags : {X : Type 0} (flags : List Bool) (k n : ℕ) (text : List X)
    → (rest : List X) × ((if flag_at (take k flags) n then text else []) ++ rest
    ≡ (if flag_at flags n then text else []))
later_flags [] zero n text = ([], append-nil _)
later_flags [] (suc k) n text = ([], append-nil _)
later_flags (f ∷ fs) zero n text = (if flag_at (f ∷ fs) n then text else [], refl)
later_flags (f ∷ fs) (suc k) zero text = ([], append-nil (if f then text else []))
later_flags (f ∷ fs) (suc k) (suc n) text = later_flags fs k n text

pub chosen_stopped : (a b c : Outputs) (chosen : List Bool) (k : ℕ) (flag : Bool) (label : Tai64n) (bytes : List ℕ)
    (why : LogFault) → k < length chosen
    → flag ≡ get_or chosen k flag → Takes a b (to_logs (take k chosen) label bytes)
    → Stops b c (to_one k (if flag then sent label bytes else [])) why
    → Stops a c (to_logs chosen label bytes) why
chosen_stopped a b c chosen k flag label bytes why within is t u =
    let upto : Stops a c (to_logs (take (k + 1) chosen) label bytes) why =
    Stops-same a c (joined (to_logs (take k chosen) label bytes) (to_one k (if flag then sent label bytes else [])))
    (to_logs (take (k + 1) chosen) label bytes) why
    (Stops-then a b c (to_logs (take k chosen) label bytes) (to_one k (if flag then sent label bytes else [])) why t u)
    (chosen_next chosen k flag label bytes within is) in
    let rest : Given = record {
      logs = λ log. (later_flags chosen (k + 1) log (sent label bytes)).0;
      alerts = [];
      files = λ file. [];
    } in
    Stops-same a c (joined (to_logs (take (k + 1) chosen) label bytes) rest) (to_logs chosen label bytes) why
    (Stops-more a c (to_logs (take (k + 1) chosen) label bytes) rest why upto)
    (record {
      logs = λ log. (later_flags chosen (k + 1) log (sent label bytes)).1;
      alerts = refl;
      files =
          λ file. refl;
    })

past_end : (tails : List Tail) (log : ℕ) → length tails ≤ log → IsWrittenAt (slice_get tails log)
past_end [] log past = tt
past_end (t ∷ ts) zero past = absurd (omega (arith, past))
past_end (t ∷ ts) (suc log) past = past_end ts log (omega (arith, past))

pub all_written : (tails : List Tail) (count : ℕ) → IsWrittenUpTo count tails → length tails ≤ count → IsWritten tails
all_written tails count upto all =
    λ log. elim (cases_lt log count)
    [ inl below ↦ upto log below | inr past ↦ past_end tails log (omega (arith, past, all)) ]

same_default : (flags : List Bool) (k : ℕ) (a b : Bool) → k < length flags → get_or flags k a ≡ get_or flags k b
same_default [] k a b within = absurd (omega (arith, within))
same_default (f ∷ fs) zero a b within = refl
same_default (f ∷ fs) (suc k) a b within = same_default fs k a b (omega (arith, within))

pub read_flag : (flags : List Bool) (k : ℕ) → k < length flags
    → get_or flags k false ≡ get_or flags k (get_or flags k false)
read_flag [] k within = absurd (omega (arith, within))
read_flag (f ∷ fs) zero within = refl
read_flag (f ∷ fs) (suc k) within = same_default fs k false (get_or fs k false) (omega (arith, within))
