-- Fronts of lines.
use Rattle.std.proofs.Common.{◌≡◌, ℕ, ◌-◌, ◌<◌, ◌≤◌, nat_le, if◌then◌else◌, Bool, true, false, List, [], ◌∷◌, ◌++◌}
use Rattle.std.proofs.Common.{length, take, refl, sym, subst, ap, ◌∙◌, arith, append_assoc, append-nil, length-append}
use Rattle.std.proofs.Math.Seq.{take-append-le}
use Rattle.std.proofs.lemmas.List.{take_all}
use Rattle.tai_status.specs.Label.{Tai64n}
use Rattle.std.specs.Prelude.{replicate}
use Rattle.std.specs.List.{flat_map}
use Rattle.tai_status.specs.Lines.{sent, stamp}
use Rattle.mlog_files.proofs.Goings.{sent-append}
use Rattle.mlog_files.specs.declared.tail.LogFault.{LogFault}
use Rattle.mlog_script.specs.Script.{Act}
use Rattle.mlog_script.specs.Selection.{Chosen, stamps, shown, chosen, chosen_line, flag_at, alert, padded, to_alerts}
use Rattle.mlog_script.specs.Selection.{to_file}
use Rattle.mlog_line.specs.Given.{Given, nothing, joined, of_line, of_front, of_chosen, of_put, so_far, to_logs}
use Rattle.mlog_line.specs.Outputs.{Outputs, Takes, Stops, SameGiven, Grows, StopsAt}
use Rattle.mlog_line.proofs.Growing.{Grows-none}

shown_by : (b : Bool) (label : Tai64n) (line more : List ℕ)
    → (if b then stamp label ++ (line ++ more) else line ++ more) ≡ (if b then stamp label ++ line else line) ++ more
shown_by true label line more = sym (append_assoc (stamp label) line more)
shown_by false label line more = refl

-- Bytes are shown in the order in which they come.
pub shown-append : (script : List Act) (label : Tai64n) (line more : List ℕ) → shown script label (line ++ more)
    ≡ shown script label line ++ more
shown-append script label line more = shown_by (stamps script) label line more

-- Later bytes do not change the first ones.
first_stay : (n : ℕ) (xs ys : List ℕ) → n ≤ length xs → take n (xs ++ ys) ≡ take n xs
first_stay n xs ys few = take-append-le n xs ys few

-- The outputs at which a line is selected

pub same_chosen : (script : List Act) (label : Tai64n) (line more : List ℕ) → 1000 ≤ length (shown script label line)
    → chosen_line script label (line ++ more) ≡ chosen_line script label line
same_chosen script label line more long =
    ap (chosen script) (ap (take 1000) (shown-append script label line more)
    ∙ first_stay 1000 (shown script label line) more long)

log_on : (label : Tai64n) (b c : Bool) (xs more whole : List ℕ) → c ≡ b → whole ≡ xs ++ more
    → (if b then sent label xs else []) ++ (if b then sent label more else []) ≡ (if c then sent label whole else [])
log_on label true c xs more whole same is = rw same (sym (sent-append label xs more) ∙ ap (sent label) (sym is))
log_on label false c xs more whole same is = rw same refl

alerted_as : List ℕ → Chosen → List ℕ
alerted_as text c = flat_map (λ (flag : Bool). if flag then text else []) c.alerts

file_as : ℕ → List ℕ → Chosen → List (List ℕ)
file_as file text c = if flag_at c.files file then text ∷ [] else []

padded_front : List ℕ → List ℕ
padded_front front = front ++ replicate (1001 - length front) 10

-- A line that is decided continues.
pub line_goes_on : (script : List Act) (label : Tai64n) (line more : List ℕ) → 1000 ≤ length (shown script label line)
    → SameGiven (joined (of_front script label line) (to_logs (chosen_line script label line).logs label more))
    (of_front script label (line ++ more))
unfolding alerted_as file_as padded_front
line_goes_on script label line more long =
    let was = shown script label line in
    let on : shown script label (line ++ more) ≡ was ++ more = shown-append script label line more in
    let same = same_chosen script label line more long in
    let alerted : alert (shown script label (line ++ more)) ≡ alert was =
    ap (λ (t : List ℕ). take 200 t ++ 10 ∷ []) on
    ∙ ap (λ (t : List ℕ). t ++ 10 ∷ []) (first_stay 200 was more (omega (arith, long))) in
    let content : padded (shown script label (line ++ more)) ≡ padded was =
    ap padded_front (ap (take 1000) on ∙ first_stay 1000 was more long) in
    record {
      logs = λ log. log_on label (flag_at (chosen_line script label line).logs log)
          (flag_at (chosen_line script label (line ++ more)).logs log) was more
          (shown script label (line ++ more)) (ap (λ (c : Chosen). flag_at c.logs log) same) on;
      alerts = append-nil (to_alerts script label line)
          ∙ sym (ap (alerted_as (alert (shown script label (line ++ more)))) same
          ∙ ap (λ (t : List ℕ). alerted_as t (chosen_line script label line)) alerted);
      files = λ file. append-nil (to_file script file label line)
          ∙ sym (ap (file_as file (padded (shown script label (line ++ more)))) same
          ∙ ap (λ (t : List ℕ). file_as file t (chosen_line script label line)) content);
    }

-- The line ends.
pub line_ends : (script : List Act) (label : Tai64n) (line : List ℕ)
    → SameGiven (joined (of_front script label line) (to_logs (chosen_line script label line).logs label (10 ∷ [])))
    (of_line script label line)
line_ends script label line = record {
  logs = λ log. log_on label (flag_at (chosen_line script label line).logs log)
      (flag_at (chosen_line script label line).logs log) (shown script label line) (10 ∷ [])
      (shown script label line ++ 10 ∷ []) refl refl;
  alerts = append-nil (to_alerts script label line);
  files = λ file. append-nil (to_file script file label line);
}

pub front_chosen : (script : List Act) (label : Tai64n) (line front : List ℕ) → front ≡ shown script label line
    → length front ≤ 1000
    → chosen script front ≡ chosen_line script label line
front_chosen script label line front is few =
    ap (chosen script) (sym (ap (take 1000) (sym is) ∙ take_all 1000 front few))

-- What is given for a front that is all of the line so far.
pub line_is_decided : (script : List Act) (label : Tai64n) (line front : List ℕ) → front ≡ shown script label line
    → length front ≤ 1000
    → SameGiven (of_chosen script label front) (of_front script label line)
unfolding alerted_as file_as
line_is_decided script label line front is few =
    let same = front_chosen script label line front is few in
    record {
      logs = λ log. ap (λ (c : Chosen). if flag_at c.logs log then sent label front else []) same
          ∙ ap (λ (t : List ℕ). if flag_at (chosen_line script label line).logs log then sent label t else []) is;
      alerts = ap (alerted_as (alert front)) same
          ∙ ap (λ (t : List ℕ). alerted_as (alert t) (chosen_line script label line)) is;
      files = λ file. ap (file_as file (padded front)) same
          ∙ ap (λ (t : List ℕ). file_as file (padded t) (chosen_line script label line)) is;
    }

-- A line up to now

pub kept_so_far : (script : List Act) (label : Tai64n) (line front : List ℕ) → front ≡ shown script label line
    → length front < 1000
    → nothing ≡ so_far script label line
kept_so_far script label line front is few =
    let short : nat_le 1000 (length (shown script label line)) ≡ false = let e = ap length is in
    grind (arith, few, e) in
    rw short refl

pub decided_so_far : (script : List Act) (label : Tai64n) (line : List ℕ) → 1000 ≤ length (shown script label line)
    → of_front script label line ≡ so_far script label line
decided_so_far script label line long =
    let many : nat_le 1000 (length (shown script label line)) ≡ true = grind (arith, long) in rw many refl

-- Further bytes are kept.
pub kept_on : (o : Outputs) (script : List Act) (label : Tai64n) (line front more : List ℕ)
    → front ≡ shown script label line → length front < 1000
    → length (front ++ more) < 1000 → Grows o o (so_far script label line) (so_far script label (line ++ more))
kept_on o script label line front more is few fewer =
    let a = kept_so_far script label line front is few in
    let b = kept_so_far script label (line ++ more) (front ++ more) (ap (λ (t : List ℕ). t ++ more) is
    ∙ sym (shown-append script label line more)) fewer in
    subst (λ (g : Given). Grows o o g (so_far script label (line ++ more))) a
    (subst (λ (g : Given). Grows o o nothing g) b (Grows-none o nothing))

from_nothing : (m y : Given) → SameGiven m y → SameGiven (joined nothing m) y
from_nothing m y s = record { logs = s.logs; alerts = s.alerts; files = s.files }

-- A kept front is decided, with bytes after it.
pub decides_at : (o n : Outputs) (script : List Act) (label : Tai64n) (line front line1 front1 : List ℕ)
    → front ≡ shown script label line → length front < 1000
    → front1 ≡ shown script label line1 → length front1 ≤ 1000 → Takes o n (of_chosen script label front1)
    → Grows o n (so_far script label line) (of_front script label line1)
decides_at o n script label line front line1 front1 is few is1 few1 k =
    subst (λ (g : Given). Grows o n g (of_front script label line1)) (kept_so_far script label line front is few)
    (record {
      more = of_chosen script label front1;
      whole = from_nothing (of_chosen script label front1) (of_front script label line1)
          (line_is_decided script label line1 front1 is1 few1);
      takes = k;
    })

pub decides_stopped : (o n : Outputs) (script : List Act) (label : Tai64n) (line front line1 front1 : List ℕ)
    (why : LogFault) → front ≡ shown script label line → length front < 1000
    → front1 ≡ shown script label line1 → length front1 ≤ 1000 → Stops o n (of_chosen script label front1) why
    → StopsAt o n (so_far script label line) (of_front script label line1) why
decides_stopped o n script label line front line1 front1 why is few is1 few1 k =
    subst (λ (g : Given). StopsAt o n g (of_front script label line1) why) (kept_so_far script label line front is few)
    (record {
      more = of_chosen script label front1;
      whole = from_nothing (of_chosen script label front1) (of_front script label line1)
          (line_is_decided script label line1 front1 is1 few1);
      stops = k;
    })

-- Further bytes of a line that is decided.
pub goes_at : (o n : Outputs) (script : List Act) (label : Tai64n) (line more : List ℕ) (flags : List Bool)
    → flags ≡ (chosen_line script label line).logs
    → 1000 ≤ length (shown script label line) → Takes o n (to_logs flags label more)
    → Grows o n (of_front script label line) (of_front script label (line ++ more))
goes_at o n script label line more flags is long k = record {
  more = to_logs (chosen_line script label line).logs label more;
  whole = line_goes_on script label line more long;
  takes = subst (λ (f : List Bool). Takes o n (to_logs f label more)) is k;
}

pub stops_at : (o n : Outputs) (script : List Act) (label : Tai64n) (line more : List ℕ) (flags : List Bool)
    (why : LogFault) → flags ≡ (chosen_line script label line).logs
    → 1000 ≤ length (shown script label line) → Stops o n (to_logs flags label more) why
    → StopsAt o n (of_front script label line) (of_front script label (line ++ more)) why
stops_at o n script label line more flags why is long k = record {
  more = to_logs (chosen_line script label line).logs label more;
  whole = line_goes_on script label line more long;
  stops = subst (λ (f : List Bool). Stops o n (to_logs f label more) why) is k;
}

pub long_on : (script : List Act) (label : Tai64n) (line more : List ℕ) → 1000 ≤ length (shown script label line)
    → 1000 ≤ length (shown script label (line ++ more))
long_on script label line more long =
    let e = ap length (shown-append script label line more) in let l = length-append (shown script label line) more in
    omega (arith, long, e, l)

-- the same, in the words of the router
pub decided_goes : (o n : Outputs) (script : List Act) (label : Tai64n) (line more : List ℕ) (flags : List Bool)
    → flags ≡ (chosen_line script label line).logs
    → 1000 ≤ length (shown script label line) → Takes o n (to_logs flags label more)
    → Grows o n (so_far script label line) (so_far script label (line ++ more))
decided_goes o n script label line more flags is long k =
    subst (λ (g : Given). Grows o n g (so_far script label (line ++ more))) (decided_so_far script label line long)
    (subst (λ (g : Given). Grows o n (of_front script label line) g)
    (decided_so_far script label (line ++ more) (long_on script label line more long))
    (goes_at o n script label line more flags is long k))

pub decided_stops : (o n : Outputs) (script : List Act) (label : Tai64n) (line more : List ℕ) (flags : List Bool)
    (why : LogFault) → flags ≡ (chosen_line script label line).logs
    → 1000 ≤ length (shown script label line) → Stops o n (to_logs flags label more) why
    → StopsAt o n (so_far script label line) (so_far script label (line ++ more)) why
decided_stops o n script label line more flags why is long k =
    subst (λ (g : Given). StopsAt o n g (so_far script label (line ++ more)) why)
    (decided_so_far script label line long)
    (subst (λ (g : Given). StopsAt o n (of_front script label line) g why)
    (decided_so_far script label (line ++ more) (long_on script label line more long))
    (stops_at o n script label line more flags why is long k))

-- the newline
pub ends_at : (o n : Outputs) (script : List Act) (label : Tai64n) (line : List ℕ) (flags : List Bool)
    → flags ≡ (chosen_line script label line).logs
    → Takes o n (to_logs flags label (10 ∷ [])) → Grows o n (of_front script label line) (of_line script label line)
ends_at o n script label line flags is k = record {
  more = to_logs (chosen_line script label line).logs label (10 ∷ []);
  whole = line_ends script label line;
  takes = subst (λ (f : List Bool). Takes o n (to_logs f label (10 ∷ []))) is k;
}

pub end_stops : (o n : Outputs) (script : List Act) (label : Tai64n) (line : List ℕ) (flags : List Bool)
    (why : LogFault) → flags ≡ (chosen_line script label line).logs
    → Stops o n (to_logs flags label (10 ∷ [])) why
    → StopsAt o n (of_front script label line) (of_line script label line) why
end_stops o n script label line flags why is k = record {
  more = to_logs (chosen_line script label line).logs label (10 ∷ []);
  whole = line_ends script label line;
  stops = subst (λ (f : List Bool). Stops o n (to_logs f label (10 ∷ [])) why) is k;
}

-- What is given for a line that is put whole, with its newline.
line_is_ended : (script : List Act) (label : Tai64n) (line front : List ℕ) → front ≡ shown script label line
    → length front ≤ 1000
    → SameGiven (of_put script label front (front ++ 10 ∷ [])) (of_line script label line)
unfolding alerted_as file_as
line_is_ended script label line front is few =
    let same = front_chosen script label line front is few in
    record {
      logs = λ log. ap (λ (c : Chosen). if flag_at c.logs log then sent label (front ++ 10 ∷ []) else []) same
          ∙ ap (λ (t : List ℕ). if flag_at (chosen_line script label line).logs log then sent label (t ++ 10 ∷ []) else
          []) is;
      alerts = ap (alerted_as (alert front)) same
          ∙ ap (λ (t : List ℕ). alerted_as (alert t) (chosen_line script label line)) is;
      files = λ file. ap (file_as file (padded front)) same
          ∙ ap (λ (t : List ℕ). file_as file (padded t) (chosen_line script label line)) is;
    }

pub ends_whole : (o n : Outputs) (script : List Act) (label : Tai64n) (line front : List ℕ)
    → front ≡ shown script label line → length front < 1000
    → Takes o n (of_put script label front (front ++ 10 ∷ []))
    → Grows o n (so_far script label line) (of_line script label line)
ends_whole o n script label line front is few k =
    subst (λ (g : Given). Grows o n g (of_line script label line)) (kept_so_far script label line front is few)
    (record {
      more = of_put script label front (front ++ 10 ∷ []);
      whole = from_nothing (of_put script label front (front ++ 10 ∷ [])) (of_line script label line)
          (line_is_ended script label line front is (omega (arith, few)));
      takes = k;
    })

pub stops_whole : (o n : Outputs) (script : List Act) (label : Tai64n) (line front : List ℕ) (why : LogFault)
    → front ≡ shown script label line → length front < 1000
    → Stops o n (of_put script label front (front ++ 10 ∷ [])) why
    → StopsAt o n (so_far script label line) (of_line script label line) why
stops_whole o n script label line front why is few k =
    subst (λ (g : Given). StopsAt o n g (of_line script label line) why) (kept_so_far script label line front is few)
    (record {
      more = of_put script label front (front ++ 10 ∷ []);
      whole = from_nothing (of_put script label front (front ++ 10 ∷ [])) (of_line script label line)
          (line_is_ended script label line front is (omega (arith, few)));
      stops = k;
    })
