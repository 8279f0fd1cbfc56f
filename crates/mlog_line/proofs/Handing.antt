-- What a router does, by its place.
use Rattle.std.proofs.Common.{◌≡◌, ℕ, ◌+◌, ◌-◌, ◌<◌, ◌≤◌, Bool, true, false, List, [], ◌∷◌, ◌++◌, length, take, drop}
use Rattle.std.proofs.Common.{sym, subst, ap, ◌∙◌, arith, append_assoc, append-nil, length-append}
use Rattle.std.proofs.lemmas.List.{take_rest, take-append-drop, length-take}
use Rattle.tai_status.specs.Label.{Tai64n, label_text}
use Rattle.tai_status.specs.Lines.{stamp}
use Rattle.mlog_script.specs.Script.{Act}
use Rattle.mlog_script.specs.Selection.{Chosen, stamps, shown, chosen, chosen_line}
use Rattle.mlog_files.specs.declared.tail.Tail.{Tail}
use Rattle.mlog_files.specs.declared.tail.LogFault.{LogFault}
use Rattle.mlog_line.specs.Given.{Given, of_line, of_front, of_put, of_chosen, so_far, to_logs}
use Rattle.mlog_line.specs.Outputs.{Outputs, Takes, Stops, Grows, StopsAt}
use Rattle.mlog_line.specs.LineRouter.{Place, IsAt, IsKeptOrDecided}
use Rattle.mlog_line.proofs.Growing.{Grows-then, StopsAt-then, StopsAt-more}
use Rattle.mlog_line.proofs.Fronts.{shown-append, front_chosen, same_chosen, line_goes_on, kept_on, decides_at}
use Rattle.mlog_line.proofs.Fronts.{decides_stopped, goes_at, stops_at, long_on, decided_so_far, decided_goes}
use Rattle.mlog_line.proofs.Fronts.{decided_stops, ends_at, end_stops, ends_whole, stops_whole}

place : List Tail → Chosen → List ℕ → Bool → Place
place tails c front decided = record { tails = tails; chosen = c; front = front; decided = decided }

pub at_decided : (script : List Act) (p : Place) (label : Tai64n) (line : List ℕ) → p.decided ≡ true
    → IsAt script p label line
    → (p.chosen ≡ chosen_line script label line) × (1000 ≤ length (shown script label line))
at_decided script p label line is at = subst (λ (d : Bool). IsKeptOrDecided d script p.chosen p.front label line) is at

pub at_kept : (script : List Act) (p : Place) (label : Tai64n) (line : List ℕ) → p.decided ≡ false
    → IsAt script p label line
    → (p.front ≡ shown script label line) × (length p.front < 1000)
at_kept script p label line is at = subst (λ (d : Bool). IsKeptOrDecided d script p.chosen p.front label line) is at

pub is_decided : (script : List Act) (d : Bool) (c : Chosen) (front : List ℕ) (label : Tai64n) (line : List ℕ)
    → d ≡ true
    → c ≡ chosen_line script label line → 1000 ≤ length (shown script label line)
    → IsKeptOrDecided d script c front label line
is_decided script d c front label line is same long =
    subst (λ (d : Bool). IsKeptOrDecided d script c front label line) (sym is) (same, long)

-- Bytes of a line that is decided.
pub put_at : (script : List Act) (p : Place) (d : Bool) (c : Chosen) (front : List ℕ) (label : Tai64n)
    (line more : List ℕ) → p.decided ≡ true → d ≡ true → c ≡ p.chosen
    → IsAt script p label line → IsKeptOrDecided d script c front label (line ++ more)
put_at script p d c front label line more is same_d same_c at =
    let a = at_decided script p label line is at in
    is_decided script d c front label (line ++ more) same_d
    (same_c ∙ a.0 ∙ sym (same_chosen script label line more a.1)) (long_on script label line more a.1)

pub put_grows : (script : List Act) (p : Place) (label : Tai64n) (line more : List ℕ) (o o1 n : Outputs)
    (flags : List Bool) → p.decided ≡ true → o1 ≡ o → flags ≡ p.chosen.logs
    → Takes o1 n (to_logs flags label more) → IsAt script p label line
    → Grows o n (so_far script label line) (so_far script label (line ++ more))
put_grows script p label line more o o1 n flags is same sf k at =
    let a = at_decided script p label line is at in
    decided_goes o n script label line more flags (sf ∙ ap (λ (c : Chosen). c.logs) a.0) a.1
    (subst (λ (t : Outputs). Takes t n (to_logs flags label more)) same k)

pub put_stopped : (script : List Act) (p : Place) (label : Tai64n) (line more : List ℕ) (o o1 n : Outputs)
    (flags : List Bool) (why : LogFault) → p.decided ≡ true → o1 ≡ o → flags ≡ p.chosen.logs
    → Stops o1 n (to_logs flags label more) why → IsAt script p label line
    → StopsAt o n (so_far script label line) (so_far script label (line ++ more)) why
put_stopped script p label line more o o1 n flags why is same sf k at =
    let a = at_decided script p label line is at in
    decided_stops o n script label line more flags why (sf ∙ ap (λ (c : Chosen). c.logs) a.0) a.1
    (subst (λ (t : Outputs). Stops t n (to_logs flags label more) why) same k)

-- Bytes that are kept.
pub hold_at : (script : List Act) (p : Place) (d : Bool) (c : Chosen) (front : List ℕ) (label : Tai64n)
    (line more : List ℕ) → p.decided ≡ false → d ≡ false
    → front ≡ p.front ++ more → length p.front + length more < 1000 → IsAt script p label line
    → IsKeptOrDecided d script c front label (line ++ more)
hold_at script p d c front label line more is kept made few at =
    let a = at_kept script p label line is at in
    subst (λ (d : Bool). IsKeptOrDecided d script c front label (line ++ more)) (sym kept) (
      made ∙ ap (λ (t : List ℕ). t ++ more) a.0 ∙ sym (shown-append script label line more),
      (let e = ap length made in let l = length-append p.front more in omega (arith, e, l, few)),
    )

pub hold_grows : (script : List Act) (p : Place) (label : Tai64n) (line more : List ℕ) (o o1 : Outputs)
    → p.decided ≡ false → o1 ≡ o → length p.front + length more < 1000
    → IsAt script p label line → Grows o o1 (so_far script label line) (so_far script label (line ++ more))
hold_grows script p label line more o o1 is same few at =
    let a = at_kept script p label line is at in
    let l = length-append p.front more in
    subst (λ (t : Outputs). Grows o t (so_far script label line) (so_far script label (line ++ more))) (sym same)
    (kept_on o script label line p.front more a.0 a.1 (omega (arith, few, l)))

-- What is known when the front is complete.
record Whole (script : List Act) (label : Tai64n) (line first rest bytes front : List ℕ) : Type 0 where
  here : front ≡ shown script label (line ++ first)
  few : length front ≤ 1000
  long : 1000 ≤ length (shown script label (line ++ first))
  all : (line ++ first) ++ rest ≡ line ++ bytes

is_whole_front : (script : List Act) (p : Place) (label : Tai64n) (line first rest bytes front : List ℕ)
    → p.decided ≡ false → IsAt script p label line
    → front ≡ p.front ++ first → length front ≡ 1000 → first ++ rest ≡ bytes
    → Whole script label line first rest bytes front
is_whole_front script p label line first rest bytes front is at made long cut =
    let a = at_kept script p label line is at in
    let here : front ≡ shown script label (line ++ first) = made ∙ ap (λ (t : List ℕ). t ++ first) a.0
    ∙ sym (shown-append script label line first) in
    record {
      here = here;
      few = omega (arith, long);
      long = let e = ap length here in omega (arith, long, e);
      all = append_assoc line first rest ∙ ap (λ (t : List ℕ). line ++ t) cut;
    }

-- A front that is put with no bytes after it.
pub plain_takes : {o n : Outputs} (script : List Act) (label : Tai64n) (front : List ℕ)
    → Takes o n (of_put script label front (front ++ [])) → Takes o n (of_chosen script label front)
plain_takes {o} {n} script label front k =
    subst (λ (t : List ℕ). Takes o n (of_put script label front t)) (append-nil front) k

pub plain_stops : {o n : Outputs} {why : LogFault} (script : List Act) (label : Tai64n) (front : List ℕ)
    → Stops o n (of_put script label front (front ++ [])) why
    → Stops o n (of_chosen script label front) why
plain_stops {o} {n} {why} script label front k =
    subst (λ (t : List ℕ). Stops o n (of_put script label front t) why) (append-nil front) k

pub full_stopped : (script : List Act) (p : Place) (label : Tai64n) (line first rest bytes front : List ℕ)
    (o o1 n : Outputs) (why : LogFault) → p.decided ≡ false → o1 ≡ o
    → front ≡ p.front ++ first → length front ≡ 1000 → first ++ rest ≡ bytes
    → Stops o1 n (of_chosen script label front) why
    → IsAt script p label line → StopsAt o n (so_far script label line) (so_far script label (line ++ bytes)) why
full_stopped script p label line first rest bytes front o o1 n why is same made long cut k at =
    let a = at_kept script p label line is at in
    let w = is_whole_front script p label line first rest bytes front is at made long cut in
    let line1 = line ++ first in
    let end : of_front script label (line1 ++ rest) ≡ so_far script label (line ++ bytes) =
    decided_so_far script label (line1 ++ rest) (long_on script label line1 rest w.long)
    ∙ ap (so_far script label) w.all in
    subst (λ (g : Given). StopsAt o n (so_far script label line) g why) end
    (StopsAt-more o n (so_far script label line) (of_front script label line1)
    (to_logs (chosen_line script label line1).logs label rest) (of_front script label (line1 ++ rest)) why
    (decides_stopped o n script label line p.front line1 front why a.0 a.1 w.here w.few
    (subst (λ (t : Outputs). Stops t n (of_chosen script label front) why) same k))
    (line_goes_on script label line1 rest w.long))

pub full_grows : (script : List Act) (p : Place) (label : Tai64n) (line first rest bytes front : List ℕ)
    (o o1 m m1 n : Outputs) (c : Chosen) (flags : List Bool)
    → p.decided ≡ false → o1 ≡ o → m1 ≡ m → front ≡ p.front ++ first → length front ≡ 1000 → first ++ rest ≡ bytes
    → Takes o1 m (of_chosen script label front)
    → c ≡ chosen script front → flags ≡ c.logs → Takes m1 n (to_logs flags label rest)
    → IsAt script p label line → Grows o n (so_far script label line) (so_far script label (line ++ bytes))
full_grows script p label line first rest bytes front o o1 m m1 n c flags is same same_m made long cut k ic sf l at =
    let a = at_kept script p label line is at in
    let w = is_whole_front script p label line first rest bytes front is at made long cut in
    let line1 = line ++ first in
    let flags_are : flags ≡ (chosen_line script label line1).logs = sf
    ∙ ap (λ (c : Chosen). c.logs) (ic ∙ front_chosen script label line1 front w.here w.few) in
    let end : of_front script label (line1 ++ rest) ≡ so_far script label (line ++ bytes) =
    decided_so_far script label (line1 ++ rest) (long_on script label line1 rest w.long)
    ∙ ap (so_far script label) w.all in
    subst (λ (g : Given). Grows o n (so_far script label line) g) end
    (Grows-then o m n (so_far script label line) (of_front script label line1) (of_front script label (line1 ++ rest))
    (decides_at o m script label line p.front line1 front a.0 a.1 w.here w.few
    (subst (λ (t : Outputs). Takes t m (of_chosen script label front)) same k))
    (goes_at m n script label line1 rest flags flags_are w.long
    (subst (λ (t : Outputs). Takes t n (to_logs flags label rest)) same_m l)))

pub full_goes_stopped : (script : List Act) (p : Place) (label : Tai64n) (line first rest bytes front : List ℕ)
    (o o1 m m1 n : Outputs) (c : Chosen) (flags : List Bool) (why : LogFault)
    → p.decided ≡ false → o1 ≡ o → m1 ≡ m → front ≡ p.front ++ first → length front ≡ 1000 → first ++ rest ≡ bytes
    → Takes o1 m (of_chosen script label front)
    → c ≡ chosen script front → flags ≡ c.logs → Stops m1 n (to_logs flags label rest) why
    → IsAt script p label line → StopsAt o n (so_far script label line) (so_far script label (line ++ bytes)) why
full_goes_stopped script p label line first rest bytes front o o1 m m1 n c flags why is same same_m made long cut k ic
    sf l at =
    let a = at_kept script p label line is at in
    let w = is_whole_front script p label line first rest bytes front is at made long cut in
    let line1 = line ++ first in
    let flags_are : flags ≡ (chosen_line script label line1).logs = sf
    ∙ ap (λ (c : Chosen). c.logs) (ic ∙ front_chosen script label line1 front w.here w.few) in
    let end : of_front script label (line1 ++ rest) ≡ so_far script label (line ++ bytes) =
    decided_so_far script label (line1 ++ rest) (long_on script label line1 rest w.long)
    ∙ ap (so_far script label) w.all in
    subst (λ (g : Given). StopsAt o n (so_far script label line) g why) end
    (StopsAt-then o m n (so_far script label line) (of_front script label line1) (of_front script label (line1 ++ rest))
    why
    (decides_at o m script label line p.front line1 front a.0 a.1 w.here w.few
    (subst (λ (t : Outputs). Takes t m (of_chosen script label front)) same k))
    (stops_at m n script label line1 rest flags why flags_are w.long
    (subst (λ (t : Outputs). Stops t n (to_logs flags label rest) why) same_m l)))

pub full_at : (script : List Act) (p : Place) (label : Tai64n) (line first rest bytes front : List ℕ) (d : Bool)
    (c : Chosen) (kept : List ℕ)
    → p.decided ≡ false → front ≡ p.front ++ first → length front ≡ 1000 → first ++ rest ≡ bytes → d ≡ true
    → c ≡ chosen script front
    → IsAt script p label line → IsKeptOrDecided d script c kept label (line ++ bytes)
full_at script p label line first rest bytes front d c kept is made long cut id ic at =
    let w = is_whole_front script p label line first rest bytes front is at made long cut in
    let line1 = line ++ first in
    subst (λ (l : List ℕ). IsKeptOrDecided d script c kept label l) w.all
    (is_decided script d c kept label (line1 ++ rest) id
    (ic ∙ front_chosen script label line1 front w.here w.few ∙ sym (same_chosen script label line1 rest w.long))
    (long_on script label line1 rest w.long))

-- Ends

pub end_grows : (script : List Act) (p : Place) (label : Tai64n) (line : List ℕ) (o o1 n : Outputs) (flags : List Bool)
    → p.decided ≡ true → o1 ≡ o → flags ≡ p.chosen.logs
    → Takes o1 n (to_logs flags label (10 ∷ [])) → IsAt script p label line
    → Grows o n (so_far script label line) (of_line script label line)
end_grows script p label line o o1 n flags is same sf k at =
    let a = at_decided script p label line is at in
    subst (λ (g : Given). Grows o n g (of_line script label line)) (decided_so_far script label line a.1)
    (ends_at o n script label line flags (sf ∙ ap (λ (c : Chosen). c.logs) a.0)
    (subst (λ (t : Outputs). Takes t n (to_logs flags label (10 ∷ []))) same k))

pub end_stopped : (script : List Act) (p : Place) (label : Tai64n) (line : List ℕ) (o o1 n : Outputs)
    (flags : List Bool) (why : LogFault) → p.decided ≡ true → o1 ≡ o → flags ≡ p.chosen.logs
    → Stops o1 n (to_logs flags label (10 ∷ [])) why → IsAt script p label line
    → StopsAt o n (so_far script label line) (of_line script label line) why
end_stopped script p label line o o1 n flags why is same sf k at =
    let a = at_decided script p label line is at in
    subst (λ (g : Given). StopsAt o n g (of_line script label line) why) (decided_so_far script label line a.1)
    (end_stops o n script label line flags why (sf ∙ ap (λ (c : Chosen). c.logs) a.0)
    (subst (λ (t : Outputs). Stops t n (to_logs flags label (10 ∷ [])) why) same k))

pub kept_end_grows : (script : List Act) (p : Place) (label : Tai64n) (line : List ℕ) (o n : Outputs)
    → p.decided ≡ false
    → Takes o n (of_put script label p.front (p.front ++ 10 ∷ [])) → IsAt script p label line
    → Grows o n (so_far script label line) (of_line script label line)
kept_end_grows script p label line o n is k at =
    let a = at_kept script p label line is at in ends_whole o n script label line p.front a.0 a.1 k

pub kept_end_stopped : (script : List Act) (p : Place) (label : Tai64n) (line : List ℕ) (o n : Outputs) (why : LogFault)
    → p.decided ≡ false
    → Stops o n (of_put script label p.front (p.front ++ 10 ∷ [])) why → IsAt script p label line
    → StopsAt o n (so_far script label line) (of_line script label line) why
kept_end_stopped script p label line o n why is k at =
    let a = at_kept script p label line is at in stops_whole o n script label line p.front why a.0 a.1 k

-- A line that begins after a stamp.
pub stamped_front : (script : List Act) (label : Tai64n) (front text : List ℕ) → stamps script ≡ true
    → text ≡ label_text label → front ≡ text ++ 32 ∷ [] → length text ≡ 25
    → (front ≡ shown script label []) × (length front < 1000)
unfolding stamp
stamped_front script label front text is named made long = (
  made ∙ ap (λ (t : List ℕ). t ++ 32 ∷ []) named ∙ (rw is (sym (append-nil (label_text label ++ 32 ∷ [])))),
  (let e = ap length made in let l = length-append text (32 ∷ []) in omega (arith, e, l, long)),
)

-- Room

pub room_is : (front kept bytes : List ℕ) → kept ≡ front → length bytes < 1000 - length kept
    → length front + length bytes < 1000
room_is front kept bytes is few = let e = ap length is in omega (arith, e, few)

pub front_is : (front kept bytes now inside : List ℕ) → kept ≡ front → inside ≡ front → length inside ≤ 1000
    → 1000 - length kept ≤ length bytes
    → now ≡ inside ++ take (1000 - length kept) bytes
    → (now ≡ front ++ take (1000 - length kept) bytes) × (length now ≡ 1000)
front_is front kept bytes now inside is same within many made = (
  made ∙ ap (λ (t : List ℕ). t ++ take (1000 - length kept) bytes) same,
  (let e = ap length is in let s = ap length same in let m = ap length made in
      let l = length-append inside (take (1000 - length kept) bytes) in
      let t = length-take (1000 - length kept) bytes in omega (arith, e, s, m, l, t, within, many)),
)

pub parts_are : (n : ℕ) (bytes : List ℕ) → take n bytes ++ take (length bytes - n) (drop n bytes) ≡ bytes
parts_are n bytes = ap (λ (t : List ℕ). take n bytes ++ t) (take_rest bytes n) ∙ take-append-drop n bytes
