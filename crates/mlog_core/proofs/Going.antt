-- Bytes that come after others.
use Rattle.std.proofs.Common.{◌≡◌, ℕ, ◌+◌, ◌-◌, ◌<◌, Bool, true, false, List, [], ◌∷◌, ◌++◌, length, take, drop, Option}
use Rattle.std.proofs.Common.{Some, None, refl, sym, subst, ap, ◌∙◌, arith, append_assoc, append-nil, length-append}
use Rattle.tai_status.specs.Label.{Tai64n}
use Rattle.tai_status.specs.Lines.{texts_of}
use Rattle.tai_status.specs.Extended.{Extended}
use Rattle.tai_status.specs.LineReader.{IsPlain}
use Rattle.tai_status.proofs.Stamped.{Extended-then, Extended-none}
use Rattle.tai_status.proofs.Texts.{texts_of-line}
use Rattle.mlog_script.specs.Script.{Act}
use Rattle.mlog_script.specs.Selection.{Chosen}
use Rattle.mlog_script.proofs.Texts.{texts-append}
use Rattle.mlog_files.specs.Store.{StoreState}
use Rattle.mlog_files.specs.declared.tail.LogFault.{LogFault}
use Rattle.std.proofs.Math.Seq.{take-add}
use Rattle.std.proofs.lemmas.List.{take_rest, take-append-drop}
use Rattle.mlog_line.specs.LineRouter.{Place, IsAt, IsKeptOrDecided}
use Rattle.mlog_line.specs.Given.{Given, nothing, joined, of_line, of_text, so_far}
use Rattle.mlog_line.specs.Outputs.{Outputs, outputs, Takes, Stops, SameGiven, Grows, StopsAt}
use Rattle.mlog_line.proofs.Growing.{Same-then, Same-sym, Same-nothing, Same-moved, Same-joined, Same-behind}
use Rattle.mlog_line.proofs.Growing.{Grows-none, Grows-then, Grows-same, Grows-behind, StopsAt-then, StopsAt-more}
use Rattle.mlog_line.proofs.Growing.{StopsAt-same, StopsAt-behind}
use Rattle.mlog_core.specs.Run.{labels_of, given_in}
use Rattle.mlog_core.specs.Scene.{Scene, scene, outputs_of, IsInLine, IsIn, Went, WentUpTo}
use Rattle.mlog_core.specs.Scene.{LineOpen, LineEnded, left_of}
use Rattle.mlog_core.proofs.Lines.{plain_both, whole_end, whole_both, cut_one, first_line, last_line, text_turn, ahead}
use Rattle.mlog_core.proofs.Lines.{begun_nothing, text_line}

-- A line

pub line_put_stopped : (script : List Act) (label : Tai64n) (line bytes : List ℕ) (len : ℕ) (ends : Bool)
    (o n : Outputs) (why : LogFault) → IsPlain (take len bytes) → 0 < length bytes
    → (ends ≡ true → (len < length bytes) × (bytes ≡ take len bytes ++ 10 ∷ drop (len + 1) bytes))
    → (ends ≡ false → len ≡ length bytes)
    → StopsAt o n (so_far script label line) (so_far script label (line ++ take len bytes)) why → IsPlain line
    → StopsAt o n (so_far script label line) (of_text script (label ∷ []) (line ++ bytes)) why
line_put_stopped script label line bytes len ends o n why plain some newline none s a =
    let line1 = line ++ take len bytes in
    let h = ahead script label line1 in
    StopsAt-more o n (so_far script label line) (so_far script label line1) h.rest
    (of_text script (label ∷ []) (line ++ bytes)) why s
    (Same-then (joined (so_far script label line1) h.rest) (of_line script label line1)
    (of_text script (label ∷ []) (line ++ bytes)) h.whole
    (text_line script label line bytes len ends ends refl a plain some newline none))

pub line_end_stopped : (script : List Act) (label : Tai64n) (line bytes : List ℕ) (len : ℕ) (ends : Bool)
    (o m n : Outputs) (why : LogFault) → IsPlain (take len bytes) → 0 < length bytes
    → (ends ≡ true → (len < length bytes) × (bytes ≡ take len bytes ++ 10 ∷ drop (len + 1) bytes))
    → (ends ≡ false → len ≡ length bytes)
    → Grows o m (so_far script label line) (so_far script label (line ++ take len bytes))
    → StopsAt m n (so_far script label (line ++ take len bytes)) (of_line script label (line ++ take len bytes)) why
    → IsPlain line
    → StopsAt o n (so_far script label line) (of_text script (label ∷ []) (line ++ bytes)) why
line_end_stopped script label line bytes len ends o m n why plain some newline none g s a =
    let line1 = line ++ take len bytes in
    StopsAt-same o n (so_far script label line) (of_line script label line1)
    (of_text script (label ∷ []) (line ++ bytes)) why
    (StopsAt-then o m n (so_far script label line) (so_far script label line1) (of_line script label line1) why g s)
    (text_line script label line bytes len ends ends refl a plain some newline none)

pub line_ended : (script : List Act) (label : Tai64n) (line bytes : List ℕ) (len : ℕ) (o m n : Outputs)
    → IsPlain (take len bytes)
    → (len < length bytes) × (bytes ≡ take len bytes ++ 10 ∷ drop (len + 1) bytes)
    → Grows o m (so_far script label line) (so_far script label (line ++ take len bytes))
    → Grows m n (so_far script label (line ++ take len bytes)) (of_line script label (line ++ take len bytes))
    → LineEnded script o n label line (take (len + 1) bytes)
line_ended script label line bytes len o m n plain newline g h = record {
  text = take len bytes;
  plain = plain;
  ends = cut_one bytes len newline.0 newline.1;
  grows = Grows-then o m n (so_far script label line) (so_far script label (line ++ take len bytes))
      (of_line script label (line ++ take len bytes)) g h;
}

-- Parts

nothing_before : (script : List Act) (x : Given) → SameGiven x (joined (of_text script [] []) x)
nothing_before script x = record { logs = λ log. refl; alerts = refl; files = λ file. refl }

one_text : (label : Tai64n) (script : List Act) (line : List ℕ) → IsPlain line
    → SameGiven (of_line script label line) (joined (of_text script (label ∷ []) (line ++ 10 ∷ [])) nothing)
one_text label script line plain =
    Same-then (of_line script label line) (of_text script (label ∷ []) (line ++ 10 ∷ []))
    (joined (of_text script (label ∷ []) (line ++ 10 ∷ [])) nothing)
    (first_line script label line [] plain)
    (Same-sym (joined (of_text script (label ∷ []) (line ++ 10 ∷ [])) nothing)
    (of_text script (label ∷ []) (line ++ 10 ∷ [])) (Same-nothing (of_text script (label ∷ []) (line ++ 10 ∷ []))))

open_on : (script : List Act) (label : Tai64n) (p q : Place) (s t : StoreState) (r : Option (List Tai64n))
    (line text : List ℕ) → 0 < length text → IsPlain line
    → LineOpen script (outputs p.tails s) (outputs q.tails t) q label line text
    → Went script (scene (Some label) p s r) (scene (Some label) q t r) line text 0
open_on script label p q s t r line text some plain o = record {
  labels = [];
  gave = Extended-none r;
  count_is = refl;
  whole = [];
  names = [];
  left = line ++ text;
  cut = refl;
  named = refl;
  lines = refl;
  each = refl;
  at = (o.at, plain_both line text plain o.plain, (let l = length-append line text in omega (arith, l, some)));
  grows = Grows-same (outputs p.tails s) (outputs q.tails t) (so_far script label line)
      (so_far script label (line ++ text)) (joined (of_text script [] []) (so_far script label (line ++ text)))
      o.grows (nothing_before script (so_far script label (line ++ text)));
}

ended_on : (script : List Act) (label : Tai64n) (p q : Place) (s t : StoreState) (r : Option (List Tai64n))
    (line bytes : List ℕ) → IsPlain line
    → LineEnded script (outputs p.tails s) (outputs q.tails t) label line bytes
    → Went script (scene (Some label) p s r) (scene None q t r) line bytes 0
ended_on script label p q s t r line bytes plain o =
    let line1 = line ++ o.text in
    let plain1 = plain_both line o.text plain o.plain in
    record {
      labels = [];
      gave = Extended-none r;
      count_is = refl;
      whole = line1 ++ 10 ∷ [];
      names = label ∷ [];
      left = [];
      cut = ap (λ (b : List ℕ). line ++ b) o.ends ∙ sym (append_assoc line o.text (10 ∷ []))
          ∙ sym (append-nil (line1 ++ 10 ∷ []));
      named = refl;
      lines = whole_end line1;
      each = sym (ap length (texts_of-line line1 [] plain1));
      at = refl;
      grows = Grows-same (outputs p.tails s) (outputs q.tails t) (so_far script label line) (of_line script label line1)
          (joined (of_text script (label ∷ []) (line1 ++ 10 ∷ [])) nothing)
          o.grows (one_text label script line1 plain1);
    }

by_end : (script : List Act) (label : Tai64n) (p q : Place) (s t : StoreState) (r : Option (List Tai64n))
    (line text : List ℕ) (ends b : Bool) → ends ≡ b → 0 < length text
    → (ends ≡ false → (line : List ℕ) → IsAt script p label line
    → LineOpen script (outputs p.tails s) (outputs q.tails t) q label line text)
    → (ends ≡ true → (line : List ℕ) → IsAt script p label line
    → LineEnded script (outputs p.tails s) (outputs q.tails t) label line text)
    → IsAt script p label line × IsPlain line × (0 < length line)
    → Went script (scene (Some label) p s r) (scene (left_of label b) q t r) line text 0
by_end script label p q s t r line text ends true eb some goes_on ended at =
    ended_on script label p q s t r line text at.1 (ended eb line at.0)
by_end script label p q s t r line text ends false eb some goes_on ended at =
    open_on script label p q s t r line text some at.1 (goes_on eb line at.0)

pub inside_went : (script : List Act) (inside : Option Tai64n) (label : Tai64n) (p q : Place) (s t : StoreState)
    (r : Option (List Tai64n)) (line text : List ℕ) (ends b : Bool) (left : Option Tai64n)
    → inside ≡ Some label → left ≡ left_of label ends → ends ≡ b → 0 < length text
    → (ends ≡ false → (line : List ℕ) → IsAt script p label line
    → LineOpen script (outputs p.tails s) (outputs q.tails t) q label line text)
    → (ends ≡ true → (line : List ℕ) → IsAt script p label line
    → LineEnded script (outputs p.tails s) (outputs q.tails t) label line text)
    → IsIn script (scene inside p s r) line → Went script (scene inside p s r) (scene left q t r) line text 0
inside_went script inside label p q s t r line text ends b left is lis eb some goes_on ended at =
    let at1 = subst (λ (i : Option Tai64n). IsInLine script p i line) is at in
    subst (λ (i : Option Tai64n). Went script (scene i p s r) (scene left q t r) line text 0) (sym is)
    (subst (λ (i : Option Tai64n). Went script (scene (Some label) p s r) (scene i q t r) line text 0)
    (sym (lis ∙ ap (left_of label) eb))
    (by_end script label p q s t r line text ends b eb some goes_on ended at1))

pub inside_stopped : (script : List Act) (inside : Option Tai64n) (label : Tai64n) (p q : Place) (s t : StoreState)
    (r : Option (List Tai64n)) (line bytes : List ℕ) (why : LogFault)
    → inside ≡ Some label
    → ((line : List ℕ) → IsAt script p label line → IsPlain line
    → StopsAt (outputs p.tails s) (outputs q.tails t) (so_far script label line)
    (of_text script (label ∷ []) (line ++ bytes)) why)
    → IsIn script (scene inside p s r) line → WentUpTo script (scene inside p s r) (scene None q t r) line bytes why
inside_stopped script inside label p q s t r line bytes why is stopped at =
    let at1 = subst (λ (i : Option Tai64n). IsInLine script p i line) is at in
    subst (λ (i : Option Tai64n). WentUpTo script (scene i p s r) (scene None q t r) line bytes why) (sym is)
    (record { labels = []; gave = Extended-none r; stops = stopped line at1.0 at1.1 })

-- A line that begins

new_open : (script : List Act) (label : Tai64n) (p0 p q : Place) (s t : StoreState) (r r1 : Option (List Tai64n))
    (text : List ℕ) → 0 < length text → p.tails ≡ p0.tails
    → Extended r r1 (label ∷ []) → LineOpen script (outputs p.tails s) (outputs q.tails t) q label [] text
    → Went script (scene None p0 s r) (scene (Some label) q t r1) [] text 1
new_open script label p0 p q s t r r1 text some same gave o = record {
  labels = label ∷ [];
  gave = gave;
  count_is = refl;
  whole = [];
  names = [];
  left = text;
  cut = refl;
  named = refl;
  lines = refl;
  each = refl;
  at = (o.at, o.plain, some);
  grows = subst (λ (tails : List _).
      Grows (outputs tails s) (outputs q.tails t) nothing (joined (of_text script [] []) (so_far script label text)))
      same
      (subst (λ (g : Given).
      Grows (outputs p.tails s) (outputs q.tails t) g (joined (of_text script [] []) (so_far script label text)))
      (sym (begun_nothing script label))
      (Grows-same (outputs p.tails s) (outputs q.tails t) (so_far script label []) (so_far script label text)
      (joined (of_text script [] []) (so_far script label text))
      o.grows (nothing_before script (so_far script label text))));
}

new_ended : (script : List Act) (label : Tai64n) (p0 p q : Place) (s t : StoreState) (r r1 : Option (List Tai64n))
    (bytes : List ℕ) → p.tails ≡ p0.tails
    → Extended r r1 (label ∷ []) → LineEnded script (outputs p.tails s) (outputs q.tails t) label [] bytes
    → Went script (scene None p0 s r) (scene None q t r1) [] bytes 1
new_ended script label p0 p q s t r r1 bytes same gave o = record {
  labels = label ∷ [];
  gave = gave;
  count_is = refl;
  whole = o.text ++ 10 ∷ [];
  names = label ∷ [];
  left = [];
  cut = o.ends ∙ sym (append-nil (o.text ++ 10 ∷ []));
  named = refl;
  lines = whole_end o.text;
  each = sym (ap length (texts_of-line o.text [] o.plain));
  at = refl;
  grows = subst (λ (tails : List _).
      Grows (outputs tails s) (outputs q.tails t) nothing
      (joined (of_text script (label ∷ []) (o.text ++ 10 ∷ [])) nothing)) same
      (subst (λ (g : Given).
      Grows (outputs p.tails s) (outputs q.tails t) g
      (joined (of_text script (label ∷ []) (o.text ++ 10 ∷ [])) nothing)) (sym (begun_nothing script label))
      (Grows-same (outputs p.tails s) (outputs q.tails t) (so_far script label []) (of_line script label o.text)
      (joined (of_text script (label ∷ []) (o.text ++ 10 ∷ [])) nothing)
      o.grows (one_text label script o.text o.plain)));
}

new_by : (script : List Act) (label : Tai64n) (p0 p q : Place) (s t : StoreState) (r r1 : Option (List Tai64n))
    (text : List ℕ) (ends b : Bool) → ends ≡ b → 0 < length text → p.tails ≡ p0.tails
    → Extended r r1 (label ∷ []) → IsAt script p label []
    → (ends ≡ false → (line : List ℕ) → IsAt script p label line
    → LineOpen script (outputs p.tails s) (outputs q.tails t) q label line text)
    → (ends ≡ true → (line : List ℕ) → IsAt script p label line
    → LineEnded script (outputs p.tails s) (outputs q.tails t) label line text)
    → Went script (scene None p0 s r) (scene (left_of label b) q t r1) [] text 1
new_by script label p0 p q s t r r1 text ends true eb some same gave at goes_on ended =
    new_ended script label p0 p q s t r r1 text same gave (ended eb [] at)
new_by script label p0 p q s t r r1 text ends false eb some same gave at goes_on ended =
    new_open script label p0 p q s t r r1 text some same gave (goes_on eb [] at)

pub new_went : (script : List Act) (inside : Option Tai64n) (label : Tai64n) (p0 p q : Place) (s t : StoreState)
    (r r1 : Option (List Tai64n)) (line text : List ℕ) (ends : Bool) (left : Option Tai64n)
    → inside ≡ None → left ≡ left_of label ends → 0 < length text → p.tails ≡ p0.tails → Extended r r1 (label ∷ [])
    → IsAt script p label []
    → (ends ≡ false → (line : List ℕ) → IsAt script p label line
    → LineOpen script (outputs p.tails s) (outputs q.tails t) q label line text)
    → (ends ≡ true → (line : List ℕ) → IsAt script p label line
    → LineEnded script (outputs p.tails s) (outputs q.tails t) label line text)
    → IsIn script (scene inside p0 s r) line → Went script (scene inside p0 s r) (scene left q t r1) line text 1
new_went script inside label p0 p q s t r r1 line text ends left is lis some same gave at goes_on ended in_it =
    let none : line ≡ [] = subst (λ (i : Option Tai64n). IsInLine script p0 i line) is in_it in
    subst (λ (i : Option Tai64n). Went script (scene i p0 s r) (scene left q t r1) line text 1) (sym is)
    (subst (λ (i : Option Tai64n). Went script (scene None p0 s r) (scene i q t r1) line text 1) (sym lis)
    (subst (λ (l : List ℕ). Went script (scene None p0 s r) (scene (left_of label ends) q t r1) l text 1) (sym none)
    (new_by script label p0 p q s t r r1 text ends ends refl some same gave at goes_on ended)))

pub new_stopped : (script : List Act) (inside : Option Tai64n) (label : Tai64n) (p0 p q : Place) (s t : StoreState)
    (r r1 : Option (List Tai64n)) (line bytes : List ℕ) (why : LogFault)
    → inside ≡ None → p.tails ≡ p0.tails → Extended r r1 (label ∷ []) → IsAt script p label []
    → ((line : List ℕ) → IsAt script p label line → IsPlain line
    → StopsAt (outputs p.tails s) (outputs q.tails t) (so_far script label line)
    (of_text script (label ∷ []) (line ++ bytes)) why)
    → IsIn script (scene inside p0 s r) line → WentUpTo script (scene inside p0 s r) (scene None q t r1) line bytes why
new_stopped script inside label p0 p q s t r r1 line bytes why is same gave at stopped in_it =
    let none : line ≡ [] = subst (λ (i : Option Tai64n). IsInLine script p0 i line) is in_it in
    let stop = subst (λ (tails : List _).
    StopsAt (outputs tails s) (outputs q.tails t) nothing (of_text script (label ∷ []) bytes) why) same
    (subst (λ (g : Given). StopsAt (outputs p.tails s) (outputs q.tails t) g (of_text script (label ∷ []) bytes) why)
    (sym (begun_nothing script label)) (stopped [] at refl)) in
    subst (λ (i : Option Tai64n). WentUpTo script (scene i p0 s r) (scene None q t r1) line bytes why) (sym is)
    (subst (λ (l : List ℕ). WentUpTo script (scene None p0 s r) (scene None q t r1) l bytes why) (sym none)
    (record { labels = label ∷ []; gave = gave; stops = stop }))

-- One after another

turned : (a b c d : List ℕ) (e f : List ℕ) → a ++ b ≡ c ++ d → d ++ e ≡ f → a ++ (b ++ e) ≡ c ++ f
turned a b c d e f is more = sym (append_assoc a b e) ∙ ap (λ (t : List ℕ). t ++ e) is ∙ append_assoc c d e
    ∙ ap (λ (t : List ℕ). c ++ t) more

turned_names : (a b c d : List Tai64n) (e f : List Tai64n) → a ++ b ≡ c ++ d → d ++ e ≡ f → a ++ (b ++ e) ≡ c ++ f
turned_names a b c d e f is more = sym (append_assoc a b e) ∙ ap (λ (t : List Tai64n). t ++ e) is ∙ append_assoc c d e
    ∙ ap (λ (t : List Tai64n). c ++ t) more

pub Went-then : (script : List Act) (a b c : Scene) (line xs ys : List ℕ) (m n : ℕ) → Went script a b line xs m
    → ((left : List ℕ) → IsIn script b left → Went script b c left ys n)
    → Went script a c line (xs ++ ys) (m + n)
Went-then script a b c line xs ys m n w then =
    let v = then w.left w.at in
    let x = given_in script a.line line in
    let t1 = of_text script w.names w.whole in
    let s1 = given_in script b.line w.left in
    let t2 = of_text script v.names v.whole in
    let s2 = given_in script c.line v.left in
    let t3 = of_text script (w.names ++ v.names) (w.whole ++ v.whole) in
    record {
      labels = w.labels ++ v.labels;
      gave = Extended-then a.readings b.readings c.readings w.labels v.labels w.gave v.gave;
      count_is = let k = w.count_is in let l = v.count_is in let h = length-append w.labels v.labels in
          omega (arith, k, l, h);
      whole = w.whole ++ v.whole;
      names = w.names ++ v.names;
      left = v.left;
      cut = turned line xs w.whole w.left ys (v.whole ++ v.left) w.cut v.cut
          ∙ sym (append_assoc w.whole v.whole v.left);
      named = turned_names (labels_of a.line) w.labels w.names (labels_of b.line) v.labels (v.names ++ labels_of c.line)
          w.named v.named
          ∙ sym (append_assoc w.names v.names (labels_of c.line));
      lines = whole_both w.whole v.whole w.lines v.lines;
      each = let k = w.each in let l = v.each in let h = length-append w.names v.names in
          let g = length-append (texts_of w.whole) (texts_of v.whole) in
          let p = ap length (texts-append w.whole v.whole w.lines) in omega (arith, k, l, h, g, p);
      at = v.at;
      grows = Grows-same (outputs_of a) (outputs_of c) x (joined t1 (joined t2 s2)) (joined t3 s2)
          (Grows-then (outputs_of a) (outputs_of b) (outputs_of c) x (joined t1 s1) (joined t1 (joined t2 s2)) w.grows
          (Grows-behind (outputs_of b) (outputs_of c) t1 s1 (joined t2 s2) v.grows))
          (Same-then (joined t1 (joined t2 s2)) (joined (joined t1 t2) s2) (joined t3 s2) (Same-moved t1 t2 s2)
          (Same-joined (joined t1 t2) t3 s2 (text_turn script w.names v.names w.whole v.whole w.lines w.each)));
    }

pub WentUpTo-then : (script : List Act) (a b c : Scene) (line xs ys : List ℕ) (m : ℕ) (why : LogFault)
    → Went script a b line xs m
    → ((left : List ℕ) → IsIn script b left → WentUpTo script b c left ys why) → WentUpTo script a c line (xs ++ ys) why
WentUpTo-then script a b c line xs ys m why w then =
    let v = then w.left w.at in
    let x = given_in script a.line line in
    let t1 = of_text script w.names w.whole in
    let s1 = given_in script b.line w.left in
    let more = labels_of b.line ++ v.labels in
    let rest = w.left ++ ys in
    let t2 = of_text script more rest in
    let bytes_are : line ++ (xs ++ ys) ≡ w.whole ++ rest = turned line xs w.whole w.left ys rest w.cut refl in
    let names_are : labels_of a.line ++ (w.labels ++ v.labels) ≡ w.names ++ more =
    turned_names (labels_of a.line) w.labels w.names (labels_of b.line) v.labels more w.named refl in
    let stops = StopsAt-same (outputs_of a) (outputs_of c) x (joined t1 t2)
    (of_text script (w.names ++ more) (w.whole ++ rest)) why
    (StopsAt-then (outputs_of a) (outputs_of b) (outputs_of c) x (joined t1 s1) (joined t1 t2) why w.grows
    (StopsAt-behind (outputs_of b) (outputs_of c) t1 s1 t2 why v.stops))
    (text_turn script w.names more w.whole rest w.lines w.each) in
    record {
      labels = w.labels ++ v.labels;
      gave = Extended-then a.readings b.readings c.readings w.labels v.labels w.gave v.gave;
      stops = subst (λ (t : List ℕ).
          StopsAt (outputs_of a) (outputs_of c) x (of_text script (labels_of a.line ++ (w.labels ++ v.labels)) t) why)
          (sym bytes_are)
          (subst (λ (t : List Tai64n). StopsAt (outputs_of a) (outputs_of c) x (of_text script t (w.whole ++ rest)) why)
          (sym names_are) stops);
    }

-- Part by part

pub further : (script : List Act) (a b c : Scene) (bytes : List ℕ) (at len m n : ℕ)
    → ((line : List ℕ) → IsIn script a line → Went script a b line (take at bytes) m)
    → ((line : List ℕ) → IsIn script b line
    → Went script b c line (take len (take (length bytes - at) (drop at bytes))) n)
    → (line : List ℕ) → IsIn script a line → Went script a c line (take (at + len) bytes) (m + n)
further script a b c bytes at len m n w v = λ line is.
    subst (λ (t : List ℕ). Went script a c line t (m + n))
    (sym (take-add at len bytes ∙ ap (λ (t : List ℕ). take at bytes ++ take len t) (sym (take_rest bytes at))))
    (Went-then script a b c line (take at bytes) (take len (take (length bytes - at) (drop at bytes))) m n (w line is)
    v)

pub no_further : (script : List Act) (a b c : Scene) (bytes : List ℕ) (at m : ℕ) (why : LogFault)
    → ((line : List ℕ) → IsIn script a line → Went script a b line (take at bytes) m)
    → ((line : List ℕ) → IsIn script b line → WentUpTo script b c line (take (length bytes - at) (drop at bytes)) why)
    → (line : List ℕ) → IsIn script a line → WentUpTo script a c line bytes why
no_further script a b c bytes at m why w v = λ line is.
    subst (λ (t : List ℕ). WentUpTo script a c line t why) (ap (λ (t : List ℕ). take at bytes ++ t) (take_rest bytes at)
    ∙ take-append-drop at bytes)
    (WentUpTo-then script a b c line (take at bytes) (take (length bytes - at) (drop at bytes)) m why (w line is) v)

pub no_bytes : (script : List Act) (a : Scene) → (line : List ℕ) → IsIn script a line → Went script a a line [] 0
no_bytes script a = λ line is. record {
  labels = [];
  gave = Extended-none a.readings;
  count_is = refl;
  whole = [];
  names = [];
  left = line;
  cut = append-nil line;
  named = append-nil (labels_of a.line);
  lines = refl;
  each = refl;
  at = is;
  grows = Grows-same (outputs_of a) (outputs_of a) (given_in script a.line line) (given_in script a.line line)
      (joined (of_text script [] []) (given_in script a.line line))
      (Grows-none (outputs_of a) (given_in script a.line line)) (nothing_before script (given_in script a.line line));
}

-- Flushes

still_in : (script : List Act) (p q : Place) (inside : Option Tai64n) (line : List ℕ) → (q.chosen ≡ p.chosen)
    × (q.front ≡ p.front) × (q.decided ≡ p.decided)
    → IsInLine script p inside line → IsInLine script q inside line
still_in script p q None line same at = at
still_in script p q (Some label) line same at = (
  subst (λ (d : Bool). IsKeptOrDecided d script q.chosen q.front label line) (sym same.2)
      (subst (λ (c : Chosen). IsKeptOrDecided p.decided script c q.front label line) (sym same.0)
      (subst (λ (f : List ℕ). IsKeptOrDecided p.decided script p.chosen f label line) (sym same.1) at.0)),
  at.1,
  at.2,
)

-- The bytes that waited were appended, after bytes that were handed on.
pub flushed : (script : List Act) (a : Scene) (line : List ℕ) (i : Option Tai64n) (p q : Place) (s t : StoreState)
    (r : Option (List Tai64n)) (bytes : List ℕ) (m : ℕ)
    → (q.chosen ≡ p.chosen) × (q.front ≡ p.front) × (q.decided ≡ p.decided)
    → Went script a (scene i p s r) line bytes m → Takes (outputs p.tails s) (outputs q.tails t) nothing
    → Went script a (scene i q t r) line bytes m
flushed script a line i p q s t r bytes m same w k =
    let y = joined (of_text script w.names w.whole) (given_in script i w.left) in
    record {
      labels = w.labels;
      gave = w.gave;
      count_is = w.count_is;
      whole = w.whole;
      names = w.names;
      left = w.left;
      cut = w.cut;
      named = w.named;
      lines = w.lines;
      each = w.each;
      at = still_in script p q i w.left same w.at;
      grows = Grows-then (outputs_of a) (outputs p.tails s) (outputs q.tails t) (given_in script a.line line) y y
          w.grows
          (record { more = nothing; whole = Same-nothing y; takes = k });
    }

-- What a line that has begun is yet to give, at the end of the input.
pub record End (script : List Act) (i : Option Tai64n) (left : List ℕ) : Type 0 where
  pub rest : Given
  pub whole : SameGiven (joined (given_in script i left) rest) (of_text script (labels_of i) left)

pub the_end : (script : List Act) (p : Place) (i : Option Tai64n) (left : List ℕ) → IsInLine script p i left
    → End script i left
the_end script p None left is =
    record {
      rest = nothing;
      whole =
          subst (λ (t : List ℕ). SameGiven (joined nothing nothing) (of_text script [] t)) (sym is)
          (record { logs = λ log. refl; alerts = refl; files = λ file. refl });
    }
the_end script p (Some label) left is =
    let h = ahead script label left in record {
      rest = h.rest;
      whole = Same-then (joined (so_far script label left) h.rest) (of_line script label left)
          (of_text script (label ∷ []) left) h.whole
          (last_line script label left is.2 is.1);
    }

-- The bytes that waited could not be appended.
pub unflushed : (script : List Act) (a : Scene) (line : List ℕ) (i : Option Tai64n) (p q : Place) (s t : StoreState)
    (r : Option (List Tai64n)) (bytes : List ℕ) (m : ℕ) (why : LogFault)
    → Went script a (scene i p s r) line bytes m → Stops (outputs p.tails s) (outputs q.tails t) nothing why
    → WentUpTo script a (scene None q t r) line bytes why
unflushed script a line i p q s t r bytes m why w k =
    let x = given_in script a.line line in
    let t1 = of_text script w.names w.whole in
    let s1 = given_in script i w.left in
    let y = joined t1 s1 in
    let end = the_end script p i w.left w.at in
    let all = of_text script (w.names ++ labels_of i) (w.whole ++ w.left) in
    let stop : StopsAt (outputs p.tails s) (outputs q.tails t) y y why =
    record { more = nothing; whole = Same-nothing y; stops = k } in
    let stops = StopsAt-more (outputs_of a) (outputs q.tails t) x y end.rest all why
    (StopsAt-then (outputs_of a) (outputs p.tails s) (outputs q.tails t) x y y why w.grows stop)
    (Same-then (joined y end.rest) (joined t1 (joined s1 end.rest)) all
    (Same-sym (joined t1 (joined s1 end.rest)) (joined y end.rest) (Same-moved t1 s1 end.rest))
    (Same-then (joined t1 (joined s1 end.rest)) (joined t1 (of_text script (labels_of i) w.left)) all
    (Same-behind t1 (joined s1 end.rest) (of_text script (labels_of i) w.left) end.whole)
    (text_turn script w.names (labels_of i) w.whole w.left w.lines w.each))) in
    record {
      labels = w.labels;
      gave = w.gave;
      stops = subst (λ (b : List ℕ).
          StopsAt (outputs_of a) (outputs q.tails t) x (of_text script (labels_of a.line ++ w.labels) b) why)
          (sym w.cut)
          (subst (λ (n : List Tai64n).
          StopsAt (outputs_of a) (outputs q.tails t) x (of_text script n (w.whole ++ w.left)) why) (sym w.named)
          stops);
    }

-- The end of the input

pub end_goes : (script : List Act) (inside : Option Tai64n) (label : Tai64n) (p : Place) (o m n : Outputs)
    (line : List ℕ) → inside ≡ Some label
    → ((line : List ℕ) → IsAt script p label line → Grows o m (so_far script label line) (of_line script label line))
    → Takes m n nothing
    → IsInLine script p inside line → Grows o n (given_in script inside line) (of_text script (labels_of inside) line)
end_goes script inside label p o m n line is grows k at =
    let at1 = subst (λ (i : Option Tai64n). IsInLine script p i line) is at in
    let y = of_line script label line in
    subst (λ (i : Option Tai64n). Grows o n (given_in script i line) (of_text script (labels_of i) line)) (sym is)
    (Grows-same o n (so_far script label line) y (of_text script (label ∷ []) line)
    (Grows-then o m n (so_far script label line) y y (grows line at1.0)
    (record { more = nothing; whole = Same-nothing y; takes = k }))
    (last_line script label line at1.2 at1.1))

pub end_stopped : (script : List Act) (inside : Option Tai64n) (label : Tai64n) (p : Place) (o n : Outputs)
    (line : List ℕ) (why : LogFault) → inside ≡ Some label
    → ((line : List ℕ) → IsAt script p label line
    → StopsAt o n (so_far script label line) (of_line script label line) why)
    → IsInLine script p inside line
    → StopsAt o n (given_in script inside line) (of_text script (labels_of inside) line) why
end_stopped script inside label p o n line why is stops at =
    let at1 = subst (λ (i : Option Tai64n). IsInLine script p i line) is at in
    let y = of_line script label line in
    subst (λ (i : Option Tai64n). StopsAt o n (given_in script i line) (of_text script (labels_of i) line) why) (sym is)
    (StopsAt-same o n (so_far script label line) y (of_text script (label ∷ []) line) why (stops line at1.0)
    (last_line script label line at1.2 at1.1))

pub end_unflushed : (script : List Act) (inside : Option Tai64n) (label : Tai64n) (p : Place) (o m n : Outputs)
    (line : List ℕ) (why : LogFault) → inside ≡ Some label
    → ((line : List ℕ) → IsAt script p label line → Grows o m (so_far script label line) (of_line script label line))
    → Stops m n nothing why
    → IsInLine script p inside line
    → StopsAt o n (given_in script inside line) (of_text script (labels_of inside) line) why
end_unflushed script inside label p o m n line why is grows k at =
    let y = of_line script label line in
    end_stopped script inside label p o n line why is
    (λ line at. let y = of_line script label line in
    StopsAt-then o m n (so_far script label line) y y why (grows line at)
    (record { more = nothing; whole = Same-nothing y; stops = k })) at
