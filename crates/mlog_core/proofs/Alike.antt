-- Lines that go only to logs: to all of them or to none.
use Rattle.std.proofs.Common.{◌≡◌, ℕ, zero, suc, ◌+◌, ◌-◌, ◌<◌, ◌≤◌, nat_lt, if◌then◌else◌, Bool, true, false, List, []}
use Rattle.std.proofs.Common.{◌∷◌, ◌++◌, length, take, drop, count_by, Option, None, refl, sym, subst, ap, ◌∙◌, arith}
use Rattle.std.proofs.Common.{append-nil, length-append}
use Rattle.std.specs.Prelude.{Result, Ok, Err, IfOk}
use Rattle.std.specs.List.{list_all, list_any}
use Rattle.std.proofs.lemmas.List.{map-append, take_all, take_rest, take-append-drop, length-take}
use Rattle.std.proofs.Math.Seq.{take-add}
use Rattle.tai_status.specs.Label.{Tai64n}
use Rattle.tai_status.specs.Lines.{texts_of, Sent, sent}
use Rattle.tai_status.specs.Extended.{Extended}
use Rattle.tai_status.specs.LineReader.{IsPlain}
use Rattle.tai_status.proofs.Stamped.{Extended-then, Extended-none}
use Rattle.tai_status.proofs.Texts.{texts_of-line}
use Rattle.mlog_script.specs.Script.{Act, is_log}
use Rattle.mlog_script.specs.Selection.{Chosen, Fits, stamps, shown, chosen, chosen_line, flag_at, alert, padded}
use Rattle.mlog_script.proofs.Texts.{texts-append}
use Rattle.mlog_files.specs.Store.{StoreState, Stays}
use Rattle.mlog_files.proofs.Doing.{Stays-then}
use Rattle.mlog_files.specs.declared.tail.LogFault.{LogFault}
use Rattle.mlog_line.specs.LineRouter.{Place, IsBare}
use Rattle.mlog_line.specs.Given.{Given, nothing, joined, of_line, of_text, to_first, bytes_of}
use Rattle.mlog_line.specs.Outputs.{outputs, Takes, Stops, SameGiven, StopsAt}
use Rattle.mlog_line.proofs.Taking.{Takes-same, Stops-same, if_err_weaker}
use Rattle.mlog_line.proofs.Growing.{Same-then, Same-joined, Same-behind, StopsAt-more}
use Rattle.mlog_line.specs.Reach.{Reaches, AllOrNone, logs_in}
use Rattle.mlog_line.specs.declared.line_router.Reach.{Reach}
use Rattle.mlog_line.specs.declared.line_router.Reach.TheVariants as code
use Rattle.mlog_core.specs.Scene.{Scene, scene, IsIn, Went, WentUpTo, GoesOn, AreAlike, Feeds}
use Rattle.mlog_core.specs.declared.feed.AlikeLines.{AlikeLines}
use Rattle.mlog_core.specs.declared.feed.Fed.{Fed}
use Rattle.mlog_core.proofs.Going.{Went-then, WentUpTo-then}
use Rattle.mlog_core.proofs.Lines.{whole_end, whole_both, cut_one, first_line, text_turn}

none_of : {X : Type 0} (b : Bool) → ◌≡◌ {A = List X} (if b then [] else []) []
none_of true = refl
none_of false = refl

none_given : (script : List Act) (n : ℕ) → SameGiven (to_first n []) (of_text script [] [])
none_given script n = record { logs = λ log. none_of (nat_lt log n); alerts = refl; files = λ file. refl }

pub alike_none : (script : List Act) (reach : Reach) (r : Option (List Tai64n)) → AreAlike script reach r r [] 0
alike_none script reach r = record {
  labels = [];
  gave = Extended-none r;
  count_is = refl;
  lines = refl;
  each = refl;
  text = [];
  bytes_are = refl;
  same = none_given script (logs_in reach (count_by is_log script));
}

no_items : {X : Type 0} (xs : List X) → length xs ≡ 0 → xs ≡ []
no_items [] e = refl
no_items (x ∷ xs) e = absurd (omega (arith, e))

-- If there are no lines yet, they have every reach.
reach_of_none : (script : List Act) (was reach : Reach) (a b : Option (List Tai64n)) (bytes : List ℕ) → bytes ≡ []
    → AreAlike script was a b bytes 0
    → AreAlike script reach a b bytes 0
reach_of_none script was reach a b bytes none k =
    let labels : k.labels ≡ [] = no_items k.labels (sym k.count_is) in
    record {
      labels = k.labels;
      gave = k.gave;
      count_is = k.count_is;
      lines = k.lines;
      each = k.each;
      text = [];
      bytes_are = sym none;
      same = rw (labels, none) (none_given script (logs_in reach (count_by is_log script)));
    }

turned : (script : List Act) (was reach : Reach) (a b : Option (List Tai64n)) (bytes : List ℕ) (m : ℕ)
    → (m ≡ 0 → bytes ≡ []) → (0 < m → reach ≡ was)
    → AreAlike script was a b bytes m → AreAlike script reach a b bytes m
turned script was reach a b bytes zero none same k = reach_of_none script was reach a b bytes (none refl) k
turned script was reach a b bytes (suc m) none same k =
    subst (λ (r : Reach). AreAlike script r a b bytes (suc m)) (sym (same (omega arith))) k

-- One line

all_flags : (flags : List Bool) (n : ℕ) → list_all (λ (flag : Bool). flag) flags ≡ true
    → flag_at flags n ≡ nat_lt n (length flags)
all_flags [] n all = (let e : nat_lt n 0 ≡ false = grind arith in sym e)
all_flags (true ∷ flags) zero all = (let e : nat_lt 0 (suc (length flags)) ≡ true = grind arith in sym e)
all_flags (true ∷ flags) (suc n) all = all_flags flags n all
    ∙ (let e : nat_lt (suc n) (suc (length flags)) ≡ nat_lt n (length flags) = grind arith in sym e)
all_flags (false ∷ flags) n all = absurd cc

no_flags : (flags : List Bool) (n : ℕ) → list_any (λ (flag : Bool). flag) flags ≡ false → flag_at flags n ≡ nat_lt n 0
no_flags [] n none = (let e : nat_lt n 0 ≡ false = grind arith in sym e)
no_flags (true ∷ flags) n none = absurd cc
no_flags (false ∷ flags) zero none = (let e : nat_lt 0 0 ≡ false = grind arith in sym e)
no_flags (false ∷ flags) (suc n) none =
    no_flags flags n none
    ∙ (let e : nat_lt n 0 ≡ false = grind arith in let f : nat_lt (suc n) 0 ≡ false = grind arith in e ∙ sym f)

-- The flags are set below a number.
reached : (next : Reach) (flags : List Bool) (n : ℕ) → AllOrNone next → Reaches next flags
    → flag_at flags n ≡ nat_lt n (logs_in next (length flags))
reached code.Everywhere flags n some at = all_flags flags n at
reached code.Nowhere flags n some at = no_flags flags n at
reached code.Somewhere flags n some at = absurd (some refl)

shown_bare : (script : List Act) (label : Tai64n) (line : List ℕ) → stamps script ≡ false
    → line ≡ shown script label line
shown_bare script label line e = rw e refl

sent_bytes : (label : Tai64n) (bytes : List ℕ) → bytes_of (sent label bytes) ≡ bytes
sent_bytes label [] = refl
sent_bytes label (b ∷ bs) = ap (λ (t : List ℕ). b ∷ t) (sent_bytes label bs)

-- What a line gives, by the logs at which it is selected.
given_by : (script : List Act) (label : Tai64n) (line : List ℕ) (c : Chosen) (next : Reach) → Fits c script
    → IsBare script
    → AllOrNone next → Reaches next c.logs
    → SameGiven (to_first (logs_in next (count_by is_log script)) (sent label (line ++ 10 ∷ [])))
    (record {
      logs = λ log. if flag_at c.logs log then sent label (line ++ 10 ∷ []) else [];
      alerts = Rattle.std.specs.List.flat_map (λ (flag : Bool). if flag then alert line else []) c.alerts;
      files = λ file. if flag_at c.files file then padded line ∷ [] else [];
    })
given_by script label line c next fits bare some at =
    let alerts : c.alerts ≡ [] = no_items c.alerts (fits.alerts_fit ∙ bare.unalerted) in
    let files : c.files ≡ [] = no_items c.files (fits.files_fit ∙ bare.unfiled) in
    record {
      logs = λ log. ap (λ (b : Bool). if b then sent label (line ++ 10 ∷ []) else [])
          (sym (reached next c.logs log some at ∙ ap (λ (n : ℕ). nat_lt log (logs_in next n)) fits.logs_fit));
      alerts = rw alerts refl;
      files = λ file. rw files refl;
    }

line_given : (script : List Act) (label : Tai64n) (line : List ℕ) (c : Chosen) (next : Reach)
    → c ≡ chosen script (take 1000 line) → Fits c script → IsBare script
    → AllOrNone next → Reaches next c.logs
    → SameGiven (to_first (logs_in next (count_by is_log script)) (sent label (line ++ 10 ∷ [])))
    (of_line script label line)
line_given script label line c next is fits bare some at =
    let g = given_by script label line c next fits bare some at in
    let here : line ≡ shown script label line = shown_bare script label line bare.unstamped in
    let flags : c ≡ chosen_line script label line = is ∙ ap (λ (t : List ℕ). chosen script (take 1000 t)) here in
    record {
      logs = λ log. g.logs log
          ∙ ap (λ (ch : Chosen). if flag_at ch.logs log then sent label (line ++ 10 ∷ []) else []) flags
          ∙ ap (λ (t : List ℕ). if flag_at (chosen_line script label line).logs log then sent label (t ++ 10 ∷ []) else
          []) here;
      alerts = g.alerts ∙ ap
          (λ (ch : Chosen). Rattle.std.specs.List.flat_map (λ (flag : Bool). if flag then alert line else []) ch.alerts)
          flags
          ∙ ap (λ (t : List ℕ). Rattle.std.specs.List.flat_map (λ (flag : Bool). if flag then alert t else [])
          (chosen_line script label line).alerts) here;
      files = λ file. g.files file ∙ ap (λ (ch : Chosen). if flag_at ch.files file then padded line ∷ [] else []) flags
          ∙ ap (λ (t : List ℕ). if flag_at (chosen_line script label line).files file then padded t ∷ [] else []) here;
    }

alike_line : (script : List Act) (label : Tai64n) (r r1 : Option (List Tai64n)) (line : List ℕ) (c : Chosen)
    (next : Reach) → IsPlain line → Extended r r1 (label ∷ [])
    → c ≡ chosen script (take 1000 line) → Fits c script → IsBare script → AllOrNone next → Reaches next c.logs
    → AreAlike script next r r1 (line ++ 10 ∷ []) 1
alike_line script label r r1 line c next plain gave is fits bare some at = record {
  labels = label ∷ [];
  gave = gave;
  count_is = refl;
  lines = whole_end line;
  each = sym (ap length (texts_of-line line [] plain));
  text = sent label (line ++ 10 ∷ []);
  bytes_are = sent_bytes label (line ++ 10 ∷ []);
  same = Same-then (to_first (logs_in next (count_by is_log script)) (sent label (line ++ 10 ∷ [])))
      (of_line script label line) (of_text script (label ∷ []) (line ++ 10 ∷ []))
      (line_given script label line c next is fits bare some at) (first_line script label line [] plain);
}

-- More lines

both_if : {X : Type 0} (b : Bool) (xs ys : List X) → (if b then xs ++ ys else []) ≡ (if b then xs else [])
    ++ (if b then ys else [])
both_if true xs ys = refl
both_if false xs ys = refl

first_both : (n : ℕ) (xs ys : List Sent) → SameGiven (to_first n (xs ++ ys)) (joined (to_first n xs) (to_first n ys))
first_both n xs ys = record { logs = λ log. both_if (nat_lt log n) xs ys; alerts = refl; files = λ file. refl }

alike_then : (script : List Act) (reach : Reach) (a b c : Option (List Tai64n)) (xs ys : List ℕ) (m n : ℕ)
    → AreAlike script reach a b xs m → AreAlike script reach b c ys n
    → AreAlike script reach a c (xs ++ ys) (m + n)
alike_then script reach a b c xs ys m n k l =
    let logs = logs_in reach (count_by is_log script) in
    let x = of_text script k.labels xs in
    let y = of_text script l.labels ys in
    let all = of_text script (k.labels ++ l.labels) (xs ++ ys) in record {
      labels = k.labels ++ l.labels;
      gave = Extended-then a b c k.labels l.labels k.gave l.gave;
      count_is = let p = k.count_is in let q = l.count_is in let h = length-append k.labels l.labels in
          omega (arith, p, q, h);
      lines = whole_both xs ys k.lines l.lines;
      each = let p = k.each in let q = l.each in let h = length-append k.labels l.labels in
          let g = length-append (texts_of xs) (texts_of ys) in
          let t = ap length (texts-append xs ys k.lines) in omega (arith, p, q, h, g, t);
      text = k.text ++ l.text;
      bytes_are = map-append (λ (s : Sent). s.byte) k.text l.text
          ∙ ap (λ (t : List ℕ). t ++ bytes_of l.text) k.bytes_are ∙ ap (λ (t : List ℕ). xs ++ t) l.bytes_are;
      same = Same-then (to_first logs (k.text ++ l.text)) (joined (to_first logs k.text) (to_first logs l.text)) all
          (first_both logs k.text l.text)
          (Same-then (joined (to_first logs k.text) (to_first logs l.text)) (joined x (to_first logs l.text)) all
          (Same-joined (to_first logs k.text) x (to_first logs l.text) k.same)
          (Same-then (joined x (to_first logs l.text)) (joined x y) all (Same-behind x (to_first logs l.text) y l.same)
          (text_turn script k.labels l.labels xs ys k.lines k.each)));
    }

-- One more line of some bytes.
pub alike_further : (script : List Act) (label : Tai64n) (a b c : Option (List Tai64n)) (bytes rest : List ℕ)
    (at len m : ℕ) (ch : Chosen) (lines : AlikeLines) (next : Reach)
    → rest ≡ take (length bytes - at) (drop at bytes) → lines.count ≡ m → (m ≡ 0 → at ≡ 0) → GoesOn lines next
    → AreAlike script lines.reach a b (take at bytes) m → IsPlain (take len rest) → (len < length rest)
    × (rest ≡ take len rest ++ 10 ∷ drop (len + 1) rest)
    → Extended b c (label ∷ []) → ch ≡ chosen script (take 1000 (take len rest)) → Fits ch script → IsBare script
    → Reaches next ch.logs
    → AreAlike script next a c (take (at + len + 1) bytes) (m + 1)
alike_further script label a b c bytes rest at len m ch lines next rest_is m_is empty on k plain newline gave is fits
    bare reaches =
    let one : take (len + 1) rest ≡ take len rest ++ 10 ∷ [] = cut_one rest len newline.0 newline.1 in
    let whole : take (at + (len + 1)) bytes ≡ take at bytes ++ (take len rest ++ 10 ∷ []) =
    take-add at (len + 1) bytes
    ∙ ap (λ (t : List ℕ). take at bytes ++ take (len + 1) t) (sym (rest_is ∙ take_rest bytes at))
    ∙ ap (λ (t : List ℕ). take at bytes ++ t) one in
    let end : at + len + 1 ≡ at + (len + 1) = omega arith in
    let nothing_yet = λ (e : m ≡ 0). ap (λ (n : ℕ). take n bytes) (empty e) in
    let same = λ (some : 0 < m). on.same (omega (arith, some, m_is)) in
    subst (λ (t : List ℕ). AreAlike script next a c t (m + 1)) (sym (ap (λ (n : ℕ). take n bytes) end ∙ whole))
    (alike_then script next a b c (take at bytes) (take len rest ++ 10 ∷ []) m 1
    (turned script lines.reach next a b (take at bytes) m nothing_yet same k)
    (alike_line script label b c (take len rest) ch next plain gave is fits bare on.alike reaches))

-- The lines were handed on.

same_joined : (x : Given) → SameGiven x (joined x nothing)
same_joined x = record {
  logs = λ log. sym (append-nil (x.logs log));
  alerts = sym (append-nil x.alerts);
  files =
      λ file. sym (append-nil (x.files file));
}

pub alike_went : (script : List Act) (reach : Reach) (p0 p q : Place) (s t : StoreState) (r r1 : Option (List Tai64n))
    (bytes : List ℕ) (m : ℕ) → p.tails ≡ p0.tails
    → length p.tails ≡ count_by is_log script → AreAlike script reach r r1 bytes m
    → ((text : List Sent) → bytes_of text ≡ bytes
    → Takes (outputs p.tails s) (outputs q.tails t) (to_first (logs_in reach (length p.tails)) text))
    → Went script (scene None p0 s r) (scene None q t r1) [] bytes m
alike_went script reach p0 p q s t r r1 bytes m same count k takes =
    let x = of_text script k.labels bytes in record {
      labels = k.labels;
      gave = k.gave;
      count_is = k.count_is;
      whole = bytes;
      names = k.labels;
      left = [];
      cut = sym (append-nil bytes);
      named = sym (append-nil k.labels);
      lines = k.lines;
      each = k.each;
      at = refl;
      grows = record {
        more = x;
        whole = same_joined x;
        takes = subst (λ (tails : List _). Takes (outputs tails s) (outputs q.tails t) x) same
            (Takes-same (outputs p.tails s) (outputs q.tails t) (to_first (logs_in reach (length p.tails)) k.text) x
            (takes k.text k.bytes_are)
            (subst (λ (n : ℕ). SameGiven (to_first (logs_in reach n) k.text) x) (sym count) k.same));
      };
    }

-- The lines were not handed on.
pub alike_stopped : (script : List Act) (reach : Reach) (p0 p q : Place) (s t : StoreState)
    (r r1 : Option (List Tai64n)) (bytes : List ℕ) (len m : ℕ) (why : LogFault) → p.tails ≡ p0.tails
    → length p.tails ≡ count_by is_log script → AreAlike script reach r r1 (take len bytes) m
    → ((text : List Sent) → bytes_of text ≡ take len bytes
    → Stops (outputs p.tails s) (outputs q.tails t) (to_first (logs_in reach (length p.tails)) text) why)
    → WentUpTo script (scene None p0 s r) (scene None q t r1) [] bytes why
alike_stopped script reach p0 p q s t r r1 bytes len m why same count k stops =
    let x = of_text script k.labels (take len bytes) in
    let rest = of_text script [] (drop len bytes) in
    let all : k.labels ++ [] ≡ k.labels = append-nil k.labels in
    let stop : Stops (outputs p0.tails s) (outputs q.tails t) x why =
    subst (λ (tails : List _). Stops (outputs tails s) (outputs q.tails t) x why) same
    (Stops-same (outputs p.tails s) (outputs q.tails t) (to_first (logs_in reach (length p.tails)) k.text) x why
    (stops k.text k.bytes_are)
    (subst (λ (n : ℕ). SameGiven (to_first (logs_in reach n) k.text) x) (sym count) k.same)) in
    record {
      labels = k.labels;
      gave = k.gave;
      stops = subst (λ (b : List ℕ). StopsAt (outputs p0.tails s) (outputs q.tails t) nothing
          (of_text script k.labels b) why) (take-append-drop len bytes)
          (subst (λ (n : List Tai64n). StopsAt (outputs p0.tails s) (outputs q.tails t) nothing
          (of_text script n (take len bytes ++ drop len bytes)) why) all
          (StopsAt-more (outputs p0.tails s) (outputs q.tails t) nothing x rest
          (of_text script (k.labels ++ []) (take len bytes ++ drop len bytes)) why
          (record {
            more = x;
            whole = record { logs = λ log. refl; alerts = refl; files = λ file. refl };
            stops =
                stop;
          })
          (text_turn script k.labels [] (take len bytes) (drop len bytes) k.lines k.each)));
    }

take_within : (room len : ℕ) (bytes : List ℕ) → len ≤ room → take len (take room bytes) ≡ take len bytes
take_within room zero bytes within = refl
take_within zero (suc len) bytes within = absurd (omega (arith, within))
take_within (suc room) (suc len) [] within = refl
take_within (suc room) (suc len) (b ∷ bytes) within =
    ap (λ (t : List ℕ). b ∷ t) (take_within room len bytes (omega (arith, within)))

-- As many of some bytes as there is room for.
pub alike_taken : (script : List Act) (reach : Reach) (r r1 : Option (List Tai64n)) (bytes : List ℕ) (room len m : ℕ)
    → len ≤ length (take room bytes)
    → AreAlike script reach r r1 (take len (take room bytes)) m → AreAlike script reach r r1 (take len bytes) m
alike_taken script reach r r1 bytes room len m within k =
    let w = length-take room bytes in
    subst (λ (t : List ℕ). AreAlike script reach r r1 t m) (take_within room len bytes (omega (arith, within, w))) k

-- No such lines were handed on, and then other bytes were.
pub empty_then : (script : List Act) (a b c : Scene) (bytes ys : List ℕ) (len m n : ℕ) → len ≡ 0 → m ≤ len
    → Went script a b [] (take len bytes) m
    → ((line : List ℕ) → IsIn script b line → Went script b c line ys n) → Went script a c [] ys n
empty_then script a b c bytes ys len m n is few w v =
    let sum : m + n ≡ n = omega (arith, is, few) in
    subst (λ (k : ℕ). Went script a c [] ys k) sum
    (Went-then script a b c [] [] ys m n
    (subst (λ (t : List ℕ). Went script a b [] t m) (ap (λ (k : ℕ). take k bytes) is) w) v)

pub empty_stopped : (script : List Act) (a b c : Scene) (bytes ys : List ℕ) (len m : ℕ) (why : LogFault) → len ≡ 0
    → Went script a b [] (take len bytes) m
    → ((line : List ℕ) → IsIn script b line → WentUpTo script b c line ys why) → WentUpTo script a c [] ys why
empty_stopped script a b c bytes ys len m why is w v =
    WentUpTo-then script a b c [] [] ys m why
    (subst (λ (t : List ℕ). Went script a b [] t m) (ap (λ (k : ℕ). take k bytes) is) w) v

pub if_ok_weaker : {T E : Type 0} (r : Result T E) (P Q : T → Type 0) → ((x : T) → P x → Q x) → IfOk r P → IfOk r Q
if_ok_weaker (Ok x) P Q f p = f x p
if_ok_weaker (Err e) P Q f p = tt

pub where_none : (script : List Act) (a b : Scene) (line bytes : List ℕ) (m : ℕ) → line ≡ []
    → Went script a b [] bytes m → Went script a b line bytes m
where_none script a b line bytes m is w = subst (λ (l : List ℕ). Went script a b l bytes m) (sym is) w

pub where_none_stopped : (script : List Act) (a b : Scene) (line bytes : List ℕ) (why : LogFault) → line ≡ []
    → WentUpTo script a b [] bytes why → WentUpTo script a b line bytes why
where_none_stopped script a b line bytes why is w = subst (λ (l : List ℕ). WentUpTo script a b l bytes why) (sym is) w

-- Nothing was handed on yet, and no line has begun.
pub after_nothing : (result : Result Fed LogFault) (script : List Act) (inside i : Option Tai64n) (p p1 q : Place)
    (s s1 t : StoreState) (a a1 b : Option (List Tai64n)) (bytes : List ℕ) (len m : ℕ)
    → inside ≡ None → i ≡ None → len ≡ 0 → m ≤ len
    → ((line : List ℕ) → IsIn script (scene None p s a) line
    → Went script (scene None p s a) (scene i p1 s1 a1) line (take len bytes) m) → Stays s s1
    → Feeds result script None p1 q s1 t a1 b bytes → Feeds result script inside p q s t a b bytes
after_nothing result script inside i p p1 q s s1 t a a1 b bytes len m none none1 empty few w stays f =
    let first = subst (λ (i : Option Tai64n). Went script (scene None p s a) (scene i p1 s1 a1) [] (take len bytes) m)
    none1 (w [] refl) in
    subst (λ (i : Option Tai64n). Feeds result script i p q s t a b bytes) (sym none) (record {
      within = f.within;
      begun = f.begun;
      went = if_ok_weaker result _ _ (λ fed k line at. where_none script _ _ line _ fed.begun at
          (empty_then script (scene None p s a) (scene None p1 s1 a1) (scene fed.inside q t b) bytes
          (take fed.len bytes) len m fed.begun empty few first k)) f.went;
      stopped = if_err_weaker result _ _ (λ why k line at. where_none_stopped script _ _ line _ why at
          (empty_stopped script (scene None p s a) (scene None p1 s1 a1) (scene None q t b) bytes bytes len m why empty
          first k)) f.stopped;
      serves = f.serves;
      stays = Stays-then stays f.stays;
    })

pub all_taken : (script : List Act) (a b : Scene) (line bytes : List ℕ) (len m : ℕ) → len ≡ length bytes
    → Went script a b line (take len bytes) m → Went script a b line bytes m
all_taken script a b line bytes len m all w =
    subst (λ (t : List ℕ). Went script a b line t m) (take_all len bytes (omega (arith, all))) w

pub all_fed : (script : List Act) (a b : Scene) (bytes : List ℕ) (len m : ℕ) → len ≡ length bytes
    → ((line : List ℕ) → IsIn script a line → Went script a b line (take len bytes) m)
    → (line : List ℕ) → IsIn script a line → Went script a b line bytes m
all_fed script a b bytes len m all w = λ line at. all_taken script a b line bytes len m all (w line at)
