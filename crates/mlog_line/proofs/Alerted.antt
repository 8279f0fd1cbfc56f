-- Alerts and status files, one after another.
use Rattle.std.proofs.Common.{◌≡◌, ◌≢◌, ℕ, suc, ◌+◌, ◌-◌, min, replicate, ◌<◌, ◌≤◌, ◌==◌, if◌then◌else◌, Bool, true}
use Rattle.std.proofs.Common.{false, List, [], ◌∷◌, ◌++◌, length, take, drop, get_or, Option, refl, sym}
use Rattle.std.proofs.Common.{subst, ap, ◌∙◌, arith, append-nil}
use Rattle.std.proofs.lemmas.List.{take_more, take_all, take_min, take-append-drop, length-take, drop-replicate}
use Rattle.std.proofs.Math.Seq.{take-append-add}
use Rattle.std.proofs.lemmas.List.Concat.{flat_map-append}
use Rattle.std.specs.List.{flat_map}
use Rattle.tai_status.proofs.Known.{Appends-further, AppendsFront-more}
use Rattle.mlog_script.specs.Selection.{flag_at, alert, padded}
use Rattle.mlog_files.specs.Store.{StoreState, Alerts, AlertsPart, FailsToAlert, Replaces, FailsToReplace, WasGiven}
use Rattle.mlog_files.proofs.Doing.{Stays-then, rose_since}
use Rattle.mlog_line.specs.Given.{alerts_for}
use Rattle.mlog_line.specs.Several.{AlertsFront, Replaced, ReplacedSome, given_to}
use Rattle.mlog_line.proofs.Taking.{Appends-front, WasGiven-then, WasGiven-none, GivenFront-of}
use Rattle.mlog_line.proofs.Ones.{flag_next, later_flags}

pub Alerts-front : (a b c : StoreState) (xs ys : List ℕ) → Alerts a b xs → AlertsFront b c ys
    → AlertsFront a c (xs ++ ys)
Alerts-front a b c xs ys k f = record {
  here = Appends-front a.visible.alerts b.visible.alerts c.visible.alerts xs ys k.here f.here;
  files = f.files ∙ k.files;
  statuses = f.statuses ∙ k.statuses;
  stays = Stays-then k.stays f.stays;
  rose = rose_since a.failures b.failures c.failures k.stays.steady f.rose;
}

pub AlertsFront-more : (a b : StoreState) (xs ys : List ℕ) → AlertsFront a b xs → AlertsFront a b (xs ++ ys)
AlertsFront-more a b xs ys f = record {
  here = AppendsFront-more ys f.here;
  files = f.files;
  statuses = f.statuses;
  stays = f.stays;
  rose = f.rose;
}

-- Nothing more was alerted.
stopped : (a b : StoreState) (xs : List ℕ) → FailsToAlert a b → AlertsFront a b xs
stopped a b xs f = record {
  here = record { count = 0; front = f.nothing.here };
  files = f.nothing.files;
  statuses = f.nothing.statuses;
  stays = f.nothing.stays;
  rose = f.rose;
}

-- None of some bytes was alerted.
pub none_alerted : (a b : StoreState) (piece : List ℕ) (count : ℕ) → AlertsPart a b piece count → count ≡ 0
    → 0 < length piece → FailsToAlert a b
none_alerted a b piece count d none some = record {
  nothing = subst (λ (n : ℕ). Alerts a b (take n piece)) none d.alerts;
  rose = d.none none some;
}

pub alerted_further : (a b c : StoreState) (xs : List ℕ) (at n : ℕ) → Alerts a b (take at xs)
    → Alerts b c (take n (take (length xs - at) (drop at xs)))
    → Alerts a c (take (at + n) xs)
alerted_further a b c xs at n k l = record {
  here = Appends-further a.visible.alerts b.visible.alerts c.visible.alerts xs at n k.here l.here;
  files = l.files ∙ k.files;
  statuses = l.statuses ∙ k.statuses;
  stays = Stays-then k.stays l.stays;
}

pub alerted_upto : (a b c : StoreState) (xs : List ℕ) (at : ℕ) → Alerts a b (take at xs) → FailsToAlert b c
    → AlertsFront a c xs
alerted_upto a b c xs at k l =
    subst (λ (t : List ℕ). AlertsFront a c t) (take-append-drop at xs)
    (Alerts-front a b c (take at xs) (drop at xs) k (stopped b c (drop at xs) l))

-- Flag by flag

alerts_next : (flags : List Bool) (k : ℕ) (flag : Bool) (front : List ℕ) → k < length flags → flag ≡ get_or flags k flag
    → alerts_for (take (k + 1) flags) front ≡ alerts_for (take k flags) front ++ (if flag then alert front else [])
alerts_next flags k flag front within is =
    let one : Bool → List ℕ = λ (b : Bool). if b then alert front else [] in
    ap (flat_map one) (take_more flags k flag within) ∙ flat_map-append one (take k flags) (get_or flags k flag ∷ [])
    ∙ ap (λ (t : List ℕ). flat_map one (take k flags) ++ t) (append-nil (one (get_or flags k flag)) ∙ ap one (sym is))

pub alerted_no_further : (a b c : StoreState) (flags : List Bool) (k : ℕ) (flag : Bool) (front : List ℕ)
    → k < length flags → flag ≡ get_or flags k flag
    → Alerts a b (alerts_for (take k flags) front) → AlertsFront b c (if flag then alert front else [])
    → AlertsFront a c (alerts_for flags front)
alerted_no_further a b c flags k flag front within is k' l =
    let one : Bool → List ℕ = λ (b : Bool). if b then alert front else [] in
    let upto : AlertsFront a c (alerts_for (take (k + 1) flags) front) =
    subst (λ (t : List ℕ). AlertsFront a c t) (sym (alerts_next flags k flag front within is))
    (Alerts-front a b c _ _ k' l) in
    subst (λ (t : List ℕ). AlertsFront a c t)
    (sym (flat_map-append one (take (k + 1) flags) (drop (k + 1) flags))
    ∙ ap (flat_map one) (take-append-drop (k + 1) flags))
    (AlertsFront-more a c _ (flat_map one (drop (k + 1) flags)) upto)

-- Status files

-- If one status file was given contents, each status file was given these or none.
given_at : (a b : StoreState) (k n : ℕ) (contents : List (List ℕ)) (t : Bool) → (n == k) ≡ t
    → Replaces a b k contents
    → WasGiven (a.visible.statuses n) (b.visible.statuses n) (if n == k then contents else [])
given_at a b k n contents true e r =
    let same : n ≡ k = grind (arith, e) in
    rw e (subst (λ (m : ℕ). WasGiven (a.visible.statuses m) (b.visible.statuses m) contents) (sym same) r.here)
given_at a b k n contents false e r =
    let apart : n ≢ k = λ is. grind (arith, e, is) in
    rw e (subst (λ (f : Option (List (List ℕ))). WasGiven (a.visible.statuses n) f []) (sym (r.others n apart))
    (WasGiven-none (a.visible.statuses n)))

pub replaced_next : (a b c : StoreState) (flags : List Bool) (k : ℕ) (flag : Bool) (content : List ℕ) → k < length flags
    → flag ≡ get_or flags k flag → flag ≡ true
    → Replaced a b (take k flags) content → Replaces b c k (content ∷ []) → Replaced a c (take (k + 1) flags) content
replaced_next a b c flags k flag content within is set r s = record {
  here = λ n. subst (λ (t : List (List ℕ)). WasGiven (a.visible.statuses n) (c.visible.statuses n) t)
      (ap (λ (t : Bool). (if flag_at (take k flags) n then content ∷ [] else [])
      ++ (if n == k then (if t then content ∷ [] else []) else [])) (sym set)
      ∙ flag_next flags k flag n (content ∷ []) within is)
      (WasGiven-then (a.visible.statuses n) (b.visible.statuses n) (c.visible.statuses n) _ _ (r.here n)
      (given_at b c k n (content ∷ []) (n == k) refl s));
  files = s.files ∙ r.files;
  alerts = s.alerts ∙ r.alerts;
  stays = Stays-then r.stays s.stays;
}

if_nothing : (b : Bool) → ◌≡◌ {A = List (List ℕ)} (if b then [] else []) []
if_nothing true = refl
if_nothing false = refl

-- The store failed at the status file of a number.
pub replaced_some : (a b c : StoreState) (flags : List Bool) (k : ℕ) (content : List ℕ)
    → Replaced a b (take k flags) content → FailsToReplace b c k → ReplacedSome a c flags content
replaced_some a b c flags k content r f = record {
  here = λ n.
      let later = later_flags flags k n (content ∷ []) in
      let none : WasGiven (b.visible.statuses n) (c.visible.statuses n) [] =
      subst (λ (t : List (List ℕ)). WasGiven (b.visible.statuses n) (c.visible.statuses n) t) (if_nothing (n == k))
      (given_at b c k n [] (n == k) refl f.nothing) in
      GivenFront-of (a.visible.statuses n) (c.visible.statuses n) (given_to n (take k flags) content) later.0
      (given_to n flags content)
      (subst (λ (t : List (List ℕ)). WasGiven (a.visible.statuses n) (c.visible.statuses n) t)
      (append-nil (given_to n (take k flags) content))
      (WasGiven-then (a.visible.statuses n) (b.visible.statuses n) (c.visible.statuses n) _ _ (r.here n) none)) later.1;
  files = f.nothing.files ∙ r.files;
  alerts = f.nothing.alerts ∙ r.alerts;
  stays = Stays-then r.stays f.nothing.stays;
  rose = rose_since a.failures b.failures c.failures r.stays.steady f.rose;
}

nothing_at : {X : Type 0} (b : Bool) (flag : Bool) (x : X) → flag ≡ false
    → (if b then (if flag then x ∷ [] else []) else []) ≡ []
nothing_at true flag x unset = rw unset refl
nothing_at false flag x unset = refl

no_more : (flags : List Bool) (k : ℕ) (flag : Bool) (content : List ℕ) (n : ℕ) → flag ≡ false
    → (if flag_at (take k flags) n then content ∷ [] else [])
    ++ (if n == k then (if flag then content ∷ [] else []) else [])
    ≡ (if flag_at (take k flags) n then content ∷ [] else [])
no_more flags k flag content n unset =
    ap (λ (t : List (List ℕ)). (if flag_at (take k flags) n then content ∷ [] else []) ++ t)
    (nothing_at (n == k) flag content unset)
    ∙ append-nil (if flag_at (take k flags) n then content ∷ [] else [])

pub replaced_not : (a b : StoreState) (flags : List Bool) (k : ℕ) (flag : Bool) (content : List ℕ) → k < length flags
    → flag ≡ get_or flags k flag → flag ≡ false
    → Replaced a b (take k flags) content → Replaced a b (take (k + 1) flags) content
replaced_not a b flags k flag content within is unset r = record {
  here = λ n. subst (λ (t : List (List ℕ)). WasGiven (a.visible.statuses n) (b.visible.statuses n) t)
      (sym (no_more flags k flag content n unset) ∙ flag_next flags k flag n (content ∷ []) within is) (r.here n);
  files = r.files;
  alerts = r.alerts;
  stays = r.stays;
}

-- Texts

min_swap : (a b : ℕ) → min a b ≡ min b a
min_swap a b = omega arith

drop_same : (n m : ℕ) → drop n (replicate {A = ℕ} m 10) ≡ replicate (m - n) 10
drop_same n m = drop-replicate n m 10

next_of : (a r : List ℕ) (n : ℕ) → length a ≡ n → take (n + 1) (a ++ 10 ∷ r) ≡ a ++ 10 ∷ []
next_of a r n long = rw (← long) (take-append-add a (10 ∷ r) 1)

-- The text of an alert, as an array has it.
pub alert_is : (f a : List ℕ) (n : ℕ) → n ≡ min (length f) 200 → a ≡ take n f
    → take (n + 1) (a ++ drop n (replicate {A = ℕ} 201 10)) ≡ alert f
alert_is f a n few is =
    let long : length a ≡ n = let l = length-take n f in ap length is ∙ (omega (arith, l, few)) in
    let one : 201 - n ≡ suc (200 - n) = omega (arith, few) in
    let rest : drop n (replicate {A = ℕ} 201 10) ≡ 10 ∷ replicate (200 - n) 10 = drop_same n 201
    ∙ ap (λ (m : ℕ). replicate m 10) one in
    let front : take n f ≡ take 200 f = ap (λ (m : ℕ). take m f) few
    ∙ ap (λ (m : ℕ). take m f) (min_swap (length f) 200) ∙ take_min 200 f in
    ap (λ (t : List ℕ). take (n + 1) (a ++ t)) rest ∙ next_of a (replicate (200 - n) 10) n long
    ∙ ap (λ (t : List ℕ). t ++ 10 ∷ []) (is ∙ front)

-- The content of a status file.
pub padded_is : (f : List ℕ) → length f ≤ 1000 → f ++ drop (length f) (replicate {A = ℕ} 1001 10) ≡ padded f
padded_is f few =
    let whole = take_all 1000 f few in
    ap (λ (t : List ℕ). f ++ t) (drop_same (length f) 1001)
    ∙ ap (λ (t : List ℕ). t ++ replicate (1001 - length t) 10) (sym whole)

-- As many bytes as patterns see.
pub front_taken : (f : List ℕ) (n : ℕ) → n ≡ min (length f) 1000 → take n f ≡ take 1000 f
front_taken f n few = ap (λ (m : ℕ). take m f) (few ∙ min_swap (length f) 1000) ∙ take_min 1000 f
