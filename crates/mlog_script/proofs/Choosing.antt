-- The outputs at which a line is selected, as a loop over the actions finds them.
use Rattle.std.proofs.Common.{◌≡◌, ℕ, suc, ◌+◌, ◌-◌, ◌<◌, ◌≤◌, if◌then◌else◌, Bool, true, false, not, List, [], ◌∷◌}
use Rattle.std.proofs.Common.{◌++◌, length, take, drop, map, get_or, drop-cons, refl, sym, subst, ap, ◌∙◌, arith}
use Rattle.std.proofs.Common.{append-nil, count_by, cond, Some, None}
use Rattle.std.specs.Prelude.{unwrap_or}
use Rattle.std.specs.List.{filter_map, cons_option, last_or, list_any, list_all}
use Rattle.std.proofs.lemmas.Bool.{or_parts, and_parts, false≢true}
use Rattle.std.proofs.lemmas.List.{map_more, map-append, take-append-drop, take-map, take_all}
use Rattle.std.proofs.Math.Seq.{take-add}
use Rattle.std.proofs.lemmas.List.Elements.{filter_map-append}
use Rattle.std.proofs.lemmas.List.Sums.{sum_by-append}
use Rattle.mlog_script.specs.Placed.{placed_behind, last_given}
use Rattle.mlog_script.specs.Script.{Act, Select, Deselect, is_pattern, is_alert, is_log, is_file}
use Rattle.mlog_script.specs.Selection.{decision, is_chosen, choice, choices, Chosen, Fits, chosen}
use Rattle.mlog_script.specs.Choices.{AreAllSet}
use Rattle.mlog_script.proofs.Placed.{placed_behind-append, given_next, given_then}

choice_of : (b chosen : Bool) → cons_option (if b then Some chosen else None) [] ≡ (if b then chosen ∷ [] else [])
choice_of true chosen = refl
choice_of false chosen = refl

pub choices_next : (test : Act → Bool) (acts : List Act) (a : Act) (front : List ℕ)
    → choices test (acts ++ a ∷ []) front ≡ choices test acts front
    ++ (if test a then is_chosen acts front ∷ [] else [])
choices_next test acts a front =
    ap (filter_map (choice test front)) (placed_behind-append [] acts (a ∷ []))
    ∙ filter_map-append (choice test front) (placed_behind [] acts) (placed_behind acts (a ∷ []))
    ∙ ap (λ (flags : List Bool). choices test acts front ++ flags) (choice_of (test a) (is_chosen acts front))

count_first : {X : Type 0} (p : X → Bool) (x : X) (xs : List X) → count_by p (x ∷ xs) ≡ count_by p (x ∷ [])
    + count_by p xs
count_first p x xs = sum_by-append (λ y. cond (p y) 1 0) (x ∷ []) xs

length_choice : (b chosen : Bool) (flags : List Bool) → length (cons_option (if b then Some chosen else None) flags)
    ≡ cond b 1 0 + length flags
length_choice true chosen flags = omega arith
length_choice false chosen flags = omega arith

length_behind : (test : Act → Bool) (front : List ℕ) (before acts : List Act)
    → length (filter_map (choice test front) (placed_behind before acts)) ≡ count_by test acts
length_behind test front before [] = refl
length_behind test front before (a ∷ acts) =
    length_choice (test a) (is_chosen before front)
    (filter_map (choice test front) (placed_behind (before ++ a ∷ []) acts))
    ∙ ap (λ n. cond (test a) 1 0 + n) (length_behind test front (before ++ a ∷ []) acts)
    ∙ (let first = count_first test a acts in omega (arith, first))

-- one choice for each action that passes the test
pub length-choices : (test : Act → Bool) (acts : List Act) (front : List ℕ) → length (choices test acts front)
    ≡ count_by test acts
length-choices test acts front = length_behind test front [] acts

-- the actions at a place of a loop
pub acts_next : {R : Type 0} (f : R → Act) (actions : List R) (k : ℕ) (action : R) → k < length actions
    → action ≡ get_or actions k action
    → map f (take (k + 1) actions) ≡ map f (take k actions) ++ f action ∷ []
acts_next f actions k action within is = map_more f actions k action within
    ∙ ap (λ y. map f (take k actions) ++ f y ∷ []) (sym is)

pub flags_step : {R : Type 0} (f : R → Act) (test : Act → Bool) (actions : List R) (front : List ℕ) (k : ℕ) (action : R)
    (chosen : Bool) (flags more : List Bool)
    → k < length actions → action ≡ get_or actions k action → chosen ≡ is_chosen (map f (take k actions)) front
    → flags ≡ choices test (map f (take k actions)) front
    → more ≡ flags ++ (if test (f action) then chosen ∷ [] else [])
    → more ≡ choices test (map f (take (k + 1) actions)) front
flags_step f test actions front k action chosen flags more within is was held e =
    e ∙ ap (λ (fs : List Bool). fs ++ (if test (f action) then chosen ∷ [] else [])) held
    ∙ ap (λ b. choices test (map f (take k actions)) front ++ (if test (f action) then b ∷ [] else [])) was
    ∙ sym (choices_next test (map f (take k actions)) (f action) front)
    ∙ ap (λ acts. choices test acts front) (sym (acts_next f actions k action within is))

-- there is room for a choice when it is noted
pub room_at : {R : Type 0} (f : R → Act) (test : Act → Bool) (actions : List R) (front : List ℕ) (k room : ℕ)
    (action : R) (flags : List Bool)
    → k < length actions → action ≡ get_or actions k action → flags ≡ choices test (map f (take k actions)) front
    → count_by test (map f actions) ≤ room → test (f action) ≡ true → length flags < room
room_at f test actions front k room action flags within is held fits here =
    let n = ap length held ∙ length-choices test (map f (take k actions)) front in
    let split : map f actions ≡ map f (take k actions) ++ f action ∷ map f (drop (suc k) actions) =
    ap (map f) (sym (take-append-drop k actions)) ∙ map-append f (take k actions) (drop k actions)
    ∙ ap (λ rest. map f (take k actions) ++ map f rest) (drop-cons actions k action within)
    ∙ ap (λ a. map f (take k actions) ++ f a ∷ map f (drop (suc k) actions)) (sym is) in
    let sums = ap (count_by test) split
    ∙ sum_by-append (λ (a : Act). cond (test a) 1 0) (map f (take k actions))
    (f action ∷ map f (drop (suc k) actions)) in
    let first = count_first test (f action) (map f (drop (suc k) actions)) in
    let one : count_by test (f action ∷ []) ≡ 1 = ap (λ b. 0 + cond b 1 0) here in
    omega (arith, n, sums, first, one, fits)

-- The actions between two places decide last.
pub chosen_between : {R : Type 0} (f : R → Act) (actions : List R) (front : List ℕ) (asked place : ℕ)
    (chosen next : Bool)
    → asked ≤ place → chosen ≡ is_chosen (map f (take asked actions)) front
    → next ≡ unwrap_or (last_given (decision front) (map f (take (place - asked) (drop asked actions)))) chosen
    → next ≡ is_chosen (map f (take place actions)) front
chosen_between f actions front asked place chosen next before was e =
    let between = take (place - asked) (drop asked actions) in
    let cut : take place actions ≡ take asked actions ++ between =
    ap (λ n. take n actions) (let sum : place ≡ asked + (place - asked) = omega (arith, before) in sum)
    ∙ take-add asked (place - asked) actions in
    e ∙ ap (λ b. unwrap_or (last_given (decision front) (map f between)) b) was
    ∙ sym (given_then (decision front) (map f (take asked actions)) (map f between) true)
    ∙ ap (λ acts. is_chosen acts front) (sym (map-append f (take asked actions) between) ∙ ap (map f) (sym cut))

-- The last of some actions decides, or those before it do.
pub chosen_back : {R : Type 0} (f : R → Act) (front : List ℕ) (rest : List R) (last : R) (before : Bool)
    → 1 ≤ length rest
    → last ≡ get_or rest (length rest - 1) last
    → unwrap_or (last_given (decision front) (map f rest)) before
    ≡ unwrap_or (decision front (f last))
    (unwrap_or (last_given (decision front) (map f (take (length rest - 1) rest))) before)
chosen_back f front rest last before some is =
    let all : map f rest ≡ map f (take (length rest - 1 + 1) rest) =
    ap (map f) (sym (take_all (length rest - 1 + 1) rest (omega (arith, some)))) in
    ap (λ acts. unwrap_or (last_given (decision front) acts) before) (all
    ∙ acts_next f rest (length rest - 1) last (omega (arith, some)) is)
    ∙ given_next (decision front) (map f (take (length rest - 1) rest)) (f last) before

-- An action that sends no lines adds no flag.
pub no_flag : {R : Type 0} (f : R → Act) (test : Act → Bool) (actions : List R) (front : List ℕ) (k : ℕ) (action : R)
    (flags : List Bool)
    → k < length actions → action ≡ get_or actions k action → test (f action) ≡ false
    → flags ≡ choices test (map f (take k actions)) front → flags ≡ choices test (map f (take (k + 1) actions)) front
no_flag f test actions front k action flags within is none held =
    held ∙ sym (append-nil (choices test (map f (take k actions)) front))
    ∙ ap (λ b. choices test (map f (take k actions)) front
    ++ (if b then is_chosen (map f (take k actions)) front ∷ [] else [])) (sym none)
    ∙ sym (choices_next test (map f (take k actions)) (f action) front)
    ∙ ap (λ acts. choices test acts front) (sym (acts_next f actions k action within is))

-- Actions that send no lines.

none_of_length : (flags : List Bool) → length flags ≡ 0 → [] ≡ flags
none_of_length [] n = refl
none_of_length (flag ∷ flags) n = absurd (omega (arith, n))

-- They add no flags.
pub no_flags : {R : Type 0} (f : R → Act) (test : Act → Bool) (actions : List R) (front : List ℕ) (n : ℕ)
    → count_by test (take n (map f actions)) ≡ 0 → [] ≡ choices test (map f (take n actions)) front
no_flags f test actions front n none =
    none_of_length (choices test (map f (take n actions)) front)
    (length-choices test (map f (take n actions)) front
    ∙ ap (count_by test) (sym (take-map f n actions)) ∙ none)

-- One more of them is counted as none.
pub none_counted : {R : Type 0} (f : R → Act) (test : Act → Bool) (actions : List R) (k : ℕ) (action : R)
    → k < length actions → action ≡ get_or actions k action → test (f action) ≡ false
    → count_by test (take k (map f actions)) ≡ 0 → count_by test (take (k + 1) (map f actions)) ≡ 0
none_counted f test actions k action within is none held =
    let one : count_by test (f action ∷ []) ≡ 0 = ap (λ b. 0 + cond b 1 0) none in
    let before : count_by test (map f (take k actions)) ≡ 0 = ap (count_by test) (sym (take-map f k actions)) ∙ held in
    let sums = sum_by-append (λ (a : Act). cond (test a) 1 0) (map f (take k actions)) (f action ∷ []) in
    ap (count_by test) (take-map f (k + 1) actions ∙ acts_next f actions k action within is)
    ∙ (let total : count_by test (map f (take k actions) ++ f action ∷ []) ≡ 0 = omega (arith, sums, one, before) in total)

-- If there is no pattern, each line is selected everywhere.

no_decision : (front : List ℕ) (a : Act) → is_pattern a ≡ false → decision front a ≡ None
no_decision front (Select pattern) none = absurd (false≢true (sym none))
no_decision front (Deselect pattern) none = absurd (false≢true (sym none))
no_decision front a none = refl

nothing_decides : (front : List ℕ) (acts : List Act) → list_any is_pattern acts ≡ false
    → filter_map (decision front) acts ≡ []
nothing_decides front [] none = refl
nothing_decides front (a ∷ acts) none =
    let parts = or_parts (is_pattern a) (list_any is_pattern acts) none in
    ap (λ o. cons_option o (filter_map (decision front) acts)) (no_decision front a parts.0)
    ∙ nothing_decides front acts parts.1

is_chosen_always : (front : List ℕ) (acts : List Act) → list_any is_pattern acts ≡ false → is_chosen acts front ≡ true
is_chosen_always front acts none = ap (λ bs. unwrap_or (last_or None bs) true) (nothing_decides front acts none)

none_more : (acts : List Act) (a : Act) → list_any is_pattern acts ≡ false → is_pattern a ≡ false
    → list_any is_pattern (acts ++ a ∷ []) ≡ false
none_more [] a none here = rw here refl
none_more (b ∷ acts) a none here =
    let parts = or_parts (is_pattern b) (list_any is_pattern acts) none in
    rw (parts.0) (none_more acts a parts.1 here)

set_first : (b chosen : Bool) (flags : List Bool) → chosen ≡ true → list_all (λ flag. flag) flags ≡ true
    → list_all (λ flag. flag) (cons_option (if b then Some chosen else None) flags) ≡ true
set_first true chosen flags is all = rw is all
set_first false chosen flags is all = all

set_behind : (test : Act → Bool) (front : List ℕ) (before acts : List Act) → list_any is_pattern before ≡ false
    → list_any is_pattern acts ≡ false
    → list_all (λ flag. flag) (filter_map (choice test front) (placed_behind before acts)) ≡ true
set_behind test front before [] none also = refl
set_behind test front before (a ∷ acts) none also =
    let parts = or_parts (is_pattern a) (list_any is_pattern acts) also in
    set_first (test a) (is_chosen before front) (filter_map (choice test front) (placed_behind (before ++ a ∷ []) acts))
    (is_chosen_always front before none)
    (set_behind test front (before ++ a ∷ []) acts (none_more before a none parts.0) parts.1)

-- All flags are set in that case.
pub set_always : (test : Act → Bool) (acts : List Act) (front : List ℕ) → list_any is_pattern acts ≡ false
    → list_all (λ flag. flag) (choices test acts front) ≡ true
set_always test acts front none = set_behind test front [] acts refl none

all_set_same : (xs ys : List Bool) → list_all (λ flag. flag) xs ≡ true → list_all (λ flag. flag) ys ≡ true
    → length xs ≡ length ys → xs ≡ ys
all_set_same [] [] all also n = refl
all_set_same [] (y ∷ ys) all also n = absurd (omega (arith, n))
all_set_same (x ∷ xs) [] all also n = absurd (omega (arith, n))
all_set_same (x ∷ xs) (y ∷ ys) all also n =
    let here = and_parts x (list_all (λ flag. flag) xs) all in
    let there = and_parts y (list_all (λ flag. flag) ys) also in
    let rest = all_set_same xs ys here.1 there.1 (omega (arith, n)) in
    let head : x ≡ y = here.0 ∙ sym there.0 in cc

-- Flags that are all set, one for each action, are therefore the flags of each line.
pub set_are : (test : Act → Bool) (acts : List Act) (front : List ℕ) (flags : List Bool)
    → list_any is_pattern acts ≡ false
    → list_all (λ flag. flag) flags ≡ true → length flags ≡ count_by test acts → flags ≡ choices test acts front
set_are test acts front flags none all fits =
    all_set_same flags (choices test acts front) all (set_always test acts front none) (fits
    ∙ sym (length-choices test acts front))

same_chosen : (a b c x y z : List Bool) → a ≡ x → b ≡ y → c ≡ z
    → ◌≡◌ {A = Chosen} (record { alerts = a; logs = b; files = c }) (record { alerts = x; logs = y; files = z })
same_chosen a b c x y z p q r = cc

-- the same, as choices keep them
pub chosen_stays : (script : List Act) (front : List ℕ) (c : Chosen) (alerts logs files : List Bool)
    → record { alerts = alerts; logs = logs; files = files } ≡ c → AreAllSet alerts logs files → Fits c script
    → (b : Bool) → b ≡ list_any is_pattern script → b ≡ false → c ≡ chosen script front
chosen_stays script front c alerts logs files is set fits b tests other =
    let none : list_any is_pattern script ≡ false = sym tests ∙ other in
    let held = subst (λ (x : Chosen). Fits x script) (sym is) fits in
    sym is ∙ same_chosen alerts logs files (choices is_alert script front) (choices is_log script front)
    (choices is_file script front)
    (set_are is_alert script front alerts none set.0 held.alerts_fit)
    (set_are is_log script front logs none set.1 held.logs_fit)
    (set_are is_file script front files none set.2 held.files_fit)

pub set_noted : (test : Act → Bool) (script acts : List Act) (front : List ℕ) (flags : List Bool) (b : Bool)
    → flags ≡ choices test acts front → acts ≡ script
    → b ≡ list_any is_pattern script → not b ≡ true → list_all (λ flag. flag) flags ≡ true
set_noted test script acts front flags true noted same tests other = absurd (false≢true other)
set_noted test script acts front flags false noted same tests other =
    ap (list_all (λ flag. flag)) noted ∙ set_always test acts front (ap (list_any is_pattern) same ∙ sym tests)
