-- The numbers of a script are within their limits.
use Rattle.std.proofs.Common.{◌≡◌, ℕ, zero, suc, ◌≤◌, ◌==◌, nat_le, if◌then◌else◌, Bool, true, false, ◌&&◌, ◌||◌, List}
use Rattle.std.proofs.Common.{[], ◌∷◌, ◌++◌, map, Option, Some, None, Result, Ok, Err, refl, sym, subst, ap, ◌∙◌, arith}
use Rattle.std.specs.Prelude.{unwrap_or, slice_get, IfSome}
use Rattle.std.specs.List.{list_all, last_or, filter_map, cons_option}
use Rattle.star_match.specs.Star.{has_adjacent_stars}
use Rattle.mlog_script.specs.Script.{Act, Stamp, Alert, Size, Keep, Select, Deselect, Status, Log, Plan, said, in_range}
use Rattle.mlog_script.specs.Script.{sets, alone, on_path, is_number, number, is_within_limits, size_set, keep_set}
use Rattle.mlog_script.specs.Script.{size_after, keep_after, plan_behind, log_plans}
use Rattle.mlog_script.specs.declared.fault.ScriptFaultKind.{ScriptFaultKind}
use Rattle.mlog_script.specs.declared.fault.ScriptFaultKind.TheVariants.{SizeRange, CountRange, BadNumber, Processor}
use Rattle.mlog_script.specs.declared.fault.ScriptFaultKind.TheVariants.{UnknownAction, Pattern}
use Rattle.mlog_script.specs.declared.plan.TheConstants.{DEFAULT_SIZE, DEFAULT_KEEP}
use Rattle.mlog_script.specs.declared.word.TheConstants.{LEAST_SIZE, MOST_SIZE}
use Rattle.mlog_script.proofs.Plans.{plans_behind}

ok_same : {A E : Type 0} (x y : A) → ◌≡◌ {A = Result A E} (Ok x) (Ok y) → x ≡ y
ok_same x y e = cc

least_by : (a b c : Bool) (least n m : ℕ) (p q : ScriptFaultKind) → nat_le least n ≡ b
    → ◌≡◌ {A = Result ℕ ScriptFaultKind} (if a then (if b && c then Ok n else Err p) else Err q) (Ok m) → least ≤ m
least_by true true true least n m p q low e = let same = ok_same n m e in grind (arith, low, same)
least_by true true false least n m p q low e = absurd cc
least_by true false c least n m p q low e = absurd cc
least_by false b c least n m p q low e = absurd cc

in_range_least : (digits : List ℕ) (least most : ℕ) (range : ScriptFaultKind) (m : ℕ) → in_range digits least most range
    ≡ Ok m → least ≤ m
in_range_least digits least most range m e =
    least_by (is_number digits) (nat_le least (number digits)) (nat_le (number digits) most) least (number digits) m
    range BadNumber refl e

sets_within : (f : ℕ → Act) (least : ℕ) (r : Result ℕ ScriptFaultKind) (a : Act) → ((n : ℕ) → r ≡ Ok n → least ≤ n)
    → ((n : ℕ) → least ≤ n → is_within_limits (f n) ≡ true)
    → sets f r ≡ Ok a → is_within_limits a ≡ true
sets_within f least (Ok n) a low within e = ap is_within_limits (sym (ok_same (f n) a e)) ∙ within n (low n refl)
sets_within f least (Err k) a low within e = absurd cc

alone_within : (act : Act) (rest : List ℕ) (a : Act) → is_within_limits act ≡ true → alone act rest ≡ Ok a
    → is_within_limits a ≡ true
alone_within act [] a within e = ap is_within_limits (sym (ok_same act a e)) ∙ within
alone_within act (byte ∷ rest) a within e = absurd cc

pattern_by : (b : Bool) (act a : Act) → is_within_limits act ≡ true
    → ◌≡◌ {A = Result Act ScriptFaultKind} (if b then Err Pattern else Ok act) (Ok a) → is_within_limits a ≡ true
pattern_by true act a within e = absurd cc
pattern_by false act a within e = ap is_within_limits (sym (ok_same act a e)) ∙ within

path_within : (path : List ℕ) (a : Act) → on_path path ≡ Ok a → is_within_limits a ≡ true
path_within [] a e = absurd cc
path_within (byte ∷ rest) a e = ap is_within_limits (sym (ok_same (Status (byte ∷ rest)) a e))

branch : (b : Bool) (x y : Result Act ScriptFaultKind) (a : Act) → (x ≡ Ok a → is_within_limits a ≡ true)
    → (y ≡ Ok a → is_within_limits a ≡ true)
    → (if b then x else y) ≡ Ok a → is_within_limits a ≡ true
branch true x y a f g e = f e
branch false x y a f g e = g e

none_of : (kind : ScriptFaultKind) (a : Act) → ◌≡◌ {A = Result Act ScriptFaultKind} (Err kind) (Ok a)
    → is_within_limits a ≡ true
none_of kind a e = absurd cc

pub said_within : (word : List ℕ) (a : Act) → said word ≡ Ok a → is_within_limits a ≡ true
said_within [] a e = none_of UnknownAction a e
said_within (first ∷ rest) a e =
    branch (first == 116) _ _ a (λ e. alone_within Stamp rest a refl e) (λ e.
    branch (first == 101) _ _ a (λ e. alone_within Alert rest a refl e) (λ e.
    branch (first == 115) _ _ a
    (λ e. sets_within (λ n. Size n) LEAST_SIZE (in_range rest LEAST_SIZE MOST_SIZE SizeRange) a
    (λ n. in_range_least rest LEAST_SIZE MOST_SIZE SizeRange n) (λ n low. grind (arith, low)) e) (λ e.
    branch (first == 110) _ _ a
    (λ e. sets_within (λ n. Keep n) 2 (in_range rest 2 4294967295 CountRange) a
    (λ n. in_range_least rest 2 4294967295 CountRange n) (λ n low. grind (arith, low)) e) (λ e.
    branch (first == 43) _ _ a (λ e. pattern_by (has_adjacent_stars rest) (Select rest) a refl e) (λ e.
    branch (first == 45) _ _ a (λ e. pattern_by (has_adjacent_stars rest) (Deselect rest) a refl e) (λ e.
    branch (first == 61) _ _ a (λ e. path_within rest a e) (λ e.
    branch (first == 33) _ _ a (λ e. none_of Processor a e) (λ e.
    branch (first == 46 || first == 47) _ _ a (λ e. ap is_within_limits (sym (ok_same (Log (first ∷ rest)) a e)))
    (λ e. none_of UnknownAction a e) e) e) e) e) e) e) e) e) e

pub actions_within : (words : List (List ℕ)) (acts : List Act) → map said words ≡ map (λ (a : Act). Ok a) acts
    → list_all is_within_limits acts ≡ true
actions_within words [] e = refl
actions_within [] (a ∷ acts) e = absurd cc
actions_within (w ∷ ws) (a ∷ acts) e =
    let here : said w ≡ Ok a = cc in
    let later : map said ws ≡ map (λ (a : Act). Ok a) acts = cc in
    rw (said_within w a here) (actions_within ws acts later)

-- Plans

size_behind : (acts : List Act) (o : Option ℕ) → list_all is_within_limits acts ≡ true → LEAST_SIZE ≤ unwrap_or o DEFAULT_SIZE
    → LEAST_SIZE ≤ unwrap_or (last_or o (filter_map size_set acts)) DEFAULT_SIZE
size_behind [] o within low = low
size_behind (Size n ∷ acts) o within low =
    let here : LEAST_SIZE ≤ n = grind (arith, within) in
    let later : list_all is_within_limits acts ≡ true = grind (arith, within) in
    size_behind acts (Some n) later here
size_behind (Keep n ∷ acts) o within low = size_behind acts o (grind (arith, within)) low
size_behind (act ∷ acts) o within low = size_behind acts o within low

keep_behind : (acts : List Act) (o : Option ℕ) → list_all is_within_limits acts ≡ true → 2 ≤ unwrap_or o DEFAULT_KEEP
    → 2 ≤ unwrap_or (last_or o (filter_map keep_set acts)) DEFAULT_KEEP
keep_behind [] o within low = low
keep_behind (Keep n ∷ acts) o within low =
    let here : 2 ≤ n = grind (arith, within) in
    let later : list_all is_within_limits acts ≡ true = grind (arith, within) in
    keep_behind acts (Some n) later here
keep_behind (Size n ∷ acts) o within low = keep_behind acts o (grind (arith, within)) low
keep_behind (act ∷ acts) o within low = keep_behind acts o within low

all_next : (acts : List Act) (act : Act) → list_all is_within_limits acts ≡ true → is_within_limits act ≡ true
    → list_all is_within_limits (acts ++ act ∷ []) ≡ true
all_next [] act within is = rw is refl
all_next (a ∷ acts) act within is =
    let here : is_within_limits a ≡ true = grind (arith, within) in
    let later : list_all is_within_limits acts ≡ true = grind (arith, within) in
    rw here (all_next acts act later is)

IsWithin : Plan → Type 0
IsWithin plan = (LEAST_SIZE ≤ plan.size) × (2 ≤ plan.keep)

plan_within : (before : List Act) (act : Act) (plan : Plan) → list_all is_within_limits before ≡ true
    → plan_behind before act ≡ Some plan → IsWithin plan
unfolding IsWithin
plan_within before (Log folder) plan within e =
    let is : record { folder = folder; size = size_after before; keep = keep_after before } ≡ plan = cc in
    subst (λ (p : Plan). (LEAST_SIZE ≤ p.size) × (2 ≤ p.keep)) is (
      size_behind before None within (omega arith),
      keep_behind before None within (omega arith),
    )
plan_within before act plan within e = absurd cc

among_within : (o : Option Plan) (plans : List Plan) (log : ℕ) (plan : Plan) → ((p : Plan) → o ≡ Some p → IsWithin p)
    → ((n : ℕ) (p : Plan) → slice_get plans n ≡ Some p → IsWithin p) → slice_get (cons_option o plans) log ≡ Some plan
    → IsWithin plan
among_within None plans log plan here later e = later log plan e
among_within (Some p) plans zero plan here later e = here plan e
among_within (Some p) plans (suc log) plan here later e = later log plan e

plans_within_behind : (before acts : List Act) (log : ℕ) (plan : Plan) → list_all is_within_limits before ≡ true
    → list_all is_within_limits acts ≡ true
    → slice_get (plans_behind before acts) log ≡ Some plan → IsWithin plan
plans_within_behind before [] log plan within also e = absurd cc
plans_within_behind before (act ∷ acts) log plan within also e =
    let here : is_within_limits act ≡ true = grind (arith, also) in
    let later : list_all is_within_limits acts ≡ true = grind (arith, also) in
    among_within (plan_behind before act) (plans_behind (before ++ act ∷ []) acts) log plan
    (λ p. plan_within before act p within)
    (λ n p. plans_within_behind (before ++ act ∷ []) acts n p (all_next before act within here) later) e

pub plans_within : (acts : List Act) (log : ℕ) (plan : Plan) → list_all is_within_limits acts ≡ true
    → slice_get (log_plans acts) log ≡ Some plan
    → (LEAST_SIZE ≤ plan.size) × (2 ≤ plan.keep)
unfolding IsWithin
plans_within acts log plan within e = plans_within_behind [] acts log plan refl within e

pub plan_limits : (acts : List Act) (log : ℕ) (o : Option Plan) → list_all is_within_limits acts ≡ true
    → o ≡ slice_get (log_plans acts) log
    → IfSome o (λ plan. (LEAST_SIZE ≤ plan.size) × (2 ≤ plan.keep))
plan_limits acts log None within e = tt
plan_limits acts log (Some plan) within e = plans_within acts log plan within (sym e)
