-- The logs and status files of a script, as a loop over the actions finds them.
use Rattle.std.proofs.Common.{◌≡◌, ℕ, suc, zero, ◌+◌, ◌<◌, ◌↔◌, List, [], ◌∷◌, ◌++◌, length, take, drop, map, get_or}
use Rattle.std.proofs.Common.{drop-cons, refl, sym, ap, ◌∙◌, arith, count_by, cond, Bool, Option, Some, None, subst}
use Rattle.std.proofs.Common.{Bor}
use Rattle.std.specs.Prelude.{unwrap_or, slice_get, IsSome, is_some, option_copied}
use Rattle.std.specs.List.{filter_map, cons_option}
use Rattle.std.proofs.lemmas.List.{map_more}
use Rattle.std.proofs.lemmas.List.Sums.{sum_by-append}
use Rattle.mlog_script.specs.Placed.{placed_behind}
use Rattle.mlog_script.specs.Script.{Act, Log, Status, Plan, plan_behind, log_plans, path_of, file_paths, size_set}
use Rattle.mlog_script.specs.Script.{keep_set, size_after, keep_after, is_log, is_file}
use Rattle.mlog_script.proofs.Placed.{given_next}
use Rattle.mlog_script.specs.declared.plan.TheConstants.{DEFAULT_SIZE, DEFAULT_KEEP}

-- the logs of actions that come after others
abbrev pub plans_behind : List Act → List Act → List Plan
plans_behind before acts = filter_map (λ act. plan_behind act.before act.item) (placed_behind before acts)

pub plans_step : {R : Type 0} (f : R → Act) (actions : List R) (k : ℕ) (action : R) → k < length actions
    → action ≡ get_or actions k action
    → plans_behind (map f (take k actions)) (map f (drop k actions))
    ≡ cons_option (plan_behind (map f (take k actions)) (f action))
    (plans_behind (map f (take (k + 1) actions)) (map f (drop (k + 1) actions)))
plans_step f actions k action within is =
    let next : suc k ≡ k + 1 = omega arith in
    let here : map f (drop k actions) ≡ f action ∷ map f (drop (k + 1) actions) =
    ap (map f) (drop-cons actions k action within ∙ ap (λ y. y ∷ drop (suc k) actions) (sym is))
    ∙ ap (λ n. f action ∷ map f (drop n actions)) next in
    let more : map f (take (k + 1) actions) ≡ map f (take k actions) ++ f action ∷ [] =
    map_more f actions k action within ∙ ap (λ y. map f (take k actions) ++ f y ∷ []) (sym is) in
    ap (plans_behind (map f (take k actions))) here
    ∙ ap (λ before. cons_option (plan_behind (map f (take k actions)) (f action))
    (plans_behind before (map f (drop (k + 1) actions)))) (sym more)

pub size_step : {R : Type 0} (f : R → Act) (actions : List R) (k : ℕ) (action : R) (size next : ℕ) → k < length actions
    → action ≡ get_or actions k action
    → size ≡ size_after (map f (take k actions)) → next ≡ unwrap_or (size_set (f action)) size
    → next ≡ size_after (map f (take (k + 1) actions))
size_step f actions k action size next within is was e =
    e ∙ ap (λ n. unwrap_or (size_set (f action)) n) was
    ∙ sym (given_next size_set (map f (take k actions)) (f action) DEFAULT_SIZE)
    ∙ ap size_after (sym (map_more f actions k action within ∙ ap (λ y. map f (take k actions) ++ f y ∷ []) (sym is)))

pub keep_step : {R : Type 0} (f : R → Act) (actions : List R) (k : ℕ) (action : R) (keep next : ℕ) → k < length actions
    → action ≡ get_or actions k action
    → keep ≡ keep_after (map f (take k actions)) → next ≡ unwrap_or (keep_set (f action)) keep
    → next ≡ keep_after (map f (take (k + 1) actions))
keep_step f actions k action keep next within is was e =
    e ∙ ap (λ n. unwrap_or (keep_set (f action)) n) was
    ∙ sym (given_next keep_set (map f (take k actions)) (f action) DEFAULT_KEEP)
    ∙ ap keep_after (sym (map_more f actions k action within ∙ ap (λ y. map f (take k actions) ++ f y ∷ []) (sym is)))

-- There is a plan for each log, and a path for each status file.

there_is : {X : Type 0} (xs : List X) (n : ℕ) → (IsSome (slice_get xs n) → n < length xs)
    × (n < length xs → IsSome (slice_get xs n))
there_is [] n = (λ e. absurd (cc e), λ within. absurd (omega (arith, within)))
there_is (x ∷ xs) zero = (λ e. omega arith, λ within. refl)
there_is (x ∷ xs) (suc n) = let rest = there_is xs n in
    (λ e. (let lower : n < length xs = rest.0 e in omega (arith, lower)), λ within. rest.1 (omega (arith, within)))

pub there : {X : Type 0} (xs : List X) (n count : ℕ) (o : Option X) → o ≡ slice_get xs n → length xs ≡ count
    → IsSome o ↔ n < count
there xs n count o e counts =
    let here = there_is xs n in (
      λ some. (let within : n < length xs = here.0 (subst (λ p. IsSome p) e some) in omega (arith, within, counts)),
      λ few. subst (λ p. IsSome p) (sym e) (here.1 (omega (arith, few, counts))),
    )

count_first : {X : Type 0} (p : X → Bool) (x : X) (xs : List X) → count_by p (x ∷ xs) ≡ cond (p x) 1 0 + count_by p xs
count_first p x xs = sum_by-append (λ y. cond (p y) 1 0) (x ∷ []) xs ∙ (omega arith)

length_plan : (before : List Act) (act : Act) (plans : List Plan) → length (cons_option (plan_behind before act) plans)
    ≡ cond (is_log act) 1 0 + length plans
length_plan before (Log folder) plans = omega arith
length_plan before act plans = omega arith

length_behind : (before acts : List Act) → length (plans_behind before acts) ≡ count_by is_log acts
length_behind before [] = refl
length_behind before (act ∷ acts) =
    length_plan before act (plans_behind (before ++ act ∷ []) acts)
    ∙ ap (λ n. cond (is_log act) 1 0 + n) (length_behind (before ++ act ∷ []) acts)
    ∙ sym (count_first is_log act acts)

pub length-log_plans : (acts : List Act) → length (log_plans acts) ≡ count_by is_log acts
length-log_plans acts = length_behind [] acts

length_path : (act : Act) (paths : List (List ℕ)) → length (cons_option (path_of act) paths) ≡ cond (is_file act) 1 0
    + length paths
length_path (Status path) paths = omega arith
length_path act paths = omega arith

pub length-file_paths : (acts : List Act) → length (file_paths acts) ≡ count_by is_file acts
length-file_paths [] = refl
length-file_paths (act ∷ acts) =
    length_path act (file_paths acts) ∙ ap (λ n. cond (is_file act) 1 0 + n) (length-file_paths acts)
    ∙ sym (count_first is_file act acts)

some_copied : {X : Type 0} (o : Option (Bor X)) → is_some (option_copied o) ≡ is_some o
some_copied None = refl
some_copied (Some x) = refl

pub there_copied : {X : Type 0} (xs : List X) (n count : ℕ) (o : Option (Bor X)) → option_copied o ≡ slice_get xs n
    → length xs ≡ count → IsSome o ↔ n < count
there_copied xs n count o e counts =
    let here = there xs n count (option_copied o) e counts in
    (λ some. here.0 (some_copied o ∙ some), λ few. sym (some_copied o) ∙ here.1 few)
