-- Logs that are rotated, one after another.
use Rattle.std.proofs.Common.{◌≡◌, ◌≢◌, ℕ, ◌+◌, ◌<◌, ◌≤◌, ◌==◌, nat_lt, Bool, true, false, List, [], ◌∷◌, ◌++◌, length}
use Rattle.std.proofs.Common.{take, count_by, cond, Option, None, refl, sym, subst, ap, ◌∙◌, arith}
use Rattle.std.proofs.lemmas.List.{take_all}
use Rattle.std.proofs.lemmas.Option.{slice_get_past}
use Rattle.std.specs.List.{filter_map, cons_option}
use Rattle.std.proofs.lemmas.List.Sums.{sum_by-append}
use Rattle.std.specs.Prelude.{slice_get}
use Rattle.tai_status.specs.Label.{Tai64n}
use Rattle.tai_status.specs.Extended.{Extended}
use Rattle.mlog_script.specs.Placed.{placed_behind}
use Rattle.mlog_script.specs.Script.{Act, Log, Plan, plan_behind, log_plans, is_log}
use Rattle.mlog_files.specs.Files.{Files, Step}
use Rattle.mlog_files.specs.Store.{StoreState, Stays, Reaches, DoesFront}
use Rattle.mlog_files.specs.Tails.{StopsOn}
use Rattle.mlog_files.specs.declared.tail.LogFault.{LogFault}
use Rattle.mlog_files.proofs.Doing.{Stays-then, rose_since}
use Rattle.mlog_files.proofs.Putting.{same_files}
use Rattle.mlog_core.specs.Run.{ReachesFront}
use Rattle.mlog_core.specs.Rotate.{rotation, stands_rotated, Rotates, RotatesUpTo}

-- The logs below a number

pub record RotatedBelow (script : List Act) (reading : Tai64n) (old new : StoreState) (count : ℕ) : Type 0 where
  pub below : (log : ℕ) → log < count
      → Reaches (old.visible.files log) (new.visible.files log)
      (rotation (slice_get (log_plans script) log) reading (old.visible.files log))
  pub beyond : (log : ℕ) → count ≤ log → new.visible.files log ≡ old.visible.files log
  pub statuses : new.visible.statuses ≡ old.visible.statuses
  pub alerts : new.visible.alerts ≡ old.visible.alerts
  pub stays : Stays old new

not_same : (i j : ℕ) → (i == j) ≡ false → i ≢ j
not_same i j e = λ is. grind (arith, e, is)

-- All of them

abbrev plans_behind : List Act → List Act → List Plan
plans_behind before acts = filter_map (λ act. plan_behind act.before act.item) (placed_behind before acts)

length_plan : (before : List Act) (act : Act) (plans : List Plan) → length (cons_option (plan_behind before act) plans)
    ≡ cond (is_log act) 1 0 + length plans
length_plan before (Log folder) plans = omega arith
length_plan before act plans = omega arith

count_first : (act : Act) (acts : List Act) → count_by is_log (act ∷ acts) ≡ cond (is_log act) 1 0
    + count_by is_log acts
count_first act acts = sum_by-append (λ y. cond (is_log y) 1 0) (act ∷ []) acts ∙ (omega arith)

-- There is a plan for each log.
length_plans : (before acts : List Act) → length (plans_behind before acts) ≡ count_by is_log acts
length_plans before [] = refl
length_plans before (act ∷ acts) =
    length_plan before act (plans_behind (before ++ act ∷ []) acts)
    ∙ ap (λ (n : ℕ). cond (is_log act) 1 0 + n) (length_plans (before ++ act ∷ []) acts)
    ∙ sym (count_first act acts)

at_all : (script : List Act) (r : Tai64n) (o q : StoreState) (count n : ℕ) (b : Bool) → nat_lt n count ≡ b
    → count ≡ count_by is_log script → RotatedBelow script r o q count
    → Reaches (o.visible.files n) (q.visible.files n) (rotation (slice_get (log_plans script) n) r (o.visible.files n))
at_all script r o q count n true e all up = up.below n (grind (arith, e))
at_all script r o q count n false e all up =
    let high : count ≤ n = grind (arith, e) in
    let past : slice_get (log_plans script) n ≡ None =
    slice_get_past (log_plans script) n (let l : length (log_plans script) ≡ count_by is_log script =
    length_plans [] script in omega (arith, high, all, l)) in
    rw past (subst (λ (f : Option Files). Reaches (o.visible.files n) f []) (sym (up.beyond n high))
    (same_files (o.visible.files n)))

pub all_rotated : (script : List Act) (r : Tai64n) (o q : StoreState) (count : ℕ) (read reads : Option (List Tai64n))
    → count ≡ count_by is_log script
    → Extended read reads (r ∷ []) → RotatedBelow script r o q count → Rotates script o q read reads
all_rotated script r o q count read reads all gave up = record {
  reading = r;
  gave = gave;
  logs = λ n. at_all script r o q count n (nat_lt n count) refl all up;
  statuses = up.statuses;
  alerts = up.alerts;
  stays = up.stays;
}

-- A rotation stopped at one log

whole_front : (a b : Option Files) (steps : List Step) → Reaches a b steps → ReachesFront a b 0 steps
whole_front a b steps k = record {
  count = length steps;
  enough = omega arith;
  reaches = subst (λ (s : List Step). Reaches a b s) (sym (take_all (length steps) steps (omega arith))) k;
}

front_of_one : (script : List Act) (r : Tai64n) (o p q : StoreState) (log n : ℕ) (b low : Bool) → (n == log) ≡ b
    → nat_lt n log ≡ low → RotatedBelow script r o p log
    → DoesFront p q log (rotation (slice_get (log_plans script) log) r (p.visible.files log))
    → ReachesFront (o.visible.files n) (q.visible.files n) 0 (rotation (slice_get (log_plans script) n) r
    (o.visible.files n))
front_of_one script r o p q log n true low e l up d =
    let same : n ≡ log = grind (arith, e) in
    subst (λ (m : ℕ). ReachesFront (o.visible.files m) (q.visible.files m) 0
    (rotation (slice_get (log_plans script) m) r (o.visible.files m))) (sym same)
    (record {
      count = d.count;
      enough = omega arith;
      reaches = subst (λ (f : Option Files).
          Reaches f (q.visible.files log) (take d.count (rotation (slice_get (log_plans script) log) r f)))
          (up.beyond log (omega arith)) d.front.here;
    })
front_of_one script r o p q log n false true e l up d =
    whole_front (o.visible.files n) (q.visible.files n) (rotation (slice_get (log_plans script) n) r
    (o.visible.files n))
    (subst (λ (f : Option Files).
    Reaches (o.visible.files n) f (rotation (slice_get (log_plans script) n) r (o.visible.files n)))
    (sym (d.front.others n (not_same n log e))) (up.below n (grind (arith, l))))
front_of_one script r o p q log n false false e l up d = record {
  count = 0;
  enough = omega arith;
  reaches = subst (λ (f : Option Files). Reaches (o.visible.files n) f [])
      (sym (d.front.others n (not_same n log e) ∙ up.beyond n (grind (arith, l)))) (same_files (o.visible.files n));
}

pub not_all_rotated : (script : List Act) (r : Tai64n) (o p q : StoreState) (log : ℕ) (why : LogFault)
    (read reads : Option (List Tai64n))
    → Extended read reads (r ∷ []) → RotatedBelow script r o p log
    → StopsOn p q log (rotation (slice_get (log_plans script) log) r (p.visible.files log))
    (stands_rotated (slice_get (log_plans script) log) r (p.visible.files log)) why
    → RotatesUpTo script o q read reads why
not_all_rotated script r o p q log why read reads gave up s =
    let front = s.front.front in
    let same = up.beyond log (omega arith) in record {
      reading = r;
      gave = gave;
      logs = λ n. front_of_one script r o p q log n (n == log) (nat_lt n log) refl refl up s.front;
      statuses = front.statuses ∙ up.statuses;
      alerts = front.alerts ∙ up.alerts;
      stays = Stays-then up.stays front.stays;
      store = λ is. rose_since o.failures p.failures q.failures up.stays.steady (s.store is);
      spent = λ is. (
        log,
        subst (λ (f : Option Files). stands_rotated (slice_get (log_plans script) log) r f ≡ None)
            same (s.nowhere is),
      );
    }
