-- Outputs that are given one thing after another.
use Rattle.std.proofs.Common.{◌≡◌, ℕ, ◌+◌, List, [], ◌++◌, length, take, Option, Some, None, refl, sym, subst, ap, ◌∙◌}
use Rattle.std.proofs.Common.{arith, append_assoc, append-nil}
use Rattle.std.proofs.Math.Seq.{take-append-add, take-append_seam}
use Rattle.std.specs.Prelude.{slice_get, Result, Ok, Err, OnOk, OnErr, IfErr}
use Rattle.std.specs.Io.KnownBytes.{Appends}
use Rattle.tai_status.specs.Counted.{AppendsFront}
use Rattle.tai_status.specs.Lines.{Sent}
use Rattle.tai_status.proofs.Known.{Appends-then, AppendsFront-more}
use Rattle.mlog_files.specs.Files.{Files, Step, append_steps}
use Rattle.mlog_files.specs.Going.{Standing, steps_on, standing_on}
use Rattle.mlog_files.specs.Store.{StoreState, Stays, Reaches, WasGiven}
use Rattle.mlog_files.specs.Tails.{size_of, keep_of, waiting_in, standing}
use Rattle.mlog_files.specs.declared.tail.Tail.{Tail}
use Rattle.mlog_files.specs.declared.tail.LogFault.{LogFault}
use Rattle.mlog_files.proofs.Doing.{Reaches-then, front_stays, rose_since}
use Rattle.mlog_files.proofs.Goings.{steps_on-none, standing_on-none}
use Rattle.mlog_files.proofs.Putting.{steps_parted, stands_parted, same_files}
use Rattle.mlog_line.specs.Given.{Given, nothing, joined}
use Rattle.mlog_line.specs.Outputs.{Outputs, steps_for, after, TakesIn, TakesFront, TakesInAt, TakesFrontAt, GivenFront}
use Rattle.mlog_line.specs.Outputs.{Takes, IsSpent, Stops, SameGiven}

-- One log

steps_then : (t u : Tail) (xs ys : List Sent) → after t xs ≡ Some (standing u) → size_of u ≡ size_of t
    → keep_of u ≡ keep_of t
    → steps_for t (xs ++ ys) ≡ steps_for t xs ++ steps_for u ys
steps_then t u xs ys is size keep =
    steps_parted (size_of t) (keep_of t) (size_of u) (keep_of u) (standing t) (Some (standing u)) (xs ++ ys) xs ys size
    keep refl is

after_then : (t u : Tail) (xs ys : List Sent) → after t xs ≡ Some (standing u) → size_of u ≡ size_of t
    → keep_of u ≡ keep_of t
    → after t (xs ++ ys) ≡ after u ys
after_then t u xs ys is size keep =
    stands_parted (size_of t) (keep_of t) (size_of u) (keep_of u) (standing t) (Some (standing u)) (xs ++ ys) xs ys size
    keep refl is

joined_steps : (t u : Tail) (a b : Option Files) (xs ys : List Sent) (k : TakesIn t u a b xs)
    → k.done ++ (append_steps (waiting_in u) ++ steps_for u ys) ≡ append_steps (waiting_in t) ++ steps_for t (xs ++ ys)
joined_steps t u a b xs ys k =
    sym (append_assoc k.done (append_steps (waiting_in u)) (steps_for u ys))
    ∙ ap (λ (s : List Step). s ++ steps_for u ys) k.whole
    ∙ append_assoc (append_steps (waiting_in t)) (steps_for t xs) (steps_for u ys)
    ∙ ap (λ (s : List Step). append_steps (waiting_in t) ++ s) (sym (steps_then t u xs ys k.stands k.size k.keep))

pub TakesIn-then : (t u v : Tail) (a b c : Option Files) (xs ys : List Sent) → TakesIn t u a b xs → TakesIn u v b c ys
    → TakesIn t v a c (xs ++ ys)
TakesIn-then t u v a b c xs ys k l = record {
  done = k.done ++ l.done;
  reaches = Reaches-then a b c k.done l.done k.reaches l.reaches;
  whole = append_assoc k.done l.done (append_steps (waiting_in v)) ∙ ap (λ (s : List Step). k.done ++ s) l.whole
      ∙ joined_steps t u a b xs ys k;
  stands = after_then t u xs ys k.stands k.size k.keep ∙ l.stands;
  size = l.size ∙ k.size;
  keep = l.keep ∙ k.keep;
}

TakesIn-front : (t u : Tail) (a b c : Option Files) (xs ys : List Sent) → TakesIn t u a b xs → TakesFront u b c ys
    → TakesFront t a c (xs ++ ys)
TakesIn-front t u a b c xs ys k f =
    let waits : List Step = append_steps (waiting_in u) ++ steps_for u ys in
    let front : take (length k.done + f.count) (append_steps (waiting_in t) ++ steps_for t (xs ++ ys))
    ≡ k.done ++ take f.count waits =
    ap (take (length k.done + f.count)) (sym (joined_steps t u a b xs ys k)) ∙ take-append-add k.done waits f.count in
    record {
      count = length k.done + f.count;
      reaches = subst (λ (s : List Step). Reaches a c s) (sym front)
          (Reaches-then a b c k.done (take f.count waits) k.reaches f.reaches);
    }

TakesFront-more : (t : Tail) (a b : Option Files) (xs ys : List Sent) → TakesFront t a b xs
    → TakesFront t a b (xs ++ ys)
TakesFront-more t a b xs ys f =
    let first : List Step = append_steps (waiting_in t) ++ steps_for t xs in
    let later : List Step = steps_on (size_of t) (keep_of t) (after t xs) ys in
    let whole : first ++ later ≡ append_steps (waiting_in t) ++ steps_for t (xs ++ ys) =
    append_assoc (append_steps (waiting_in t)) (steps_for t xs) later
    ∙ ap (λ (s : List Step). append_steps (waiting_in t) ++ s)
    (sym (steps_parted (size_of t) (keep_of t) (size_of t) (keep_of t) (standing t) (after t xs) (xs ++ ys) xs ys refl
    refl refl refl)) in
    record {
      count = length (take f.count first);
      reaches = subst (λ (s : List Step). Reaches a b s) (front_stays first later f.count
          ∙ ap (take (length (take f.count first))) whole) f.reaches;
    }

-- Logs by number

pub TakesInAt-then : (t u v : Option Tail) (a b c : Option Files) (xs ys : List Sent)
    → TakesInAt t u a b xs → TakesInAt u v b c ys → TakesInAt t v a c (xs ++ ys)
TakesInAt-then None None None a b c xs ys k l = Reaches-then a b c [] [] k l
TakesInAt-then None None (Some v) a b c xs ys k l = absurd l
TakesInAt-then None (Some u) v a b c xs ys k l = absurd k
TakesInAt-then (Some t) None v a b c xs ys k l = absurd k
TakesInAt-then (Some t) (Some u) None a b c xs ys k l = absurd l
TakesInAt-then (Some t) (Some u) (Some v) a b c xs ys k l = TakesIn-then t u v a b c xs ys k l

TakesInAt-front : (t u : Option Tail) (a b c : Option Files) (xs ys : List Sent)
    → TakesInAt t u a b xs → TakesFrontAt u b c ys → TakesFrontAt t a c (xs ++ ys)
TakesInAt-front None None a b c xs ys k l = Reaches-then a b c [] [] k l
TakesInAt-front None (Some u) a b c xs ys k l = absurd k
TakesInAt-front (Some t) None a b c xs ys k l = absurd k
TakesInAt-front (Some t) (Some u) a b c xs ys k l = TakesIn-front t u a b c xs ys k l

TakesFrontAt-more : (t : Option Tail) (a b : Option Files) (xs ys : List Sent) → TakesFrontAt t a b xs
    → TakesFrontAt t a b (xs ++ ys)
TakesFrontAt-more None a b xs ys f = f
TakesFrontAt-more (Some t) a b xs ys f = TakesFront-more t a b xs ys f

IsSpent-then : (t u : Option Tail) (a b : Option Files) (xs ys : List Sent) → TakesInAt t u a b xs → IsSpent u ys
    → IsSpent t (xs ++ ys)
IsSpent-then None None a b xs ys k s = absurd s
IsSpent-then None (Some u) a b xs ys k s = absurd k
IsSpent-then (Some t) None a b xs ys k s = absurd k
IsSpent-then (Some t) (Some u) a b xs ys k s = after_then t u xs ys k.stands k.size k.keep ∙ s

IsSpent-more : (t : Option Tail) (xs ys : List Sent) → IsSpent t xs → IsSpent t (xs ++ ys)
IsSpent-more None xs ys s = absurd s
IsSpent-more (Some t) xs ys s =
    stands_parted (size_of t) (keep_of t) (size_of t) (keep_of t) (standing t) (after t xs) (xs ++ ys) xs ys refl refl
    refl refl
    ∙ ap (λ (r : Option Standing). standing_on (size_of t) (keep_of t) r ys) s

-- Nothing is given to a log.
pub TakesInAt-none : (t : Option Tail) (a : Option Files) → TakesInAt t t a a []
TakesInAt-none None a = same_files a
TakesInAt-none (Some t) a = record {
  done = [];
  reaches = same_files a;
  whole = sym (append-nil (append_steps (waiting_in t)))
      ∙ ap (λ (s : List Step). append_steps (waiting_in t) ++ s)
      (sym (steps_on-none (size_of t) (keep_of t) (Some (standing t))));
  stands = standing_on-none (size_of t) (keep_of t) (Some (standing t));
  size = refl;
  keep = refl;
}

-- A prefix may be empty.
pub TakesFrontAt-none : (t : Option Tail) (a : Option Files) (xs : List Sent) → TakesFrontAt t a a xs
TakesFrontAt-none None a xs = same_files a
TakesFrontAt-none (Some t) a xs = record { count = 0; reaches = same_files a }

-- Status files

pub WasGiven-then : (a b c : Option (List (List ℕ))) (xs ys : List (List ℕ)) → WasGiven a b xs → WasGiven b c ys
    → WasGiven a c (xs ++ ys)
WasGiven-then None None None xs ys k l = tt
WasGiven-then None None (Some c) xs ys k l = absurd l
WasGiven-then None (Some b) c xs ys k l = absurd k
WasGiven-then (Some a) None c xs ys k l = absurd k
WasGiven-then (Some a) (Some b) None xs ys k l = absurd l
WasGiven-then (Some a) (Some b) (Some c) xs ys k l =
    l ∙ ap (λ (t : List (List ℕ)). t ++ ys) k ∙ append_assoc a xs ys

pub WasGiven-none : (a : Option (List (List ℕ))) → WasGiven a a []
WasGiven-none None = tt
WasGiven-none (Some a) = sym (append-nil a)

pub WasGiven-front : (a b c : Option (List (List ℕ))) (xs ys : List (List ℕ)) → WasGiven a b xs → GivenFront b c ys
    → GivenFront a c (xs ++ ys)
WasGiven-front a b c xs ys k f = record {
  count = length xs + f.count;
  front = subst (λ (t : List (List ℕ)). WasGiven a c t) (sym (take-append-add xs ys f.count))
      (WasGiven-then a b c xs (take f.count ys) k f.front);
}

pub GivenFront-none : (a : Option (List (List ℕ))) (xs : List (List ℕ)) → GivenFront a a xs
GivenFront-none a xs = record { count = 0; front = WasGiven-none a }

GivenFront-more : (a b : Option (List (List ℕ))) (xs ys : List (List ℕ)) → GivenFront a b xs → GivenFront a b (xs ++ ys)
GivenFront-more a b xs ys f = record {
  count = length (take f.count xs);
  front = subst (λ (t : List (List ℕ)). WasGiven a b t) (front_stays xs ys f.count) f.front;
}

-- The first of some contents are a prefix of them.
pub GivenFront-of : (a b : Option (List (List ℕ))) (xs rest all : List (List ℕ)) → WasGiven a b xs → xs ++ rest ≡ all
    → GivenFront a b all
GivenFront-of a b xs rest all k is = record {
  count = length xs;
  front = subst (λ (t : List (List ℕ)). WasGiven a b t)
      (sym (ap (take (length xs)) (sym is) ∙ take-append_seam xs rest)) k;
}

-- Alerts

pub Appends-front : (a b c : Option (List ℕ)) (xs ys : List ℕ) → Appends a b xs → AppendsFront b c ys
    → AppendsFront a c (xs ++ ys)
Appends-front a b c xs ys k f = record {
  count = length xs + f.count;
  front = subst (λ (t : List ℕ). Appends a c t) (sym (take-append-add xs ys f.count))
      (Appends-then a b c xs (take f.count ys) k f.front);
}

pub Appends-none : (a : Option (List ℕ)) → Appends a a []
Appends-none None = tt
Appends-none (Some xs) = sym (append-nil xs)

pub AppendsFront-none : (a : Option (List ℕ)) (xs : List ℕ) → AppendsFront a a xs
AppendsFront-none a xs = record { count = 0; front = Appends-none a }

-- All of them

pub Takes-then : (a b c : Outputs) (x y : Given) → Takes a b x → Takes b c y → Takes a c (joined x y)
Takes-then a b c x y k l = record {
  logs = λ log. TakesInAt-then (slice_get a.tails log) (slice_get b.tails log) (slice_get c.tails log)
      (a.store.visible.files log) (b.store.visible.files log) (c.store.visible.files log)
      (x.logs log) (y.logs log) (k.logs log) (l.logs log);
  alerts = Appends-then a.store.visible.alerts b.store.visible.alerts c.store.visible.alerts x.alerts y.alerts k.alerts
      l.alerts;
  files = λ file. WasGiven-then (a.store.visible.statuses file) (b.store.visible.statuses file)
      (c.store.visible.statuses file)
      (x.files file) (y.files file) (k.files file) (l.files file);
  steady = let s = k.steady in let t = l.steady in omega (arith, s, t);
}

pub Takes-none : (a : Outputs) → Takes a a nothing
Takes-none a = record {
  logs = λ log. TakesInAt-none (slice_get a.tails log) (a.store.visible.files log);
  alerts = Appends-none a.store.visible.alerts;
  files = λ file. WasGiven-none (a.store.visible.statuses file);
  steady = omega arith;
}

pub Takes-same : (a b : Outputs) (x y : Given) → Takes a b x → SameGiven x y → Takes a b y
Takes-same a b x y k s = record {
  logs = λ log. subst (λ (text : List Sent). TakesInAt (slice_get a.tails log) (slice_get b.tails log)
      (a.store.visible.files log) (b.store.visible.files log) text) (s.logs log) (k.logs log);
  alerts = subst (λ (text : List ℕ). Appends a.store.visible.alerts b.store.visible.alerts text) s.alerts k.alerts;
  files = λ file. subst (λ (contents : List (List ℕ)). WasGiven (a.store.visible.statuses file)
      (b.store.visible.statuses file)
      contents) (s.files file) (k.files file);
  steady = k.steady;
}

pub Stops-then : (a b c : Outputs) (x y : Given) (why : LogFault) → Takes a b x → Stops b c y why
    → Stops a c (joined x y) why
Stops-then a b c x y why k f = record {
  logs = λ log. TakesInAt-front (slice_get a.tails log) (slice_get b.tails log) (a.store.visible.files log)
      (b.store.visible.files log) (c.store.visible.files log)
      (x.logs log) (y.logs log) (k.logs log) (f.logs log);
  alerts = Appends-front a.store.visible.alerts b.store.visible.alerts c.store.visible.alerts x.alerts y.alerts k.alerts
      f.alerts;
  files = λ file. WasGiven-front (a.store.visible.statuses file) (b.store.visible.statuses file)
      (c.store.visible.statuses file)
      (x.files file) (y.files file) (k.files file) (f.files file);
  store = λ is. rose_since a.store.failures b.store.failures c.store.failures k.steady (f.store is);
  spent = λ is. let s = f.spent is in record {
    log = s.log;
    spent = IsSpent-then (slice_get a.tails s.log) (slice_get b.tails s.log) (a.store.visible.files s.log)
        (b.store.visible.files s.log) (x.logs s.log) (y.logs s.log)
        (k.logs s.log) s.spent;
  };
}

pub Stops-more : (a b : Outputs) (x y : Given) (why : LogFault) → Stops a b x why → Stops a b (joined x y) why
Stops-more a b x y why f = record {
  logs = λ log. TakesFrontAt-more (slice_get a.tails log) (a.store.visible.files log) (b.store.visible.files log)
      (x.logs log)
      (y.logs log) (f.logs log);
  alerts = AppendsFront-more y.alerts f.alerts;
  files = λ file. GivenFront-more (a.store.visible.statuses file) (b.store.visible.statuses file) (x.files file)
      (y.files file) (f.files file);
  store = f.store;
  spent = λ is. let s = f.spent is in record {
    log = s.log;
    spent = IsSpent-more (slice_get a.tails s.log) (x.logs s.log) (y.logs s.log) s.spent;
  };
}

pub Stops-same : (a b : Outputs) (x y : Given) (why : LogFault) → Stops a b x why → SameGiven x y → Stops a b y why
Stops-same a b x y why f s = record {
  logs = λ log. subst (λ (text : List Sent). TakesFrontAt (slice_get a.tails log) (a.store.visible.files log)
      (b.store.visible.files log) text) (s.logs log) (f.logs log);
  alerts = subst (λ (text : List ℕ). AppendsFront a.store.visible.alerts b.store.visible.alerts text) s.alerts f.alerts;
  files = λ file. subst (λ (contents : List (List ℕ)). GivenFront (a.store.visible.statuses file)
      (b.store.visible.statuses file) contents) (s.files file) (f.files file);
  store = f.store;
  spent = λ is. let p = f.spent is in record {
    log = p.log;
    spent = subst (λ (text : List Sent). IsSpent (slice_get a.tails p.log) text) (s.logs p.log) p.spent;
  };
}

-- Results

pub on_ok_two : {T E P Q R : Type 0} (r : Result T E) → (P → Q → R) → OnOk r P → OnOk r Q → OnOk r R
on_ok_two (Ok x) f p q = f p q
on_ok_two (Err e) f p q = tt

pub if_err_with : {T E D : Type 0} (r : Result T E) (P R : E → Type 0) → ((e : E) → D → P e → R e) → OnErr r D
    → IfErr r P → IfErr r R
if_err_with (Ok x) P R f d p = tt
if_err_with (Err e) P R f d p = f e d p

pub if_err_weaker : {T E : Type 0} (r : Result T E) (P R : E → Type 0) → ((e : E) → P e → R e) → IfErr r P → IfErr r R
if_err_weaker (Ok x) P R f p = tt
if_err_weaker (Err e) P R f p = f e p

-- A call fails or not.
pub either_way : {T E P R : Type 0} (r : Result T E) (Q : E → Type 0) → (P → R) → ((e : E) → Q e → R) → OnOk r P
    → IfErr r Q → R
either_way (Ok x) Q f h p q = f p
either_way (Err e) Q f h p q = h e q

pub either_so : {T E P Q R : Type 0} (r : Result T E) → (P → R) → (Q → R) → OnOk r P → OnErr r Q → R
either_so (Ok x) f h p q = f p
either_so (Err e) f h p q = h q

-- A store that does not change.

pub Stays-same : (s : StoreState) → Stays s s
Stays-same s = record { logs = refl; status_files = refl; asked = refl; steady = omega arith }
