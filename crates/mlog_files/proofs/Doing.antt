-- Steps after steps.
use Rattle.std.proofs.Common.{◌≡◌, ℕ, ◌+◌, ◌-◌, ◌<◌, ◌≤◌, List, [], ◌∷◌, ◌++◌, length, take, drop, Option, Some, None}
use Rattle.std.proofs.Common.{refl, sym, subst, ap, ◌∙◌, inl, inr, arith, append_assoc, append-nil}
use Rattle.std.proofs.Math.Seq.{take-add, take-append-add, take-append_seam}
use Rattle.std.proofs.lemmas.List.{map-append, take_rest, take-append-drop}
use Rattle.tai_status.specs.Counted.{Rose}
use Rattle.mlog_files.specs.Files.{Step, Append, Files, step_files, files_after, append_steps}
use Rattle.tai_status.specs.Label.{Tai64n}
use Rattle.mlog_files.specs.Steps.{Marks, label_given, finish_steps}
use Rattle.mlog_files.specs.Going.{finish_under, finish_at}
use Rattle.mlog_files.specs.Store.{StoreState, Stays, Reaches, Does, DoesFront, Fails, Goes, AppendsPart, FailsAt}

pub files_after-append : (a b : List Step) (files : Files) → files_after (a ++ b) files
    ≡ files_after b (files_after a files)
files_after-append [] b files = refl
files_after-append (step ∷ a) b files = files_after-append a b (step_files step files)

pub Reaches-then : (o p q : Option Files) (a b : List Step) → Reaches o p a → Reaches p q b → Reaches o q (a ++ b)
Reaches-then None None None a b k l = tt
Reaches-then None None (Some q) a b k l = absurd l
Reaches-then None (Some p) q a b k l = absurd k
Reaches-then (Some o) None None a b k l = tt
Reaches-then (Some o) None (Some q) a b k l = absurd l
Reaches-then (Some o) (Some p) None a b k l = tt
Reaches-then (Some o) (Some p) (Some q) a b k l = l ∙ ap (files_after b) k ∙ sym (files_after-append a b o)

pub rose_since : (a b c : ℕ) → a ≤ b → Rose b c → Rose a c
rose_since a b c low rose = elim rose [ inl more ↦ inl (omega (arith, low, more)) | inr full ↦ inr full ]

pub Stays-then : {o p q : StoreState} → Stays o p → Stays p q → Stays o q
Stays-then {o} {p} {q} a b = record {
  logs = b.logs ∙ a.logs;
  status_files = b.status_files ∙ a.status_files;
  asked = b.asked ∙ a.asked;
  steady = let x = a.steady in let y = b.steady in omega (arith, x, y);
}

pub Does-then : {o p q : StoreState} {log : ℕ} {a b : List Step} → Does o p log a → Does p q log b
    → Does o q log (a ++ b)
Does-then {o} {p} {q} {log} {a} {b} d e = record {
  here = Reaches-then (o.visible.files log) (p.visible.files log) (q.visible.files log) a b d.here e.here;
  others = λ other apart. e.others other apart ∙ d.others other apart;
  statuses = e.statuses ∙ d.statuses;
  alerts = e.alerts ∙ d.alerts;
  stays = Stays-then d.stays e.stays;
}

-- A prefix of steps that come after others.
pub Does-front : {o p q : StoreState} {log : ℕ} {a : List Step} (b : List Step) → Does o p log a → DoesFront p q log b
    → DoesFront o q log (a ++ b)
Does-front {o} {p} {q} {log} {a} b d e = record {
  count = length a + e.count;
  front = subst (λ (t : List Step). Does o q log t) (sym (take-append-add a b e.count)) (Does-then d e.front);
}

-- The store fails, after some steps.
pub Fails-then : {o p q : StoreState} {log : ℕ} {a : List Step} (b : List Step) → Does o p log a → Fails p q log b
    → Fails o q log (a ++ b)
Fails-then {o} {p} {q} {log} {a} b d e = record {
  front = Does-front b d e.front;
  rose = rose_since o.failures p.failures q.failures d.stays.steady e.rose;
}

pub Fails-none : {o p q : StoreState} {log : ℕ} {a : List Step} (b : List Step) → Does o p log a → FailsAt p q log
    → Fails o q log (a ++ b)
Fails-none {o} {p} {q} {log} {a} b d e =
    Fails-then b d (record { front = record { count = 0; front = e.nothing }; rose = e.rose })

pub front_stays : {X : Type 0} (a b : List X) (n : ℕ) → take n a ≡ take (length (take n a)) (a ++ b)
front_stays {X} a b n =
    sym (ap (take (length (take n a))) (ap (λ (t : List X). t ++ b) (sym (take-append-drop n a))
    ∙ append_assoc (take n a) (drop n a) b)
    ∙ take-append_seam (take n a) (drop n a ++ b))

-- A prefix of steps is a prefix of more steps.
pub DoesFront-more : {o q : StoreState} {log : ℕ} {a : List Step} (b : List Step) → DoesFront o q log a
    → DoesFront o q log (a ++ b)
DoesFront-more {o} {q} {log} {a} b e = record {
  count = length (take e.count a);
  front = subst (λ (t : List Step). Does o q log t) (front_stays a b e.count) e.front;
}

pub Fails-more : {o q : StoreState} {log : ℕ} {a : List Step} (b : List Step) → Fails o q log a → Fails o q log (a ++ b)
Fails-more {o} {q} {log} {a} b e = record { front = DoesFront-more b e.front; rose = e.rose }

pub appended_further : {o p q : StoreState} {log : ℕ} (xs : List ℕ) (at n : ℕ)
    → Does o p log (append_steps (take at xs))
    → Does p q log (append_steps (take n (take (length xs - at) (drop at xs))))
    → Does o q log (append_steps (take (at + n) xs))
appended_further {o} {p} {q} {log} xs at n d e =
    let put : ℕ → Step = λ (byte : ℕ). Append byte in
    let rest : append_steps (take n (take (length xs - at) (drop at xs))) ≡ append_steps (take n (drop at xs)) =
    ap (λ (t : List ℕ). append_steps (take n t)) (take_rest xs at) in
    let whole : append_steps (take (at + n) xs) ≡ append_steps (take at xs) ++ append_steps (take n (drop at xs)) =
    ap append_steps (take-add at n xs) ∙ map-append put (take at xs) (take n (drop at xs)) in
    subst (λ (t : List Step). Does o q log t) (sym whole)
    (Does-then d (subst (λ (t : List Step). Does p q log t) rest e))

pub appended_upto : {o p q : StoreState} {log : ℕ} (xs : List ℕ) (at : ℕ) → Does o p log (append_steps (take at xs))
    → FailsAt p q log
    → Fails o q log (append_steps xs)
appended_upto {o} {p} {q} {log} xs at d e =
    let put : ℕ → Step = λ (byte : ℕ). Append byte in
    let whole : append_steps (take at xs) ++ append_steps (drop at xs) ≡ append_steps xs =
    sym (map-append put (take at xs) (drop at xs)) ∙ ap append_steps (take-append-drop at xs) in
    subst (λ (t : List Step). Fails o q log t) whole (Fails-none (append_steps (drop at xs)) d e)

-- None of some bytes was appended.
pub none_appended : {p q : StoreState} {log : ℕ} (piece : List ℕ) (count : ℕ) → AppendsPart p q log piece count
    → count ≡ 0 → 0 < length piece → FailsAt p q log
none_appended {p} {q} {log} piece count d none some = record {
  nothing = subst (λ (n : ℕ). Does p q log (append_steps (take n piece))) none d.does;
  rose = d.none none some;
}

-- All of some steps are a prefix of more.
pub Does-more : {o q : StoreState} {log : ℕ} {a : List Step} (b : List Step) → Does o q log a
    → DoesFront o q log (a ++ b)
Does-more {o} {q} {log} {a} b d = record {
  count = length a;
  front = subst (λ (t : List Step). Does o q log t) (sym (take-append_seam a b)) d;
}

appended : (a b : List ℕ) → append_steps (a ++ b) ≡ append_steps a ++ append_steps b
appended a b = map-append (λ (byte : ℕ). Append byte) a b

-- Nothing waits any more.
pub Goes-through : {o q : StoreState} {log : ℕ} (waited now : List ℕ) (steps : List Step) → now ≡ []
    → Does o q log (append_steps waited ++ steps)
    → Goes o q log waited now steps
Goes-through waited now steps e d = record {
  done = append_steps waited ++ steps;
  does = d;
  whole = ap (λ (t : List ℕ). (append_steps waited ++ steps) ++ append_steps t) e
      ∙ append-nil (append_steps waited ++ steps);
}

pub Goes-then : {o p q : StoreState} {log : ℕ} {a b c : List ℕ} {xs ys : List Step} → Goes o p log a b xs
    → Goes p q log b c ys → Goes o q log a c (xs ++ ys)
Goes-then {o} {p} {q} {log} {a} {b} {c} {xs} {ys} g h = record {
  done = g.done ++ h.done;
  does = Does-then g.does h.does;
  whole = append_assoc g.done h.done (append_steps c) ∙ ap (λ (t : List Step). g.done ++ t) h.whole
      ∙ sym (append_assoc g.done (append_steps b) ys) ∙ ap (λ (t : List Step). t ++ ys) g.whole
      ∙ append_assoc (append_steps a) xs ys;
}

joined : {log : ℕ} {o p : StoreState} {a b : List ℕ} {xs : List Step} (ys : List Step) (g : Goes o p log a b xs)
    → g.done ++ (append_steps b ++ ys) ≡ append_steps a ++ (xs ++ ys)
joined {log} {o} {p} {a} {b} {xs} ys g =
    sym (append_assoc g.done (append_steps b) ys) ∙ ap (λ (t : List Step). t ++ ys) g.whole
    ∙ append_assoc (append_steps a) xs ys

pub Goes-front : {o p q : StoreState} {log : ℕ} {a b : List ℕ} {xs : List Step} (ys : List Step) → Goes o p log a b xs
    → DoesFront p q log (append_steps b ++ ys)
    → DoesFront o q log (append_steps a ++ (xs ++ ys))
Goes-front {o} {p} {q} {log} {a} {b} {xs} ys g h =
    subst (λ (t : List Step). DoesFront o q log t) (joined ys g) (Does-front (append_steps b ++ ys) g.does h)

pub Goes-does : {o p q : StoreState} {log : ℕ} {a b : List ℕ} {xs : List Step} (ys : List Step) → Goes o p log a b xs
    → Does p q log (append_steps b ++ ys)
    → Does o q log (append_steps a ++ (xs ++ ys))
Goes-does {o} {p} {q} {log} {a} {b} {xs} ys g h =
    subst (λ (t : List Step). Does o q log t) (joined ys g) (Does-then g.does h)

-- A file is finished under the label from the reading, after the bytes that waited.
pub finish_done : {o p q : StoreState} {log : ℕ} (keep : ℕ) (marks : Marks) (reading label : Tai64n) (waited : List ℕ)
    → label_given marks.last reading ≡ Some label → Does o p log (append_steps waited)
    → Does p q log (finish_steps keep marks label)
    → Does o q log (append_steps waited ++ finish_at keep marks reading)
finish_done {o} {p} {q} {log} keep marks reading label waited given d e =
    subst (λ (label : Option Tai64n). Does o q log (append_steps waited ++ finish_under keep marks label)) (sym given)
    (Does-then d e)

pub finish_failed : {o p q : StoreState} {log : ℕ} (keep : ℕ) (marks : Marks) (reading label : Tai64n) (waited : List ℕ)
    → label_given marks.last reading ≡ Some label → Does o p log (append_steps waited)
    → Fails p q log (finish_steps keep marks label)
    → Fails o q log (append_steps waited ++ finish_at keep marks reading)
finish_failed {o} {p} {q} {log} keep marks reading label waited given d e =
    subst (λ (label : Option Tai64n). Fails o q log (append_steps waited ++ finish_under keep marks label)) (sym given)
    (Fails-then (finish_steps keep marks label) d e)
