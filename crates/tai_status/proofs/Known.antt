-- What is known of a device's bytes over several calls.
use Rattle.std.proofs.Common.{◌≡◌, ℕ, ◌+◌, ◌-◌, min, List, [], ◌++◌, length, take, drop, Option, Some, None, refl, sym}
use Rattle.std.proofs.Common.{subst, ap, ◌∙◌, rules, arith, append_assoc, append-nil}
use Rattle.std.proofs.Math.Seq.{take-add, take-append-add, take-length}
use Rattle.std.proofs.lemmas.List.{take_rest, take_min, take-append-le, take-append-drop}
use Rattle.std.specs.Io.KnownBytes.{Keeps, Appends, Consumes}
use Rattle.std.specs.Prelude.{◌^◌}
use Rattle.tai_status.specs.Counted.{AppendsFront, Rose}
use Rattle.tai_status.specs.Block.{Emits}

-- a count that goes up by one, and stops at its maximum
pub count_rises : (old new : ℕ) → new ≡ min (old + 1) (2 ^ 64 - 1) → Rose old new
count_rises old new is = search (rules, arith)

pub Keeps-same : (a : Option (List ℕ)) → Keeps a a
Keeps-same None = tt
Keeps-same (Some xs) = refl

pub Keeps-then : (a b c : Option (List ℕ)) → Keeps a b → Keeps b c → Keeps a c
Keeps-then None b c k l = tt
Keeps-then (Some xs) None c k l = absurd k
Keeps-then (Some xs) (Some ys) None k l = absurd l
Keeps-then (Some xs) (Some ys) (Some zs) k l = l ∙ k

pub Keeps-Consumes : (a b c : Option (List ℕ)) (bs : List ℕ) → Keeps a b → Consumes b c bs → Consumes a c bs
Keeps-Consumes None b c bs k l = tt
Keeps-Consumes (Some xs) None c bs k l = absurd k
Keeps-Consumes (Some xs) (Some ys) None bs k l = absurd l
Keeps-Consumes (Some xs) (Some ys) (Some zs) bs k l = sym k ∙ l

pub Appends-nothing : (a b : Option (List ℕ)) → Keeps a b → Appends a b []
Appends-nothing None b k = tt
Appends-nothing (Some xs) None k = absurd k
Appends-nothing (Some xs) (Some ys) k = k ∙ sym (append-nil xs)

pub Appends-then : (a b c : Option (List ℕ)) (bs cs : List ℕ) → Appends a b bs → Appends b c cs → Appends a c (bs ++ cs)
Appends-then None b c bs cs k l = tt
Appends-then (Some xs) None c bs cs k l = absurd k
Appends-then (Some xs) (Some ys) None bs cs k l = absurd l
Appends-then (Some xs) (Some ys) (Some zs) bs cs k l = l ∙ ap (λ (t : List ℕ). t ++ cs) k ∙ append_assoc xs bs cs

pub Appends-further : (a b c : Option (List ℕ)) (xs : List ℕ) (at n : ℕ) → Appends a b (take at xs)
    → Appends b c (take n (take (length xs - at) (drop at xs))) → Appends a c (take (at + n) xs)
Appends-further a b c xs at n k l =
    let rest : take n (take (length xs - at) (drop at xs)) ≡ take n (drop at xs) = ap (take n) (take_rest xs at) in
    let both = Appends-then a b c _ _ k (subst (λ (t : List ℕ). Appends b c t) rest l) in
    subst (λ (t : List ℕ). Appends a c t) (sym (take-add at n xs)) both

pub AppendsFront-more : {a b : Option (List ℕ)} {xs : List ℕ} (ys : List ℕ) → AppendsFront a b xs
    → AppendsFront a b (xs ++ ys)
AppendsFront-more {a} {b} {xs} ys f = record {
  count = min f.count (length xs);
  front = subst (λ (t : List ℕ). Appends a b t) (sym (take_min f.count xs)
      ∙ sym (take-append-le (min f.count (length xs)) xs ys (omega arith))) f.front;
}

pub Emits-none : (a b : Option (List ℕ)) (pending : List ℕ) → Keeps a b → Emits a b pending pending []
Emits-none a b pending kept =
    record { written = []; wrote = Appends-nothing a b kept; whole = sym (append-nil pending) }

pub Emits-then : {a b c : Option (List ℕ)} {p q r xs ys : List ℕ} → Emits a b p q xs → Emits b c q r ys
    → Emits a c p r (xs ++ ys)
Emits-then {a} {b} {c} {p} {q} {r} {xs} {ys} e f = record {
  written = e.written ++ f.written;
  wrote = Appends-then a b c e.written f.written e.wrote f.wrote;
  whole = append_assoc e.written f.written r ∙ ap (λ (t : List ℕ). e.written ++ t) f.whole
      ∙ sym (append_assoc e.written q ys) ∙ ap (λ (t : List ℕ). t ++ ys) e.whole ∙ append_assoc p xs ys;
}

pub Emits-front : {a b c : Option (List ℕ)} {p q xs : List ℕ} (zs : List ℕ) → Emits a b p q xs
    → AppendsFront b c (q ++ zs) → AppendsFront a c (p ++ (xs ++ zs))
Emits-front {a} {b} {c} {p} {q} {xs} zs e f =
    let whole : e.written ++ (q ++ zs) ≡ p ++ (xs ++ zs) =
    sym (append_assoc e.written q zs) ∙ ap (λ (t : List ℕ). t ++ zs) e.whole ∙ append_assoc p xs zs in
    let front : take (length e.written + f.count) (p ++ (xs ++ zs)) ≡ e.written ++ take f.count (q ++ zs) =
    ap (take (length e.written + f.count)) (sym whole) ∙ take-append-add e.written (q ++ zs) f.count in
    record {
      count = length e.written + f.count;
      front = subst (λ (t : List ℕ). Appends a c t) (sym front) (Appends-then a b c _ _ e.wrote f.front);
    }

pub Emits-further : {a b c : Option (List ℕ)} {p q r : List ℕ} (xs : List ℕ) (at n : ℕ) → Emits a b p q (take at xs)
    → Emits b c q r (take n (take (length xs - at) (drop at xs))) → Emits a c p r (take (at + n) xs)
Emits-further {a} {b} {c} {p} {q} {r} xs at n e f =
    let rest : take n (take (length xs - at) (drop at xs)) ≡ take n (drop at xs) = ap (take n) (take_rest xs at) in
    subst (λ (t : List ℕ). Emits a c p r t) (sym (take-add at n xs))
    (Emits-then e (subst (λ (t : List ℕ). Emits b c q r t) rest f))

pub Emits-failed : {a b c : Option (List ℕ)} {p q : List ℕ} (xs : List ℕ) (at : ℕ) → Emits a b p q (take at xs)
    → AppendsFront b c q → AppendsFront a c (p ++ xs)
Emits-failed {a} {b} {c} {p} {q} xs at e f =
    subst (λ (t : List ℕ). AppendsFront a c (p ++ t)) (take-append-drop at xs)
    (Emits-front (drop at xs) e (AppendsFront-more (drop at xs) f))

pub AppendsFront-first : {a b : Option (List ℕ)} (p xs ys : List ℕ) → AppendsFront a b (p ++ xs)
    → AppendsFront a b (p ++ (xs ++ ys))
AppendsFront-first {a} {b} p xs ys f =
    subst (λ (t : List ℕ). AppendsFront a b t) (append_assoc p xs ys) (AppendsFront-more ys f)

-- A piece is a prefix of itself.
pub AppendsFront-whole : (a b : Option (List ℕ)) (xs : List ℕ) → Appends a b xs → AppendsFront a b xs
AppendsFront-whole a b xs k =
    record { count = length xs; front = subst (λ (t : List ℕ). Appends a b t) (sym (take-length xs)) k }
