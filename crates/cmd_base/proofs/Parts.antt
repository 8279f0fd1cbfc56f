-- A text that is written in parts.
use Rattle.std.proofs.Common.{◌≡◌, ℕ, List, [], ◌++◌, Option, Result, Ok, Err, subst, sym, append-nil}
use Rattle.std.specs.Prelude.{OnErr}
use Rattle.tai_status.specs.Counted.{AppendsFront}
use Rattle.tai_status.specs.Block.{Emits}
use Rattle.tai_status.proofs.Known.{Emits-then, Emits-front, AppendsFront-more}

pub on_err_any : {A E P : Type 0} (r : Result A E) → P → OnErr r P
on_err_any (Ok a) p = tt
on_err_any (Err e) p = p

pub on_err_map : {A E P Q : Type 0} (r : Result A E) → (P → Q) → OnErr r P → OnErr r Q
on_err_map (Ok a) f p = tt
on_err_map (Err e) f p = f p

pub first_failed : {known holds : Option (List ℕ)} {line : List ℕ} (first rest : List ℕ) → line ≡ []
    → AppendsFront known holds (line ++ first)
    → AppendsFront known holds (first ++ rest)
first_failed {known} {holds} first rest none front =
    AppendsFront-more rest (subst (λ (t : List ℕ). AppendsFront known holds (t ++ first)) none front)

pub rest_failed : {known middle holds : Option (List ℕ)} {line left : List ℕ} (first rest : List ℕ) → line ≡ []
    → Emits known middle line left first
    → AppendsFront middle holds (left ++ rest) → AppendsFront known holds (first ++ rest)
rest_failed {known} {middle} {holds} {left = left} first rest none put front =
    Emits-front rest (subst (λ (t : List ℕ). Emits known middle t left first) none put) front

pub flush_failed : {known middle wrote holds : Option (List ℕ)} {line left last : List ℕ} (first rest : List ℕ)
    → line ≡ [] → Emits known middle line left first
    → Emits middle wrote left last rest → AppendsFront wrote holds last → AppendsFront known holds (first ++ rest)
flush_failed {known} {middle} {wrote} {holds} {left = left} {last = last} first rest none put puts front =
    let whole = Emits-then (subst (λ (t : List ℕ). Emits known middle t left first) none put) puts in
    subst (λ (t : List ℕ). AppendsFront known holds t) (append-nil (first ++ rest))
    (Emits-front [] whole (subst (λ (t : List ℕ). AppendsFront wrote holds t) (sym (append-nil last)) front))
