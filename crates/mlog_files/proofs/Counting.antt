-- The counts of the finished and the removed files of a log.
use Rattle.std.proofs.Common.{◌≡◌, ℕ, ◌+◌, ◌^◌, ◌<◌, ◌==◌, nat_le, if◌then◌else◌, cond, count_by, Bool, true, false}
use Rattle.std.proofs.Common.{List, [], ◌∷◌, ◌++◌, Option, Some, None, refl, sym, subst, ap, ◌∙◌, arith, append_assoc}
use Rattle.std.proofs.lemmas.List.Sums.{sum_by-append}
use Rattle.tai_status.specs.Label.{Tai64n}
use Rattle.tai_status.specs.Lines.{Sent}
use Rattle.mlog_files.specs.Cut.{fills}
use Rattle.mlog_files.specs.Files.{Step, Append, is_finish, is_remove}
use Rattle.mlog_files.specs.Steps.{Marks, label_given, finish_steps, marks_after}
use Rattle.mlog_files.specs.Going.{Standing, begun, finish_under, stands_under, finish_at, finished_at, byte_steps}
use Rattle.mlog_files.specs.Going.{after_byte, first_steps, ready, steps_on, standing_on}
use Rattle.mlog_files.specs.Laws.{CountsSteps}

some_same : {X : Type 0} (x y : X) → ◌≡◌ {A = Option X} (Some x) (Some y) → x ≡ y
some_same x y e = cc

count_both : (p : Step → Bool) (xs ys : List Step) → count_by p (xs ++ ys) ≡ count_by p xs + count_by p ys
count_both p xs ys = sum_by-append (λ (y : Step). cond (p y) 1 0) xs ys

counts_none : (a b : Marks) (steps : List Step) → a ≡ b → a.finished < 2 ^ 64 → a.removed < 2 ^ 64
    → count_by is_finish steps ≡ 0 → count_by is_remove steps ≡ 0
    → CountsSteps a b steps
counts_none a b steps same f r no_finish no_remove = record {
  finished = sym (ap (λ (m : Marks). m.finished) same) ∙ (omega (arith, f, no_finish));
  removed = sym (ap (λ (m : Marks). m.removed) same) ∙ (omega (arith, r, no_remove));
}

counts_then : (a b c : Marks) (xs ys : List Step) → CountsSteps a b xs → CountsSteps b c ys → CountsSteps a c (xs ++ ys)
counts_then a b c xs ys k l = record {
  finished = let p = k.finished in let q = l.finished in let s = count_both is_finish xs ys in omega (arith, p, q, s);
  removed = let p = k.removed in let q = l.removed in let s = count_both is_remove xs ys in omega (arith, p, q, s);
}

below : (a b : Marks) (steps : List Step) → CountsSteps a b steps → (b.finished < 2 ^ 64) × (b.removed < 2 ^ 64)
below a b steps k = (let p = k.finished in omega (arith, p), let p = k.removed in omega (arith, p))

finish_by : (keep : ℕ) (a : Marks) (label : Tai64n) (b : Bool) → a.finished < 2 ^ 64 → a.removed < 2 ^ 64
    → nat_le keep (a.kept + 1) ≡ b
    → CountsSteps a (marks_after keep a label) (finish_steps keep a label)
finish_by keep a label true f r e = rw e (record { finished = refl; removed = refl })
finish_by keep a label false f r e = rw e (record { finished = refl; removed = omega (arith, r) })

-- A file is finished under a label, if there is one.
given_counts : (keep : ℕ) (a : Marks) (label : Option Tai64n) (now : Standing) → a.finished < 2 ^ 64
    → a.removed < 2 ^ 64 → stands_under keep a label ≡ Some now
    → CountsSteps a now.marks (finish_under keep a label)
given_counts keep a None now f r e = absurd cc
given_counts keep a (Some label) now f r e =
    subst (λ (s : Standing). CountsSteps a s.marks (finish_steps keep a label)) (some_same (begun keep a label) now e)
    (finish_by keep a label (nat_le keep (a.kept + 1)) f r refl)

ready_by : (size keep : ℕ) (log now : Standing) (reading : Tai64n) (b : Bool) → log.marks.finished < 2 ^ 64
    → log.marks.removed < 2 ^ 64 → nat_le size log.count ≡ b
    → (if b then finished_at keep log.marks reading else Some log) ≡ Some now
    → CountsSteps log.marks now.marks (if b then finish_at keep log.marks reading else [])
ready_by size keep log now reading true f r e is =
    given_counts keep log.marks (label_given log.marks.last reading) now f r is
ready_by size keep log now reading false f r e is =
    counts_none log.marks now.marks [] (ap (λ (s : Standing). s.marks) (some_same log now is)) f r refl refl

byte_by : (keep : ℕ) (log now : Standing) (s : Sent) (b : Bool) → log.marks.finished < 2 ^ 64
    → log.marks.removed < 2 ^ 64
    → (if b then finished_at keep log.marks s.reading else Some (record { count = log.count + 1; marks = log.marks }))
    ≡ Some now
    → CountsSteps log.marks now.marks (if b then Append s.byte ∷ finish_at keep log.marks s.reading else Append s.byte
    ∷ [])
byte_by keep log now s true f r is =
    counts_then log.marks log.marks now.marks (Append s.byte ∷ []) (finish_at keep log.marks s.reading)
    (counts_none log.marks log.marks (Append s.byte ∷ []) refl f r refl refl)
    (given_counts keep log.marks (label_given log.marks.last s.reading) now f r is)
byte_by keep log now s false f r is =
    counts_none log.marks now.marks (Append s.byte ∷ [])
    (ap (λ (s : Standing). s.marks) (some_same (record { count = log.count + 1; marks = log.marks }) now is)) f r
    refl refl

-- A text with right counts for any state of the log before it.
abbrev RightFor : ℕ → ℕ → List Sent → Type 0
RightFor size keep text = (log end : Standing) → log.marks.finished < 2 ^ 64 → log.marks.removed < 2 ^ 64
    → standing_on size keep (Some log) text ≡ Some end
    → CountsSteps log.marks end.marks (steps_on size keep (Some log) text)

-- The same text with one byte before it.
from_byte : (size keep : ℕ) (log end : Standing) (s : Sent) (text : List Sent) (now : Option Standing)
    → RightFor size keep text → after_byte size keep (Some log) s ≡ now
    → log.marks.finished < 2 ^ 64 → log.marks.removed < 2 ^ 64 → standing_on size keep now text ≡ Some end
    → CountsSteps log.marks end.marks (byte_steps size keep (Some log) s ++ steps_on size keep now text)
from_byte size keep log end s text None right e f r is = absurd cc
from_byte size keep log end s text (Some now) right e f r is =
    let k = byte_by keep log now s (fills size (log.count + 1) (s.byte == 10)) f r e in
    let low = below log.marks now.marks (byte_steps size keep (Some log) s) k in
    counts_then log.marks now.marks end.marks (byte_steps size keep (Some log) s) (steps_on size keep (Some now) text) k
    (right now end low.0 low.1 is)

from_ready : (size keep : ℕ) (log end : Standing) (s : Sent) (text : List Sent) (now : Option Standing)
    → RightFor size keep text → ready size keep log s.reading ≡ now
    → log.marks.finished < 2 ^ 64 → log.marks.removed < 2 ^ 64 → standing_on size keep (after_byte size keep now s) text
    ≡ Some end
    → CountsSteps log.marks end.marks (first_steps size keep log s.reading ++ byte_steps size keep now s
    ++ steps_on size keep (after_byte size keep now s) text)
from_ready size keep log end s text None right e f r is = absurd cc
from_ready size keep log end s text (Some now) right e f r is =
    let k = ready_by size keep log now s.reading (nat_le size log.count) f r refl e in
    let low = below log.marks now.marks (first_steps size keep log s.reading) k in
    let first = first_steps size keep log s.reading in
    let here = byte_steps size keep (Some now) s in
    let rest = steps_on size keep (after_byte size keep (Some now) s) text in
    subst (λ (steps : List Step). CountsSteps log.marks end.marks steps) (sym (append_assoc first here rest))
    (counts_then log.marks now.marks end.marks first (here ++ rest) k
    (from_byte size keep now end s text (after_byte size keep (Some now) s) right refl low.0 low.1 is))

pub text_counts : (size keep : ℕ) (log end : Standing) (text : List Sent) → log.marks.finished < 2 ^ 64
    → log.marks.removed < 2 ^ 64
    → standing_on size keep (Some log) text ≡ Some end
    → CountsSteps log.marks end.marks (steps_on size keep (Some log) text)
text_counts size keep log end [] f r is =
    counts_none log.marks end.marks [] (ap (λ (s : Standing). s.marks) (some_same log end is)) f r refl refl
text_counts size keep log end (s ∷ text) f r is =
    from_ready size keep log end s text (ready size keep log s.reading)
    (λ (log1 : Standing) (end1 : Standing) f1 r1 is1. text_counts size keep log1 end1 text f1 r1 is1) refl f r is
