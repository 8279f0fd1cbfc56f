-- Ranges of a buffer.
use Rattle.std.proofs.Common.{◌≡◌, ℕ, suc, ◌+◌, ◌-◌, ◌<◌, ◌≤◌, ◌==◌, Bool, true, false, List, [], ◌∷◌, ◌++◌, length}
use Rattle.std.proofs.Common.{take, drop, get_or, refl, sym, ap, ◌∙◌, arith, length-drop, drop-cons}
use Rattle.std.specs.List.{slice_range}
use Rattle.std.proofs.Math.Seq.{take-add, take-length}
use Rattle.std.proofs.lemmas.List.{take-append-le, drop-drop, length-take-le, get_or-drop, get_or-take}
use Rattle.std.proofs.lemmas.Bool.{eqb-true}
use Rattle.memchr.specs.Find.{NoneBefore, Nowhere, Passes, is_byte}
use Rattle.tai_status.specs.LineReader.{IsPlain}

-- A range, and the range right after it.
pub ranges_join : (xs : List ℕ) (s m e : ℕ) → s ≤ m → m ≤ e
    → slice_range xs s e ≡ slice_range xs s m ++ slice_range xs m e
ranges_join xs s m e below above =
    let size : e - s ≡ (m - s) + (e - m) = omega arith in
    let place : s + (m - s) ≡ m = omega arith in
    ap (λ (n : ℕ). take n (drop s xs)) size
    ∙ take-add (m - s) (e - m) (drop s xs)
    ∙ ap (λ (ys : List ℕ). take (m - s) (drop s xs) ++ take (e - m) ys) (drop-drop (m - s) s xs
    ∙ ap (λ (n : ℕ). drop n xs) place)

pub range-length : (xs : List ℕ) (s e : ℕ) → s ≤ e → e ≤ length xs → length (slice_range xs s e) ≡ e - s
range-length xs s e below within = length-take-le (e - s) (drop s xs) (omega (arith, length-drop s xs))

range-one : (xs : List ℕ) (k : ℕ) → k < length xs → slice_range xs k (k + 1) ≡ get_or xs k 0 ∷ []
range-one xs k within =
    let size : (k + 1) - k ≡ 1 = omega arith in
    ap (λ (n : ℕ). take n (drop k xs)) size ∙ ap (take 1) (drop-cons xs k 0 within)

range-get : (xs : List ℕ) (s e k : ℕ) → k < e - s → get_or (slice_range xs s e) k 0 ≡ get_or xs (s + k) 0
range-get xs s e k within = get_or-take (e - s) (drop s xs) k 0 within ∙ get_or-drop s xs k 0

-- Newlines

not_true : (b : Bool) → ¬ (b ≡ true) → b ≡ false
not_true true no_way = absurd (no_way refl)
not_true false no_way = refl

pub plain_where_none : (xs : List ℕ) → ((j : ℕ) → j < length xs → ¬ ((get_or xs j 0 == 10) ≡ true)) → IsPlain xs
plain_where_none [] none = refl
plain_where_none (x ∷ xs) none =
    let rest = plain_where_none xs (λ j h. none (suc j) (omega (arith, h))) in
    let apart : (x == 10) ≡ false = not_true (x == 10) (none 0 (omega arith)) in
    grind (arith, apart, rest)

pub none_found : (xs : List ℕ) → Nowhere (Passes (is_byte 10) xs) 0 (length xs) → IsPlain xs
none_found xs none = plain_where_none xs (λ j h. none j (omega arith) h)

-- What a search for the first newline of a range found.
pub line_found : (b : List ℕ) (s e at : ℕ) → s ≤ e → e ≤ length b
    → NoneBefore (Passes (is_byte 10) (slice_range b s e)) 0 (length (slice_range b s e)) at
    → Passes (is_byte 10) (slice_range b s e) at
    → (slice_range b s e ≡ slice_range b s (s + at) ++ 10 ∷ slice_range b (s + at + 1) e)
    × IsPlain (slice_range b s (s + at))
line_found b s e at below within first is =
    let size = range-length b s e below within in
    let high : at < e - s = let h = first.high in omega (arith, h, size) in
    let ten : get_or b (s + at) 0 ≡ 10 = sym (range-get b s e at high) ∙ eqb-true _ _ is in
    let one : slice_range b (s + at) (s + at + 1) ≡ 10 ∷ [] = range-one b (s + at) (omega (arith, high))
    ∙ ap (λ (x : ℕ). x ∷ []) ten in
    let front = range-length b s (s + at) (omega arith) (omega (arith, high)) in (
      ranges_join b s (s + at) e (omega arith) (omega (arith, high))
          ∙ ap (λ (ys : List ℕ). slice_range b s (s + at) ++ ys)
          (ranges_join b (s + at) (s + at + 1) e (omega arith) (omega (arith, high))
          ∙ ap (λ (ys : List ℕ). ys ++ slice_range b (s + at + 1) e) one),
      plain_where_none (slice_range b s (s + at)) (λ j h.
          let j_at : j < at = omega (arith, h, front) in
          let same : get_or (slice_range b s (s + at)) j 0 ≡ get_or (slice_range b s e) j 0 =
          range-get b s (s + at) j (omega (arith, j_at)) ∙ sym (range-get b s e j (omega (arith, j_at, high))) in
          λ is_ten. first.before j (omega arith) j_at (ap (λ (x : ℕ). x == 10) (sym same) ∙ is_ten)),
    )

-- Bytes that were moved to the front, and those that were read after them.
pub read_behind : (old moved new : List ℕ) (s e n : ℕ) → take (e - s) moved ≡ slice_range old s e
    → take (e - s) new ≡ take (e - s) moved
    → slice_range new 0 (e - s + n) ≡ slice_range old s e ++ slice_range new (e - s) (e - s + n)
read_behind old moved new s e n m r =
    let front : slice_range new 0 (e - s) ≡ take (e - s) new = ap (λ (k : ℕ). take k new) (omega arith) in
    ranges_join new 0 (e - s) (e - s + n) (omega arith) (omega arith)
    ∙ ap (λ (ys : List ℕ). ys ++ slice_range new (e - s) (e - s + n)) (front ∙ r ∙ m)

-- a buffer that was written whole
pub written_whole : (new rest : List ℕ) (n : ℕ) → length new ≡ n → take n (new ++ rest) ≡ new
written_whole new rest n size =
    ap (λ (k : ℕ). take k (new ++ rest)) (sym size) ∙ take-append-le (length new) new rest (omega arith)
    ∙ take-length new
