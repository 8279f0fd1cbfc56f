-- Stamped bytes, part by part.
use Rattle.std.proofs.Common.{◌≡◌, ℕ, zero, suc, ◌+◌, ◌-◌, ◌<◌, ◌==◌, Bool, true, false, not, List, [], ◌∷◌, ◌++◌}
use Rattle.std.proofs.Common.{length, take, get_or, Option, Some, None, refl, sym, subst, ap, ◌∙◌, arith, add-one}
use Rattle.std.proofs.Common.{append_assoc, append-nil, length-append}
use Rattle.std.specs.List.{onto_first}
use Rattle.std.specs.Io.BufRead.{take_through}
use Rattle.std.specs.Io.KnownBytes.{Keeps, Appends, Consumes}
use Rattle.tai_status.specs.Label.{Tai64n}
use Rattle.tai_status.specs.Counted.{Device, AppendsFront, Gives, GivesNothing}
use Rattle.tai_status.specs.Lines.{StampState, stamp_state, lines_of, stamp, stamped, Stamps, StampsFront}
use Rattle.tai_status.specs.Extended.{Extended}
use Rattle.tai_status.specs.Block.{Emits}
use Rattle.tai_status.specs.Stamping.{stamped_on, begun, is_inside, StampsPart, StampsUpTo, SoFar}
use Rattle.memchr.specs.Find.{NoneBefore, Nowhere, Passes, is_byte}
use Rattle.tai_status.proofs.Known.{Emits-none, Keeps-same, Emits-then, Emits-front, AppendsFront-more}
use Rattle.std.proofs.Math.Seq.{take-length}

take_through-on : (b : ℕ) (bs : List ℕ) → (b == 10) ≡ false → take_through 10 (b ∷ bs) ≡ b ∷ take_through 10 bs
take_through-on b bs e = grind (arith, e)

not_true : (b : Bool) → ¬ (b ≡ true) → b ≡ false
not_true true no_way = absurd (no_way refl)
not_true false no_way = refl

-- Parts

inside_by : (labels : List Tai64n) (x : ℕ) (xs : List ℕ) (ends : Bool) → (x == 10) ≡ ends
    → stamped_on true labels (take_through 10 (x ∷ xs)) ≡ take_through 10 (x ∷ xs)
inside_by labels x xs true e = grind (arith, e)
inside_by labels x [] false e = grind (arith, e)
inside_by labels x (y ∷ ys) false e = let rest = inside_by labels y ys (y == 10) refl in grind (arith, e, rest)

-- bytes of a line that has begun
pub stamped_on-inside : (labels : List Tai64n) (xs : List ℕ) → stamped_on true labels (take_through 10 xs)
    ≡ take_through 10 xs
stamped_on-inside labels [] = refl
stamped_on-inside labels (x ∷ xs) = inside_by labels x xs (x == 10) refl

begun_by : (x : ℕ) (xs : List ℕ) (ends : Bool) → (x == 10) ≡ ends → begun true (take_through 10 (x ∷ xs)) ≡ 0
begun_by x xs true e = grind (arith, e)
begun_by x [] false e = grind (arith, e)
begun_by x (y ∷ ys) false e = let rest = begun_by y ys (y == 10) refl in grind (arith, e, rest)

pub begun-inside : (xs : List ℕ) → begun true (take_through 10 xs) ≡ 0
begun-inside [] = refl
begun-inside (x ∷ xs) = begun_by x xs (x == 10) refl

start_by : (label : Tai64n) (x : ℕ) (xs : List ℕ) (ends : Bool) → (x == 10) ≡ ends
    → stamped_on false (label ∷ []) (take_through 10 (x ∷ xs)) ≡ stamp label ++ take_through 10 (x ∷ xs)
start_by label x xs true e = grind (arith, e)
start_by label x xs false e = let rest = stamped_on-inside [] xs in grind (arith, e, rest)

-- the bytes that begin a line
pub stamped_on-start : (label : Tai64n) (xs : List ℕ) → 0 < length xs
    → stamped_on false (label ∷ []) (take_through 10 xs) ≡ stamp label ++ take_through 10 xs
stamped_on-start label [] some = absurd (omega (arith, some))
stamped_on-start label (x ∷ xs) some = start_by label x xs (x == 10) refl

begun_start_by : (x : ℕ) (xs : List ℕ) (ends : Bool) → (x == 10) ≡ ends → begun false (take_through 10 (x ∷ xs)) ≡ 1
begun_start_by x xs true e = grind (arith, e)
begun_start_by x xs false e = let rest = begun-inside xs in grind (arith, e, rest)

pub begun-start : (xs : List ℕ) → 0 < length xs → begun false (take_through 10 xs) ≡ 1
begun-start [] some = absurd (omega (arith, some))
begun-start (x ∷ xs) some = begun_start_by x xs (x == 10) refl

-- One after another

pub is_inside-append : (inside : Bool) (xs ys : List ℕ) → is_inside inside (xs ++ ys)
    ≡ is_inside (is_inside inside xs) ys
is_inside-append inside [] ys = refl
is_inside-append inside (x ∷ xs) ys = is_inside-append (not (x == 10)) xs ys

pub begun-append : (inside : Bool) (xs ys : List ℕ) → begun inside (xs ++ ys) ≡ begun inside xs
    + begun (is_inside inside xs) ys
begun-append inside [] ys = omega arith
begun-append true (x ∷ xs) ys = begun-append (not (x == 10)) xs ys
begun-append false (x ∷ xs) ys = let rest = begun-append (not (x == 10)) xs ys in omega (arith, rest)

pub stamped_on-append : (inside : Bool) (gs hs : List Tai64n) (xs ys : List ℕ) → length gs ≡ begun inside xs
    → stamped_on inside (gs ++ hs) (xs ++ ys) ≡ stamped_on inside gs xs ++ stamped_on (is_inside inside xs) hs ys
stamped_on-append inside [] hs [] ys e = refl
stamped_on-append inside (g ∷ gs) hs [] ys e = absurd (omega (arith, e))
stamped_on-append true gs hs (x ∷ xs) ys e =
    ap (λ (t : List ℕ). x ∷ t) (stamped_on-append (not (x == 10)) gs hs xs ys e)
stamped_on-append false [] hs (x ∷ xs) ys e = absurd (omega (arith, e))
stamped_on-append false (g ∷ gs) hs (x ∷ xs) ys e =
    let rest = stamped_on-append (not (x == 10)) gs hs xs ys (omega (arith, e)) in
    ap (λ (t : List ℕ). stamp g ++ x ∷ t) rest ∙ sym (append_assoc (stamp g) (x ∷ stamped_on (not (x == 10)) gs xs) _)

pub stamped_on-front : (inside : Bool) (gs : List Tai64n) (xs ys : List ℕ)
    → (rest : List ℕ) × (stamped_on inside gs (xs ++ ys) ≡ stamped_on inside gs xs ++ rest)
stamped_on-front inside gs [] ys = (stamped_on inside gs ys, refl)
stamped_on-front true gs (x ∷ xs) ys =
    let more = stamped_on-front (not (x == 10)) gs xs ys in (more.0, ap (λ (t : List ℕ). x ∷ t) more.1)
stamped_on-front false [] (x ∷ xs) ys = ([], refl)
stamped_on-front false (g ∷ gs) (x ∷ xs) ys =
    let more = stamped_on-front (not (x == 10)) gs xs ys in (
      more.0,
      ap (λ (t : List ℕ). stamp g ++ x ∷ t) more.1
          ∙ sym (append_assoc (stamp g) (x ∷ stamped_on (not (x == 10)) gs xs) more.0),
    )

-- Whole lines

-- the lines of bytes that continue a line: each line but the first comes after its stamp
continued : List Tai64n → List (List ℕ) → List ℕ
continued gs [] = []
continued gs (line ∷ lines) = line ++ stamped gs lines

stamped-onto : (g : Tai64n) (gs : List Tai64n) (b : ℕ) (ls : List (List ℕ))
    → stamped (g ∷ gs) (onto_first b ls) ≡ stamp g ++ b ∷ continued gs ls
unfolding continued
stamped-onto g gs b [] = append-nil (stamp g ++ b ∷ [])
stamped-onto g gs b (l ∷ ls) = append_assoc (stamp g) (b ∷ l) (stamped gs ls)

stamped-no_labels : (ls : List (List ℕ)) → stamped [] ls ≡ []
stamped-no_labels [] = refl
stamped-no_labels (l ∷ ls) = refl

continued-onto : (gs : List Tai64n) (b : ℕ) (ls : List (List ℕ)) → continued gs (onto_first b ls) ≡ b ∷ continued gs ls
unfolding continued
continued-onto gs b [] = refl
continued-onto gs b (l ∷ ls) = refl

lines_of-end : (b : ℕ) (bs : List ℕ) → (b == 10) ≡ true → lines_of (b ∷ bs) ≡ (10 ∷ []) ∷ lines_of bs
lines_of-end b bs e = grind (arith, e)

lines_of-on : (b : ℕ) (bs : List ℕ) → (b == 10) ≡ false → lines_of (b ∷ bs) ≡ onto_first b (lines_of bs)
lines_of-on b bs e = grind (arith, e)

length-onto : (b : ℕ) (ls : List (List ℕ)) → length (onto_first b ls) ≡ 1 + (length ls - 1)
length-onto b [] = refl
length-onto b (l ∷ ls) = omega arith

-- both readings of a text at once
record Reads (text : List ℕ) : Type 0 where
  new : (gs : List Tai64n) → stamped_on false gs text ≡ stamped gs (lines_of text)
  on : (gs : List Tai64n) → stamped_on true gs text ≡ continued gs (lines_of text)
  count_new : begun false text ≡ length (lines_of text)
  count_on : begun true text ≡ length (lines_of text) - 1

-- one more byte, given both readings of the bytes after it
on_after : (gs : List Tai64n) (b : ℕ) (bs : List ℕ) (ends : Bool) → (b == 10) ≡ ends → Reads bs
    → b ∷ stamped_on (not (b == 10)) gs bs ≡ continued gs (lines_of (b ∷ bs))
unfolding continued
on_after gs b bs true e r = let ten : b ≡ 10 = grind (arith, e) in rw (lines_of-end b bs e, e, ten, r.new gs) refl
on_after gs b bs false e r = rw (lines_of-on b bs e, e, r.on gs, continued-onto gs b (lines_of bs)) refl

new_after : (g : Tai64n) (gs : List Tai64n) (b : ℕ) (bs : List ℕ) (ends : Bool) → (b == 10) ≡ ends → Reads bs
    → stamped (g ∷ gs) (lines_of (b ∷ bs)) ≡ stamp g ++ continued gs (lines_of (b ∷ bs))
unfolding continued
new_after g gs b bs true e r = rw (lines_of-end b bs e) (append_assoc (stamp g) (10 ∷ []) (stamped gs (lines_of bs)))
new_after g gs b bs false e r =
    rw (lines_of-on b bs e, stamped-onto g gs b (lines_of bs), continued-onto gs b (lines_of bs)) refl

new_by : (gs : List Tai64n) (b : ℕ) (bs : List ℕ) → Reads bs → stamped_on false gs (b ∷ bs)
    ≡ stamped gs (lines_of (b ∷ bs))
new_by [] b bs r = sym (stamped-no_labels (lines_of (b ∷ bs)))
new_by (g ∷ gs) b bs r =
    ap (λ (t : List ℕ). stamp g ++ t) (on_after gs b bs (b == 10) refl r) ∙ sym (new_after g gs b bs (b == 10) refl r)

counts_by : (b : ℕ) (bs : List ℕ) (ends : Bool) → (b == 10) ≡ ends → Reads bs
    → begun (not (b == 10)) bs + 1 ≡ length (lines_of (b ∷ bs))
counts_by b bs true e r = let l = r.count_new in rw (lines_of-end b bs e, e) (omega (arith, l))
counts_by b bs false e r = let l = r.count_on in let o = length-onto b (lines_of bs) in
    rw (lines_of-on b bs e, e) (omega (arith, l, o))

reads : (text : List ℕ) → Reads text
unfolding continued
reads [] = record { new = λ gs. refl; on = λ gs. refl; count_new = refl; count_on = refl }
reads (b ∷ bs) = let r = reads bs in record {
  new = λ gs. new_by gs b bs r;
  on = λ gs. on_after gs b bs (b == 10) refl r;
  count_new = counts_by b bs (b == 10) refl r;
  count_on = let n = counts_by b bs (b == 10) refl r in omega (arith, n);
}

-- The stamped lines of a text are its bytes stamped as they come.
pub stamped-lines : (gs : List Tai64n) (text : List ℕ) → stamped gs (lines_of text) ≡ stamped_on false gs text
stamped-lines gs text = sym ((reads text).new gs)

pub length-lines : (text : List ℕ) → length (lines_of text) ≡ begun false text
length-lines text = sym (reads text).count_new

-- Readings

pub Extended-then : (a b c : Option (List Tai64n)) (gs hs : List Tai64n) → Extended a b gs → Extended b c hs
    → Extended a c (gs ++ hs)
Extended-then None b c gs hs k l = tt
Extended-then (Some xs) None c gs hs k l = absurd k
Extended-then (Some xs) (Some ys) None gs hs k l = absurd l
Extended-then (Some xs) (Some ys) (Some zs) gs hs k l = l ∙ ap (λ (t : List Tai64n). t ++ hs) k ∙ append_assoc xs gs hs

pub Extended-none : (a : Option (List Tai64n)) → Extended a a []
Extended-none None = tt
Extended-none (Some xs) = sym (append-nil xs)

-- Stamped so far

pub StampsPart-none : (inside : Bool) (past : Option (List Tai64n)) (held : Option (List ℕ)) (pending : List ℕ)
    → Emits held held pending pending []
    → StampsPart inside [] past past held held pending pending
StampsPart-none inside past held pending e = record {
  labels = [];
  gave = Extended-none past;
  each = refl;
  text = e;
}

pub StampsPart-then : {i j : Bool} {xs ys : List ℕ} {a b c : Option (List Tai64n)} {d e f : Option (List ℕ)}
    {p q r : List ℕ}
    → j ≡ is_inside i xs → StampsPart i xs a b d e p q → StampsPart j ys b c e f q r
    → StampsPart i (xs ++ ys) a c d f p r
StampsPart-then {i} {j} {xs} {ys} {a} {b} {c} {d} {e} {f} {p} {q} {r} after s t =
    let then : begun (is_inside i xs) ys ≡ begun j ys = ap (λ (v : Bool). begun v ys) (sym after) in
    let text = stamped_on-append i s.labels t.labels xs ys s.each in
    let same : stamped_on i (s.labels ++ t.labels) (xs ++ ys) ≡ stamped_on i s.labels xs ++ stamped_on j t.labels ys =
    text ∙ ap (λ (v : Bool). stamped_on i s.labels xs ++ stamped_on v t.labels ys) (sym after) in
    record {
      labels = s.labels ++ t.labels;
      gave = Extended-then a b c s.labels t.labels s.gave t.gave;
      each = let l = s.each in let o = t.each in let h = begun-append i xs ys in
          let w = length-append s.labels t.labels in omega (arith, l, o, h, w, then);
      text = subst (λ (v : List ℕ). Emits d f p r v) (sym same) (Emits-then s.text t.text);
    }

pub inside-then : (i : Bool) {j k : Bool} (xs ys : List ℕ) → j ≡ is_inside i xs → k ≡ is_inside j ys
    → k ≡ is_inside i (xs ++ ys)
inside-then i {j} {k} xs ys after next = next ∙ ap (λ (v : Bool). is_inside v ys) after ∙ sym (is_inside-append i xs ys)

pub begun-then : (i : Bool) {j : Bool} (xs ys : List ℕ) {m n : ℕ} → j ≡ is_inside i xs → m ≡ begun i xs → n ≡ begun j ys
    → m + n ≡ begun i (xs ++ ys)
begun-then i {j} xs ys {m} {n} after l o =
    let then : begun (is_inside i xs) ys ≡ begun j ys = ap (λ (v : Bool). begun v ys) (sym after) in
    let h = begun-append i xs ys in omega (arith, l, o, h, then)

pub StampsUpTo-more : {i : Bool} {xs : List ℕ} {a b : Option (List Tai64n)} {d e : Option (List ℕ)} {p : List ℕ}
    (ys : List ℕ)
    → StampsUpTo i xs a b d e p → StampsUpTo i (xs ++ ys) a b d e p
StampsUpTo-more {i} {xs} {a} {b} {d} {e} {p} ys s =
    let more = stamped_on-front i s.labels xs ys in
    let same : p ++ stamped_on i s.labels (xs ++ ys) ≡ (p ++ stamped_on i s.labels xs) ++ more.0 =
    ap (λ (v : List ℕ). p ++ v) more.1 ∙ sym (append_assoc p (stamped_on i s.labels xs) more.0) in
    record {
      labels = s.labels;
      gave = s.gave;
      text =
          subst (λ (v : List ℕ). AppendsFront d e v) (sym same) (AppendsFront-more more.0 s.text);
    }

pub StampsPart-failed : {i j : Bool} {xs ys : List ℕ} {a b c : Option (List Tai64n)} {d e f : Option (List ℕ)}
    {p q : List ℕ}
    → j ≡ is_inside i xs → StampsPart i xs a b d e p q → StampsUpTo j ys b c e f q → StampsUpTo i (xs ++ ys) a c d f p
StampsPart-failed {i} {j} {xs} {ys} {a} {b} {c} {d} {e} {f} {p} {q} after s t =
    let same : stamped_on i (s.labels ++ t.labels) (xs ++ ys) ≡ stamped_on i s.labels xs ++ stamped_on j t.labels ys =
    stamped_on-append i s.labels t.labels xs ys s.each
    ∙ ap (λ (v : Bool). stamped_on i s.labels xs ++ stamped_on v t.labels ys) (sym after) in
    record {
      labels = s.labels ++ t.labels;
      gave = Extended-then a b c s.labels t.labels s.gave t.gave;
      text = subst (λ (v : List ℕ). AppendsFront d f (p ++ v)) (sym same)
          (Emits-front (stamped_on j t.labels ys) s.text t.text);
    }

-- A part

pub StampsPart-inside : (xs : List ℕ) (past : Option (List Tai64n)) {d e : Option (List ℕ)} {p q : List ℕ}
    → Emits d e p q (take_through 10 xs)
    → StampsPart true (take_through 10 xs) past past d e p q
StampsPart-inside xs past {d} {e} {p} {q} m = record {
  labels = [];
  gave = Extended-none past;
  each = sym (begun-inside xs);
  text = subst (λ (v : List ℕ). Emits d e p q v) (sym (stamped_on-inside [] xs)) m;
}

pub StampsPart-start : (label : Tai64n) (xs : List ℕ) {a b : Option (List Tai64n)} {d e : Option (List ℕ)}
    {p q : List ℕ} → 0 < length xs
    → Extended a b (label ∷ []) → Emits d e p q (stamp label ++ take_through 10 xs)
    → StampsPart false (take_through 10 xs) a b d e p q
StampsPart-start label xs {a} {b} {d} {e} {p} {q} some g m = record {
  labels = label ∷ [];
  gave = g;
  each = sym (begun-start xs some);
  text = subst (λ (v : List ℕ). Emits d e p q v) (sym (stamped_on-start label xs some)) m;
}

pub StampsUpTo-inside : (xs : List ℕ) (past : Option (List Tai64n)) {d e : Option (List ℕ)} {p : List ℕ}
    → AppendsFront d e (p ++ take_through 10 xs)
    → StampsUpTo true (take_through 10 xs) past past d e p
StampsUpTo-inside xs past {d} {e} {p} m = record {
  labels = [];
  gave = Extended-none past;
  text = subst (λ (v : List ℕ). AppendsFront d e (p ++ v)) (sym (stamped_on-inside [] xs)) m;
}

pub StampsUpTo-start : (label : Tai64n) (xs : List ℕ) {a b : Option (List Tai64n)} {d e : Option (List ℕ)} {p : List ℕ}
    → 0 < length xs
    → Extended a b (label ∷ []) → AppendsFront d e (p ++ (stamp label ++ take_through 10 xs))
    → StampsUpTo false (take_through 10 xs) a b d e p
StampsUpTo-start label xs {a} {b} {d} {e} {p} some g m = record {
  labels = label ∷ [];
  gave = g;
  text = subst (λ (v : List ℕ). AppendsFront d e (p ++ v)) (sym (stamped_on-start label xs some)) m;
}

-- The first newline

pub take_through-found : (xs : List ℕ) (k : ℕ) → k < length xs → (get_or xs k 0 == 10) ≡ true
    → ((j : ℕ) → j < k → ¬ ((get_or xs j 0 == 10) ≡ true)) → take (k + 1) xs ≡ take_through 10 xs
take_through-found [] k within is none = absurd (omega (arith, within))
take_through-found (x ∷ xs) zero within is none = grind (arith, is)
take_through-found (x ∷ xs) (suc k) within is none =
    let apart : (x == 10) ≡ false = not_true (x == 10) (none 0 (omega arith)) in
    let rest = take_through-found xs k (omega (arith, within)) is (λ j h. none (suc j) (omega (arith, h))) in
    let shifted : take (suc k) xs ≡ take_through 10 xs = ap (λ (n : ℕ). take n xs) (sym (add-one k)) ∙ rest in
    rw (add-one, take_through-on x xs apart) (ap (λ (t : List ℕ). x ∷ t) shifted)

is_inside-found : (inside : Bool) (xs : List ℕ) (k : ℕ) → k < length xs → (get_or xs k 0 == 10) ≡ true
    → ((j : ℕ) → j < k → ¬ ((get_or xs j 0 == 10) ≡ true)) → is_inside inside (take_through 10 xs) ≡ false
is_inside-found inside [] k within is none = absurd (omega (arith, within))
is_inside-found inside (x ∷ xs) zero within is none = grind (arith, is)
is_inside-found inside (x ∷ xs) (suc k) within is none =
    let apart : (x == 10) ≡ false = not_true (x == 10) (none 0 (omega arith)) in
    let rest = is_inside-found (not (x == 10)) xs k (omega (arith, within)) is
    (λ j h. none (suc j) (omega (arith, h))) in
    rw (take_through-on x xs apart) rest

take_through-none : (xs : List ℕ) → ((j : ℕ) → j < length xs → ¬ ((get_or xs j 0 == 10) ≡ true))
    → xs ≡ take_through 10 xs
take_through-none [] none = refl
take_through-none (x ∷ xs) none =
    let apart : (x == 10) ≡ false = not_true (x == 10) (none 0 (omega arith)) in
    let rest = take_through-none xs (λ j h. none (suc j) (omega (arith, h))) in
    rw (take_through-on x xs apart) (ap (λ (t : List ℕ). x ∷ t) rest)

is_inside-none : (inside : Bool) (x : ℕ) (xs : List ℕ)
    → ((j : ℕ) → j < length (x ∷ xs) → ¬ ((get_or (x ∷ xs) j 0 == 10) ≡ true))
    → is_inside inside (x ∷ xs) ≡ true
is_inside-none inside x [] none =
    let apart : (x == 10) ≡ false = not_true (x == 10) (none 0 (omega arith)) in rw apart refl
is_inside-none inside x (y ∷ ys) none = is_inside-none (not (x == 10)) y ys (λ j h. none (suc j) (omega (arith, h)))

-- what a search for the first newline finds
pub part_found : (xs : List ℕ) (k : ℕ) → NoneBefore (Passes (is_byte 10) xs) 0 (length xs) k → Passes (is_byte 10) xs k
    → (take (k + 1) xs ≡ take_through 10 xs) × ((inside : Bool) → is_inside inside (take_through 10 xs) ≡ false)
part_found xs k first is = (
  take_through-found xs k first.high is (λ j h. first.before j (omega arith) h),
  λ inside. is_inside-found inside xs k first.high is (λ j h. first.before j (omega arith) h),
)

pub part_whole : (xs : List ℕ) → Nowhere (Passes (is_byte 10) xs) 0 (length xs)
    → (take (length xs) xs ≡ take_through 10 xs)
    × (0 < length xs → (inside : Bool) → is_inside inside (take_through 10 xs) ≡ true)
part_whole [] none = (refl, λ some. absurd (omega (arith, some)))
part_whole (x ∷ xs) none =
    let same = take_through-none (x ∷ xs) (λ j h. none j (omega arith) h) in (
      take-length (x ∷ xs) ∙ same,
      λ some inside. subst (λ (t : List ℕ). is_inside inside t ≡ true) same
          (is_inside-none inside x xs (λ j h. none j (omega arith) h)),
    )

take_through_twice_by : (x : ℕ) (xs : List ℕ) (ends : Bool) → (x == 10) ≡ ends → take_through 10 (take_through 10 xs)
    ≡ take_through 10 xs
    → take_through 10 (take_through 10 (x ∷ xs)) ≡ take_through 10 (x ∷ xs)
take_through_twice_by x xs true e rest = grind (arith, e)
take_through_twice_by x xs false e rest =
    rw (take_through-on x xs e) (take_through-on x (take_through 10 xs) e ∙ ap (λ (t : List ℕ). x ∷ t) rest)

pub take_through-twice : (xs : List ℕ) → take_through 10 (take_through 10 xs) ≡ take_through 10 xs
take_through-twice [] = refl
take_through-twice (x ∷ xs) = take_through_twice_by x xs (x == 10) refl (take_through-twice xs)

-- All that was read so far

pub Consumes-then : (a b c : Option (List ℕ)) (bs cs : List ℕ) → Consumes a b bs → Consumes b c cs
    → Consumes a c (bs ++ cs)
Consumes-then None b c bs cs k l = tt
Consumes-then (Some xs) None c bs cs k l = absurd k
Consumes-then (Some xs) (Some ys) None bs cs k l = absurd l
Consumes-then (Some xs) (Some ys) (Some zs) bs cs k l = k ∙ ap (λ (t : List ℕ). bs ++ t) l ∙ sym (append_assoc bs cs zs)

pub Consumes-Keeps : (a b c : Option (List ℕ)) (bs : List ℕ) → Consumes a b bs → Keeps b c → Consumes a c bs
Consumes-Keeps None b c bs k l = tt
Consumes-Keeps (Some xs) None c bs k l = absurd k
Consumes-Keeps (Some xs) (Some ys) None bs k l = absurd l
Consumes-Keeps (Some xs) (Some ys) (Some zs) bs k l = k ∙ ap (λ (t : List ℕ). bs ++ t) (sym l)

pub Consumes-none : (a : Option (List ℕ)) → Consumes a a []
Consumes-none None = tt
Consumes-none (Some xs) = refl

pub SoFar-none : (d : StampState) → SoFar d d false 0
SoFar-none d = record {
  bytes = [];
  read = Consumes-none d.reader.bytes;
  stamps = StampsPart-none false d.readings d.writer.bytes []
      (Emits-none d.writer.bytes d.writer.bytes [] (Keeps-same d.writer.bytes));
  inside_is = refl;
  count_is = refl;
}

pub SoFar-then : {a b c : StampState} {i j : Bool} {m n : ℕ} {xs : List ℕ} → SoFar a b i m → Gives b.reader c.reader xs
    → StampsPart i xs b.readings c.readings b.writer.bytes c.writer.bytes [] [] → j ≡ is_inside i xs → n ≡ begun i xs
    → SoFar a c j (m + n)
SoFar-then {a} {b} {c} {i} {j} {m} {n} {xs} s k t inside count = record {
  bytes = s.bytes ++ xs;
  read = Consumes-then a.reader.bytes b.reader.bytes c.reader.bytes s.bytes xs s.read k;
  stamps = StampsPart-then s.inside_is s.stamps t;
  inside_is = inside-then false s.bytes xs s.inside_is inside;
  count_is = begun-then false s.bytes xs s.inside_is s.count_is count;
}

wrote_all : {held holds : Option (List ℕ)} {bytes : List ℕ} → Emits held holds [] [] bytes → Appends held holds bytes
wrote_all {held} {holds} {bytes} e =
    subst (λ (t : List ℕ). Appends held holds t) (sym (append-nil e.written) ∙ e.whole) e.wrote

-- A read gave no byte.
pub SoFar-nothing : {a b : StampState} {i : Bool} {n : ℕ} (reads : Device) → SoFar a b i n → Gives b.reader reads []
    → SoFar a (stamp_state reads b.writer b.readings) i n
SoFar-nothing {a} {b} reads s k = record {
  bytes = s.bytes;
  read = subst (λ (t : List ℕ). Consumes a.reader.bytes reads.bytes t) (append-nil s.bytes)
      (Consumes-then a.reader.bytes b.reader.bytes reads.bytes s.bytes [] s.read k);
  stamps = s.stamps;
  inside_is = s.inside_is;
  count_is = s.count_is;
}

-- A read failed.
pub SoFar-unread : {a b : StampState} {i : Bool} {n : ℕ} (reads : Device) → SoFar a b i n → GivesNothing b.reader reads
    → SoFar a (stamp_state reads b.writer b.readings) i n
SoFar-unread {a} {b} reads s k = record {
  bytes = s.bytes;
  read = Consumes-Keeps a.reader.bytes b.reader.bytes reads.bytes s.bytes s.read k;
  stamps = s.stamps;
  inside_is = s.inside_is;
  count_is = s.count_is;
}

pub SoFar-all : {a b : StampState} {i : Bool} {n : ℕ} → SoFar a b i n → Stamps a b n
SoFar-all {a} {b} {i} {n} s =
    let counted = length-lines s.bytes in record {
      bytes = s.bytes;
      labels = s.stamps.labels;
      read = s.read;
      gave = s.stamps.gave;
      each = s.stamps.each ∙ sym counted;
      text = subst (λ (t : List ℕ). Appends a.writer.bytes b.writer.bytes t)
          (sym (stamped-lines s.stamps.labels s.bytes)) (wrote_all s.stamps.text);
      count_is = s.count_is ∙ sym counted;
    }

pub SoFar-unwritten : {a b c : StampState} {i : Bool} {n : ℕ} {xs : List ℕ} → SoFar a b i n → Gives b.reader c.reader xs
    → StampsUpTo i xs b.readings c.readings b.writer.bytes c.writer.bytes [] → StampsFront a c
SoFar-unwritten {a} {b} {c} {i} {n} {xs} s k t =
    let all = StampsPart-failed s.inside_is s.stamps t in record {
      bytes = s.bytes ++ xs;
      labels = all.labels;
      read = Consumes-then a.reader.bytes b.reader.bytes c.reader.bytes s.bytes xs s.read k;
      gave = all.gave;
      text = subst (λ (v : List ℕ). AppendsFront a.writer.bytes c.writer.bytes v)
          (sym (stamped-lines all.labels (s.bytes ++ xs))) all.text;
    }
