-- Parts of lines, in the order in which the code meets them.
use Rattle.std.proofs.Common.{◌≡◌, ℕ, ◌+◌, ◌-◌, ◌<◌, Bool, true, false, if◌then◌else◌, List, [], ◌∷◌, ◌++◌, length}
use Rattle.std.proofs.Common.{take, drop, Option, refl, sym, subst, ap, ◌∙◌, append-nil}
use Rattle.std.specs.Io.BufRead.{take_through}
use Rattle.std.specs.Io.KnownBytes.{Appends}
use Rattle.std.proofs.Math.Seq.{take-add}
use Rattle.std.proofs.lemmas.List.{take_rest, take-append-drop}
use Rattle.tai_status.specs.Label.{Tai64n}
use Rattle.tai_status.specs.Counted.{AppendsFront}
use Rattle.tai_status.specs.Lines.{stamp}
use Rattle.tai_status.specs.Extended.{Extended}
use Rattle.tai_status.specs.Block.{Emits}
use Rattle.tai_status.specs.Stamping.{stamped_on, begun, is_inside, StampsPart, StampsUpTo}
use Rattle.tai_status.proofs.Known.{Emits-then, Emits-front}
use Rattle.tai_status.proofs.Stamped.{StampsPart-inside, StampsPart-start, StampsUpTo-inside, StampsUpTo-start}
use Rattle.tai_status.proofs.Stamped.{StampsUpTo-more, StampsPart-then, StampsPart-failed}
use Rattle.tai_status.proofs.Stamped.{inside-then, begun-then, begun-inside, begun-start, take_through-twice}

-- A part

pub part_on : {d e : Option (List ℕ)} {p q : List ℕ} (xs : List ℕ) (past : Option (List Tai64n)) (inside : Bool)
    → inside ≡ true → xs ≡ take_through 10 xs → Emits d e p q xs → StampsPart inside xs past past d e p q
part_on {d} {e} {p} {q} xs past inside is line m =
    let put = StampsPart-inside xs past (subst (λ (t : List ℕ). Emits d e p q t) line m) in
    let whole = subst (λ (t : List ℕ). StampsPart true t past past d e p q) (sym line) put in
    subst (λ (v : Bool). StampsPart v xs past past d e p q) (sym is) whole

pub part_new : {d e : Option (List ℕ)} {p q : List ℕ} (xs : List ℕ) (a b : Option (List Tai64n)) (label : Tai64n)
    (inside : Bool)
    → inside ≡ false → 0 < length xs → xs ≡ take_through 10 xs → Extended a b (label ∷ [])
    → Emits d e p q (stamp label ++ xs)
    → StampsPart inside xs a b d e p q
part_new {d} {e} {p} {q} xs a b label inside is some line g m =
    let put = StampsPart-start label xs some g (subst (λ (t : List ℕ). Emits d e p q (stamp label ++ t)) line m) in
    let whole = subst (λ (t : List ℕ). StampsPart false t a b d e p q) (sym line) put in
    subst (λ (v : Bool). StampsPart v xs a b d e p q) (sym is) whole

pub part_on_failed : {d e : Option (List ℕ)} {p : List ℕ} (xs : List ℕ) (past : Option (List Tai64n)) (inside : Bool)
    → inside ≡ true → xs ≡ take_through 10 xs → AppendsFront d e (p ++ xs) → StampsUpTo inside xs past past d e p
part_on_failed {d} {e} {p} xs past inside is line m =
    let put = StampsUpTo-inside xs past (subst (λ (t : List ℕ). AppendsFront d e (p ++ t)) line m) in
    let whole = subst (λ (t : List ℕ). StampsUpTo true t past past d e p) (sym line) put in
    subst (λ (v : Bool). StampsUpTo v xs past past d e p) (sym is) whole

pub part_new_failed : {d e : Option (List ℕ)} {p : List ℕ} (xs : List ℕ) (a b : Option (List Tai64n)) (label : Tai64n)
    (inside : Bool)
    → inside ≡ false → 0 < length xs → xs ≡ take_through 10 xs → Extended a b (label ∷ [])
    → AppendsFront d e (p ++ (stamp label ++ xs))
    → StampsUpTo inside xs a b d e p
part_new_failed {d} {e} {p} xs a b label inside is some line g m =
    let put = StampsUpTo-start label xs some g
    (subst (λ (t : List ℕ). AppendsFront d e (p ++ (stamp label ++ t))) line m) in
    let whole = subst (λ (t : List ℕ). StampsUpTo false t a b d e p) (sym line) put in
    subst (λ (v : Bool). StampsUpTo v xs a b d e p) (sym is) whole

-- One part after another

rest_is : (xs : List ℕ) (at : ℕ) → take (length xs - at) (drop at xs) ≡ drop at xs
rest_is xs at = take_rest xs at

pub line_again : (xs : List ℕ) (n : ℕ) → take n xs ≡ take_through 10 xs → take n xs ≡ take_through 10 (take n xs)
line_again xs n front = front ∙ sym (take_through-twice xs) ∙ ap (λ (t : List ℕ). take_through 10 t) (sym front)

pub parts_further : {i j : Bool} {a b c : Option (List Tai64n)} {d e f : Option (List ℕ)} {p q r : List ℕ} (xs : List ℕ)
    (at n : ℕ)
    → j ≡ is_inside i (take at xs) → StampsPart i (take at xs) a b d e p q
    → StampsPart j (take n (take (length xs - at) (drop at xs))) b c e f q r
    → StampsPart i (take (at + n) xs) a c d f p r
parts_further {i} {j} {a} {b} {c} {d} {e} {f} {p} {q} {r} xs at n after s t =
    subst (λ (v : List ℕ). StampsPart i v a c d f p r) (sym (take-add at n xs))
    (StampsPart-then after s (subst (λ (v : List ℕ). StampsPart j (take n v) b c e f q r) (rest_is xs at) t))

pub inside_further : (i : Bool) {j k : Bool} (xs : List ℕ) (at n : ℕ) → j ≡ is_inside i (take at xs)
    → take n (take (length xs - at) (drop at xs)) ≡ take_through 10 (take (length xs - at) (drop at xs))
    → is_inside j (take_through 10 (take (length xs - at) (drop at xs))) ≡ k → k ≡ is_inside i (take (at + n) xs)
inside_further i {j} {k} xs at n after front next =
    let here : is_inside j (take n (drop at xs)) ≡ k =
    ap (λ (v : List ℕ). is_inside j (take n v)) (sym (rest_is xs at)) ∙ ap (λ (v : List ℕ). is_inside j v) front
    ∙ next in
    inside-then i (take at xs) (take n (drop at xs)) after (sym here)
    ∙ ap (λ (v : List ℕ). is_inside i v) (sym (take-add at n xs))

begun-part : (inside : Bool) (xs : List ℕ) → 0 < length xs → begun inside (take_through 10 xs)
    ≡ (if inside then 0 else 1)
begun-part true xs some = begun-inside xs
begun-part false xs some = begun-start xs some

pub begun_further : (i : Bool) {j : Bool} {m more : ℕ} (xs : List ℕ) (at n : ℕ) → j ≡ is_inside i (take at xs)
    → m ≡ begun i (take at xs)
    → 0 < length (take (length xs - at) (drop at xs))
    → take n (take (length xs - at) (drop at xs)) ≡ take_through 10 (take (length xs - at) (drop at xs))
    → more ≡ (if j then 0 else 1) → m + more ≡ begun i (take (at + n) xs)
begun_further i {j} {m} {more} xs at n after counted some front is =
    let here : more ≡ begun j (take n (drop at xs)) =
    is ∙ sym (begun-part j (take (length xs - at) (drop at xs)) some) ∙ ap (λ (v : List ℕ). begun j v) (sym front)
    ∙ ap (λ (v : List ℕ). begun j (take n v)) (rest_is xs at) in
    begun-then i (take at xs) (take n (drop at xs)) after counted here
    ∙ ap (λ (v : List ℕ). begun i v) (sym (take-add at n xs))

pub parts_failed : {i j : Bool} {a b c : Option (List Tai64n)} {d e f : Option (List ℕ)} {p q : List ℕ} (xs : List ℕ)
    (at n : ℕ)
    → j ≡ is_inside i (take at xs) → StampsPart i (take at xs) a b d e p q
    → StampsUpTo j (take n (take (length xs - at) (drop at xs))) b c e f q → StampsUpTo i xs a c d f p
parts_failed {i} {j} {a} {b} {c} {d} {e} {f} {p} {q} xs at n after s t =
    let rest = take (length xs - at) (drop at xs) in
    let all : StampsUpTo j rest b c e f q =
    subst (λ (v : List ℕ). StampsUpTo j v b c e f q) (take-append-drop n rest) (StampsUpTo-more (drop n rest) t) in
    subst (λ (v : List ℕ). StampsUpTo i v a c d f p) (take-append-drop at xs)
    (StampsPart-failed after s (subst (λ (v : List ℕ). StampsUpTo j v b c e f q) (rest_is xs at) all))

-- The end of a block

pub flushed : {i : Bool} {xs p q : List ℕ} {a b : Option (List Tai64n)} {d e f : Option (List ℕ)}
    → p ≡ [] → StampsPart i xs a b d e p q → Appends e f q → StampsPart i xs a b d f [] []
flushed {i} {xs} {p} {q} {a} {b} {d} {e} {f} none s w =
    let last : Emits e f q [] [] = record { written = q; wrote = w; whole = refl } in
    let text = subst (λ (v : List ℕ). Emits d f p [] v) (append-nil (stamped_on i s.labels xs))
    (Emits-then s.text last) in
    record {
      labels = s.labels;
      gave = s.gave;
      each = s.each;
      text = subst (λ (v : List ℕ). Emits d f v [] (stamped_on i s.labels xs)) none text;
    }

pub unflushed : {i : Bool} {xs p q : List ℕ} {a b : Option (List Tai64n)} {d e f : Option (List ℕ)}
    → p ≡ [] → StampsPart i xs a b d e p q → AppendsFront e f q → StampsUpTo i xs a b d f []
unflushed {i} {xs} {p} {q} {a} {b} {d} {e} {f} none s w =
    let front = Emits-front [] s.text (subst (λ (v : List ℕ). AppendsFront e f v) (sym (append-nil q)) w) in
    let text = subst (λ (v : List ℕ). AppendsFront d f (p ++ v)) (append-nil (stamped_on i s.labels xs)) front in
    record {
      labels = s.labels;
      gave = s.gave;
      text =
          subst (λ (v : List ℕ). AppendsFront d f (v ++ stamped_on i s.labels xs)) none text;
    }
