-- Lines, part by part.
use Rattle.std.proofs.Common.{◌≡◌, ℕ, ◌+◌, ◌-◌, ◌<◌, ◌≤◌, inl, inr, ◌==◌, Bool, true, false, not, List, [], ◌∷◌, ◌++◌}
use Rattle.std.proofs.Common.{length, length-drop, ◌&&◌, take, drop, get_or, refl, sym, subst, ap, ◌∙◌, arith, ℤ}
use Rattle.std.proofs.Common.{append_assoc, append-nil}
use Rattle.std.specs.Prelude.{if◌then◌else◌, flat_map, Option}
use Rattle.std.specs.List.{onto_first}
use Rattle.std.specs.Io.BufRead.{take_through, drop_through}
use Rattle.std.proofs.lemmas.Bool.{eqb-true}
use Rattle.std.proofs.lemmas.List.{take_more, get_or-take, length-take-le, take_rest, take-append-drop}
use Rattle.std.proofs.Math.Seq.{take-length, take-add}
use Rattle.memchr.specs.Find.{NoneBefore, Nowhere, is_byte}
use Rattle.memchr.specs.Find.{Passes as Finds}
use Rattle.tai_status.specs.Counted.{AppendsFront}
use Rattle.tai_status.specs.Block.{Emits}
use Rattle.tai_status.proofs.Known.{Emits-then, Emits-front, AppendsFront-first}
use Rattle.tai_status.proofs.Ranges.{plain_where_none, none_found}
use Rattle.tai_status.specs.LineReader.{IsPlain}
use Rattle.tai_status.specs.Lines.{lines_of}
use Rattle.cmd_local.specs.Lines.{localised, localised_line}
use Rattle.cmd_local.specs.Passing.{is_open, IsPart, IsHeld, Makes, Passes, passed}
use Rattle.cmd_local.proofs.Labels.{localised_line-more, localised_line-nothing}

-- The first line, and the others.

lines_by : (x : ℕ) (xs : List ℕ) (ends : Bool) → (x == 10) ≡ ends
    → lines_of (x ∷ xs) ≡ take_through 10 (x ∷ xs) ∷ lines_of (drop_through 10 (x ∷ xs))
lines_by x xs true e = let ten : x ≡ 10 = eqb-true _ _ e in rw (e, ten) refl
lines_by x [] false e = rw e refl
lines_by x (y ∷ ys) false e =
    let rest = lines_by y ys (y == 10) refl in rw e (ap (onto_first x) rest)

localised-first : (ahead : ℤ → ℤ) (x : ℕ) (xs : List ℕ)
    → localised ahead (x ∷ xs) ≡ localised_line ahead (take_through 10 (x ∷ xs))
    ++ localised ahead (drop_through 10 (x ∷ xs))
localised-first ahead x xs = ap (flat_map (localised_line ahead)) (lines_by x xs (x == 10) refl)

pub localised-parts : (ahead : ℤ → ℤ) (xs : List ℕ) → 0 < length xs
    → localised ahead xs ≡ localised_line ahead (take_through 10 xs) ++ localised ahead (drop_through 10 xs)
localised-parts ahead [] some = absurd (omega (arith, some))
localised-parts ahead (x ∷ xs) some = localised-first ahead x xs

-- Parts that a search for a newline gives.

through_on : (x : ℕ) (xs : List ℕ) → (x == 10) ≡ false → (take_through 10 (x ∷ xs) ≡ x ∷ take_through 10 xs)
    × (drop_through 10 (x ∷ xs) ≡ drop_through 10 xs)
through_on x xs e = (rw e refl, rw e refl)

plain_parts : (x : ℕ) (xs : List ℕ) → IsPlain (x ∷ xs) → ((x == 10) ≡ false) × IsPlain xs
plain_parts x xs plain = (grind (arith, plain), grind (arith, plain))

pub part_plain : (xs : List ℕ) → IsPlain xs → IsPart xs false
part_plain [] plain more = (refl, refl)
part_plain (x ∷ xs) plain more =
    let parts = plain_parts x xs plain in
    let on = through_on x (xs ++ more) parts.0 in
    let rest = part_plain xs parts.1 more in
    (on.0 ∙ ap (λ (t : List ℕ). x ∷ t) rest.0, on.1 ∙ rest.1)

pub part_ended : (xs : List ℕ) → IsPlain xs → IsPart (xs ++ 10 ∷ []) true
part_ended [] plain more = (refl, refl)
part_ended (x ∷ xs) plain more =
    let parts = plain_parts x xs plain in
    let on = through_on x ((xs ++ 10 ∷ []) ++ more) parts.0 in
    let rest = part_ended xs parts.1 more in
    (on.0 ∙ ap (λ (t : List ℕ). x ∷ t) rest.0, on.1 ∙ rest.1)

-- What a part makes.

length-more : (xs more : List ℕ) → 0 < length xs → 0 < length (xs ++ more)
length-more [] more some = absurd (omega (arith, some))
length-more (x ∷ xs) more some = omega arith

abbrev pub made : (ahead : ℤ → ℤ) (inside : Bool) → List ℕ → List ℕ
made ahead inside part = if inside then part else localised_line ahead part

pub Makes-inside : (ahead : ℤ → ℤ) (part : List ℕ) (ends : Bool) → IsPart part ends
    → Makes ahead true part part (not ends) []
Makes-inside ahead part true is = record { always = λ more. let p = is more in rw (p.0, p.1) refl }
Makes-inside ahead part false is =
    record { always = λ more. let p = is more in rw (p.0, p.1) (append_assoc part (take_through 10 more) _) }

pub Makes-line : (ahead : ℤ → ℤ) (part : List ℕ) → 0 < length part → IsPart part true
    → Makes ahead false part (localised_line ahead part) false []
Makes-line ahead part some is = record {
  always = λ more.
      let p = is more in
      localised-parts ahead (part ++ more) (length-more part more some)
      ∙ ap (λ (t : List ℕ). localised_line ahead t ++ localised ahead (drop_through 10 (part ++ more))) p.0
      ∙ ap (λ (t : List ℕ). localised_line ahead part ++ localised ahead t) p.1;
}

pub Makes-front : (ahead : ℤ → ℤ) (part : List ℕ) → 0 < length part → is_open part ≡ false → IsPart part false
    → Makes ahead false part (localised_line ahead part) true []
Makes-front ahead part some shut is = record {
  always = λ more.
      let p = is more in
      localised-parts ahead (part ++ more) (length-more part more some)
      ∙ ap (λ (t : List ℕ). localised_line ahead t ++ localised ahead (drop_through 10 (part ++ more))) p.0
      ∙ ap (λ (t : List ℕ). t ++ localised ahead (drop_through 10 (part ++ more)))
      (localised_line-more ahead part (take_through 10 more) some shut)
      ∙ ap (λ (t : List ℕ). (localised_line ahead part ++ take_through 10 more) ++ localised ahead t) p.1
      ∙ append_assoc (localised_line ahead part) (take_through 10 more) (localised ahead (drop_through 10 more));
}

-- a part of a line, if it is known whether its beginning is a label
pub Makes-part : (ahead : ℤ → ℤ) (inside : Bool) (part : List ℕ) (ends : Bool) → 0 < length part → IsPart part ends
    → (inside ≡ false → ends ≡ false → is_open part ≡ false)
    → Makes ahead inside part (made ahead inside part) (not ends) []
Makes-part ahead true part ends some is shut = Makes-inside ahead part ends is
Makes-part ahead false part true some is shut = Makes-line ahead part some is
Makes-part ahead false part false some is shut = Makes-front ahead part some (shut refl refl) is

pub Makes-nothing : (ahead : ℤ → ℤ) (inside : Bool) → Makes ahead inside [] [] inside []
Makes-nothing ahead inside = record { always = λ more. refl }

pub Makes-then : {ahead : ℤ → ℤ} {a b c : Bool} {xs ys s t held : List ℕ} → Makes ahead a xs s b []
    → Makes ahead b ys t c held
    → Makes ahead a (xs ++ ys) (s ++ t) c held
Makes-then {ahead} {a} {b} {c} {xs} {ys} {s} {t} {held} first second = record {
  always = λ more.
      ap (passed ahead a) (append_assoc xs ys more) ∙ first.always (ys ++ more)
      ∙ ap (λ (u : List ℕ). s ++ u) (second.always more)
      ∙ sym (append_assoc s t (passed ahead c (held ++ more)));
}

-- Bytes after what was made may be held.
pub Makes-held : {ahead : ℤ → ℤ} {a b : Bool} {xs s : List ℕ} (held : List ℕ) → Makes ahead a xs s b []
    → Makes ahead a (xs ++ held) s b held
Makes-held {ahead} {a} {b} {xs} {s} held first = record {
  always = λ more.
      ap (passed ahead a) (append_assoc xs held more) ∙ first.always (held ++ more);
}

-- One part after another.

pub rest_is : (xs : List ℕ) (at n : ℕ) → take n (take (length xs - at) (drop at xs)) ≡ take n (drop at xs)
rest_is xs at n = ap (take n) (take_rest xs at)

pub Passes-further : {ahead : ℤ → ℤ} {a b c : Bool} {o m n : Option (List ℕ)} {p q r : List ℕ} (xs : List ℕ)
    (at len : ℕ) (t : List ℕ)
    → Passes ahead a (take at xs) b [] o m p q → Makes ahead b (take len (drop at xs)) t c [] → Emits m n q r t
    → Passes ahead a (take (at + len) xs) c [] o n p r
Passes-further {ahead} {a} {b} {c} {o} {m} {n} {p} {q} {r} xs at len t before makes puts = record {
  text = before.text ++ t;
  makes = subst (λ (ys : List ℕ). Makes ahead a ys (before.text ++ t) c []) (sym (take-add at len xs))
      (Makes-then before.makes makes);
  puts = Emits-then before.puts puts;
}

pub Passes-held : {ahead : ℤ → ℤ} {a b : Bool} {o n : Option (List ℕ)} {p r : List ℕ} (xs : List ℕ) (at : ℕ)
    → Passes ahead a (take at xs) b [] o n p r → Passes ahead a xs b (drop at xs) o n p r
Passes-held {ahead} {a} {b} {o} {n} {p} {r} xs at before = record {
  text = before.text;
  makes = subst (λ (ys : List ℕ). Makes ahead a ys before.text b (drop at xs)) (take-append-drop at xs)
      (Makes-held (drop at xs) before.makes);
  puts = before.puts;
}

shut_where : (ends inside unsure : Bool) → (not ends && not inside && unsure) ≡ false → inside ≡ false → ends ≡ false
    → unsure ≡ false
shut_where true inside unsure no_wait going ended = cc ended
shut_where false true unsure no_wait going ended = cc going
shut_where false false unsure no_wait going ended = no_wait

-- The first part of what is left of some bytes.
pub Makes-next : (ahead : ℤ → ℤ) (inside : Bool) (xs : List ℕ) (at len : ℕ) (ends : Bool) → at < length xs
    → len ≤ length (take (length xs - at) (drop at xs)) → (0 < length (take (length xs - at) (drop at xs)) → 0 < len)
    → IsPart (take len (take (length xs - at) (drop at xs))) ends
    → (ends ≡ false → len ≡ length (take (length xs - at) (drop at xs)))
    → (not ends && not inside && is_open (take (length xs - at) (drop at xs))) ≡ false
    → Makes ahead inside (take len (drop at xs)) (made ahead inside (take len (take (length xs - at) (drop at xs))))
    (not ends) []
Makes-next ahead inside xs at len ends below within some is whole no_wait =
    let rest : List ℕ = take (length xs - at) (drop at xs) in
    let size : length rest ≡ length xs - at =
    length-take-le (length xs - at) (drop at xs) (omega (arith, length-drop at xs)) in
    let most : length (take len rest) ≡ len = length-take-le len rest within in
    let more : 0 < len = some (omega (arith, size, below)) in
    subst (λ (part : List ℕ). Makes ahead inside part (made ahead inside (take len rest)) (not ends) [])
    (rest_is xs at len)
    (Makes-part ahead inside (take len rest) ends (omega (arith, most, more)) is
    (λ going ended. ap is_open (ap (λ (n : ℕ). take n rest) (whole ended) ∙ take-length rest)
    ∙ shut_where ends inside (is_open rest) no_wait going ended))

-- A part that was made is a front of what the bytes make.
pub Passes-failed : {ahead : ℤ → ℤ} {a b c : Bool} {o m n : Option (List ℕ)} {p q : List ℕ} (xs : List ℕ) (at len : ℕ)
    (t : List ℕ)
    → Passes ahead a (take at xs) b [] o m p q → Makes ahead b (take len (drop at xs)) t c []
    → AppendsFront m n (q ++ t)
    → AppendsFront o n (p ++ passed ahead a xs)
Passes-failed {ahead} {a} {b} {c} {o} {m} {n} {p} {q} xs at len t before makes failed =
    let rest = drop (at + len) xs in
    let both = Makes-then before.makes makes in
    let whole : passed ahead a xs ≡ (before.text ++ t) ++ passed ahead c rest =
    ap (passed ahead a) (sym (take-append-drop (at + len) xs) ∙ ap (λ (ys : List ℕ). ys ++ rest) (take-add at len xs))
    ∙ both.always rest in
    let front : AppendsFront o n (p ++ (before.text ++ t)) = Emits-front t before.puts failed in
    subst (λ (ys : List ℕ). AppendsFront o n (p ++ ys)) (sym whole)
    (AppendsFront-first p (before.text ++ t) (passed ahead c rest) front)

-- What is held at the end.

rest_by : (ahead : ℤ → ℤ) (x : ℕ) (xs : List ℕ) → IsPart (x ∷ xs) false
    → localised ahead (x ∷ xs) ≡ localised_line ahead (x ∷ xs)
rest_by ahead x xs is =
    let p = is [] in
    let whole : x ∷ xs ++ [] ≡ x ∷ xs = append-nil (x ∷ xs) in
    let line : take_through 10 (x ∷ xs) ≡ x ∷ xs = ap (take_through 10) (sym whole) ∙ p.0 ∙ whole in
    let none : drop_through 10 (x ∷ xs) ≡ [] = ap (drop_through 10) (sym whole) ∙ p.1 in
    localised-first ahead x xs
    ∙ ap (λ (t : List ℕ). localised_line ahead t ++ localised ahead (drop_through 10 (x ∷ xs))) line
    ∙ ap (λ (t : List ℕ). localised_line ahead (x ∷ xs) ++ localised ahead t) none
    ∙ append-nil (localised_line ahead (x ∷ xs))

rest_line : (ahead : ℤ → ℤ) (held : List ℕ) → IsPart held false → localised ahead held ≡ localised_line ahead held
rest_line ahead [] is = sym (localised_line-nothing ahead)
rest_line ahead (x ∷ xs) is = rest_by ahead x xs is

none_held : (ahead : ℤ → ℤ) (inside : Bool) → passed ahead inside [] ≡ localised_line ahead []
none_held ahead true = sym (localised_line-nothing ahead)
none_held ahead false = sym (localised_line-nothing ahead)

pub held_end : (ahead : ℤ → ℤ) (inside : Bool) (held : List ℕ) → IsHeld inside held
    → passed ahead inside held ≡ localised_line ahead held
held_end ahead inside held (inl none) = rw none (none_held ahead inside)
held_end ahead inside held (inr is) = rw (is.0) (rest_line ahead held is.1)

-- What a search for a newline found.

pub found_part : (xs : List ℕ) (k : ℕ) → NoneBefore (Finds (is_byte 10) xs) 0 (length xs) k → Finds (is_byte 10) xs k
    → IsPart (take (k + 1) xs) true
found_part xs k first is =
    let ten : get_or xs k 0 ≡ 10 = eqb-true _ _ is in
    let whole : take (k + 1) xs ≡ take k xs ++ 10 ∷ [] = take_more xs k 0 first.high
    ∙ ap (λ (x : ℕ). take k xs ++ x ∷ []) ten in
    let front = length-take-le k xs (let h = first.high in omega (arith, h)) in
    let plain : IsPlain (take k xs) = plain_where_none (take k xs) (λ j h.
    let before : j < k = omega (arith, h, front) in
    λ ten_there. first.before j (omega arith) before (ap (λ (x : ℕ). x == 10) (sym (get_or-take k xs j 0 before))
    ∙ ten_there)) in
    subst (λ (part : List ℕ). IsPart part true) (sym whole) (part_ended (take k xs) plain)

pub none_part : (xs : List ℕ) → Nowhere (Finds (is_byte 10) xs) 0 (length xs) → IsPart (take (length xs) xs) false
none_part xs none = subst (λ (part : List ℕ). IsPart part false) (sym (take-length xs))
    (part_plain xs (none_found xs none))
