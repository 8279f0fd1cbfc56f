-- The lines of a text, one after another.
use Rattle.std.proofs.Common.{◌≡◌, ℕ, ◌<◌, ◌==◌, Bool, true, false, List, [], ◌∷◌, ◌++◌, length, refl, ap, ◌∙◌, arith}
use Rattle.std.specs.List.{onto_first}
use Rattle.tai_status.specs.LineReader.{IsPlain}
use Rattle.std.specs.Prelude.{flat_map, map}
use Rattle.std.proofs.lemmas.Bool.{eqb-true}
use Rattle.tai_status.specs.Lines.{lines_of, texts_of, without_newline}

plain_parts : (x : ℕ) (xs : List ℕ) → IsPlain (x ∷ xs) → ((x == 10) ≡ false) × IsPlain xs
plain_parts x xs plain = (grind (arith, plain), grind (arith, plain))

texts_of-on : (x : ℕ) (xs : List ℕ) → (x == 10) ≡ false → texts_of (x ∷ xs) ≡ onto_first x (texts_of xs)
texts_of-on x xs apart = grind (arith, apart)

-- The first line of a text, and the lines after its newline.
pub texts_of-line : (line rest : List ℕ) → IsPlain line → texts_of (line ++ 10 ∷ rest) ≡ line ∷ texts_of rest
texts_of-line [] rest plain = refl
texts_of-line (x ∷ xs) rest plain =
    let parts = plain_parts x xs plain in
    texts_of-on x (xs ++ 10 ∷ rest) parts.0 ∙ ap (onto_first x) (texts_of-line xs rest parts.1)

-- The last line of a text, if it has no newline.
pub texts_of-last : (line : List ℕ) → 0 < length line → IsPlain line → texts_of line ≡ line ∷ []
texts_of-last [] some plain = absurd (omega (arith, some))
texts_of-last (x ∷ []) some plain = texts_of-on x [] (plain_parts x [] plain).0
texts_of-last (x ∷ y ∷ ys) some plain =
    let parts = plain_parts x (y ∷ ys) plain in
    texts_of-on x (y ∷ ys) parts.0 ∙ ap (onto_first x) (texts_of-last (y ∷ ys) (omega arith) parts.1)

joined-onto : (x : ℕ) (lines : List (List ℕ)) → flat_map (λ (l : List ℕ). l) (onto_first x lines)
    ≡ x ∷ flat_map (λ (l : List ℕ). l) lines
joined-onto x [] = refl
joined-onto x (line ∷ lines) = refl

whole_by : (x : ℕ) (xs : List ℕ) (ends : Bool) → (x == 10) ≡ ends → flat_map (λ (l : List ℕ). l) (lines_of xs) ≡ xs
    → flat_map (λ (l : List ℕ). l) (lines_of (x ∷ xs)) ≡ x ∷ xs
whole_by x xs true e rest = let ten : x ≡ 10 = eqb-true _ _ e in rw (e, rest, ten) refl
whole_by x xs false e rest = rw (e, joined-onto x (lines_of xs), rest) refl

-- The lines of a text, joined, are the text.
pub lines_of-whole : (text : List ℕ) → flat_map (λ (l : List ℕ). l) (lines_of text) ≡ text
lines_of-whole [] = refl
lines_of-whole (x ∷ xs) = whole_by x xs (x == 10) refl (lines_of-whole xs)

lines_of-on : (x : ℕ) (xs : List ℕ) → (x == 10) ≡ false → lines_of (x ∷ xs) ≡ onto_first x (lines_of xs)
lines_of-on x xs apart = grind (arith, apart)

-- The first line of a text, with its newline, and the lines after it.
pub lines_of-line : (line rest : List ℕ) → IsPlain line → lines_of (line ++ 10 ∷ rest) ≡ (line ++ 10 ∷ [])
    ∷ lines_of rest
lines_of-line [] rest plain = refl
lines_of-line (x ∷ xs) rest plain =
    let parts = plain_parts x xs plain in
    lines_of-on x (xs ++ 10 ∷ rest) parts.0 ∙ ap (onto_first x) (lines_of-line xs rest parts.1)

-- The last line of a text, if it has no newline.
pub lines_of-last : (line : List ℕ) → 0 < length line → IsPlain line → lines_of line ≡ line ∷ []
lines_of-last [] some plain = absurd (omega (arith, some))
lines_of-last (x ∷ []) some plain = lines_of-on x [] (plain_parts x [] plain).0
lines_of-last (x ∷ y ∷ ys) some plain =
    let parts = plain_parts x (y ∷ ys) plain in
    lines_of-on x (y ∷ ys) parts.0 ∙ ap (onto_first x) (lines_of-last (y ∷ ys) (omega arith) parts.1)

kept : (x : ℕ) (line : List ℕ) → (x == 10) ≡ false → without_newline (x ∷ line) ≡ x ∷ without_newline line
kept x line apart = rw apart refl

texts-onto : (x : ℕ) (lines : List (List ℕ)) → (x == 10) ≡ false → map without_newline (onto_first x lines)
    ≡ onto_first x (map without_newline lines)
texts-onto x [] apart = ap (λ (t : List ℕ). t ∷ []) (kept x [] apart)
texts-onto x (line ∷ lines) apart = ap (λ (t : List ℕ). t ∷ map without_newline lines) (kept x line apart)

texts_by : (x : ℕ) (xs : List ℕ) (ends : Bool) → (x == 10) ≡ ends → texts_of xs ≡ map without_newline (lines_of xs)
    → texts_of (x ∷ xs) ≡ map without_newline (lines_of (x ∷ xs))
texts_by x xs true e rest = rw (e, rest) refl
texts_by x xs false e rest = rw (e, texts-onto x (lines_of xs) e, rest) refl

-- The texts of lines are the lines without their newlines.
pub texts_of-lines : (text : List ℕ) → texts_of text ≡ map without_newline (lines_of text)
texts_of-lines [] = refl
texts_of-lines (x ∷ xs) = texts_by x xs (x == 10) refl (texts_of-lines xs)
