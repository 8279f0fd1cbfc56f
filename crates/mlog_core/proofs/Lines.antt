-- Lines, and what they give.
use Rattle.std.proofs.Common.{◌≡◌, ℕ, ◌+◌, ◌<◌, ◌==◌, nat_le, if◌then◌else◌, Bool, true, false, not, List, [], ◌∷◌}
use Rattle.std.proofs.Common.{◌++◌, length, take, drop, refl, sym, subst, ap, ◌∙◌, arith, append_assoc, append-nil}
use Rattle.std.proofs.Common.{length-append}
use Rattle.std.proofs.Math.Seq.{take-append-add, take-length}
use Rattle.std.proofs.lemmas.List.{length-take}
use Rattle.hex.specs.Hex.{lower_digits}
use Rattle.hex.proofs.HexLemmas.{length-encode_with}
use Rattle.tai_status.specs.Label.{Tai64n, label_text, packed}
use Rattle.tai_status.specs.Lines.{stamp, texts_of}
use Rattle.tai_status.specs.LineReader.{IsPlain}
use Rattle.tai_status.proofs.Texts.{texts_of-line, texts_of-last}
use Rattle.mlog_script.specs.Script.{Act}
use Rattle.mlog_script.specs.Selection.{stamps, shown, chosen_line, to_log, to_alerts, to_file, by_line, is_whole}
use Rattle.mlog_script.proofs.Texts.{comes_in_turn}
use Rattle.mlog_line.specs.Given.{Given, nothing, joined, of_line, of_text, so_far, to_logs}
use Rattle.mlog_line.specs.Outputs.{SameGiven}
use Rattle.mlog_line.proofs.Fronts.{line_ends, kept_so_far}

-- Plain bytes

pub plain_both : (xs ys : List ℕ) → IsPlain xs → IsPlain ys → IsPlain (xs ++ ys)
plain_both [] ys a b = b
plain_both (x ∷ xs) ys a b =
    let here : (x == 10) ≡ false = grind (arith, a) in
    let rest : IsPlain xs = grind (arith, a) in
    rw here (plain_both xs ys rest b)

pub whole_end : (xs : List ℕ) → is_whole (xs ++ 10 ∷ []) ≡ true
whole_end [] = refl
whole_end (x ∷ []) = refl
whole_end (x ∷ y ∷ ys) = whole_end (y ∷ ys)

pub whole_both : (xs ys : List ℕ) → is_whole xs ≡ true → is_whole ys ≡ true → is_whole (xs ++ ys) ≡ true
whole_both [] ys a b = b
whole_both (x ∷ []) [] a b = a
whole_both (x ∷ []) (y ∷ ys) a b = b
whole_both (x ∷ z ∷ zs) ys a b = whole_both (z ∷ zs) ys a b

pub cut_one : (xs : List ℕ) (k : ℕ) → k < length xs → xs ≡ take k xs ++ 10 ∷ drop (k + 1) xs
    → take (k + 1) xs ≡ take k xs ++ 10 ∷ []
cut_one xs k within e =
    let long : length (take k xs) ≡ k = let l = length-take k xs in omega (arith, l, within) in
    let r = drop (k + 1) xs in
    let one : take (length (take k xs) + 1) (take k xs ++ 10 ∷ r) ≡ take k xs ++ 10 ∷ [] =
    take-append-add (take k xs) (10 ∷ r) 1 in
    ap (take (k + 1)) e ∙ ap (λ (n : ℕ). take (n + 1) (take k xs ++ 10 ∷ r)) (sym long) ∙ one

-- What a line gives

no_labels : {X : Type 0} (work : Tai64n → List ℕ → List X) (lines : List (List ℕ)) → by_line work [] lines ≡ []
no_labels work [] = refl
no_labels work (line ∷ lines) = refl

first_of : {X : Type 0} (work : Tai64n → List ℕ → List X) (label : Tai64n) (line rest : List ℕ) → IsPlain line
    → work label line ≡ by_line work (label ∷ []) (texts_of (line ++ 10 ∷ rest))
first_of work label line rest plain =
    sym (ap (by_line work (label ∷ [])) (texts_of-line line rest plain)
    ∙ ap (λ t. work label line ++ t) (no_labels work (texts_of rest)) ∙ append-nil (work label line))

last_of : {X : Type 0} (work : Tai64n → List ℕ → List X) (label : Tai64n) (line : List ℕ) → 0 < length line
    → IsPlain line
    → work label line ≡ by_line work (label ∷ []) (texts_of line)
last_of work label line some plain =
    sym (ap (by_line work (label ∷ [])) (texts_of-last line some plain) ∙ append-nil (work label line))

pub first_line : (script : List Act) (label : Tai64n) (line rest : List ℕ) → IsPlain line
    → SameGiven (of_line script label line) (of_text script (label ∷ []) (line ++ 10 ∷ rest))
first_line script label line rest plain = record {
  logs = λ log. first_of (to_log script log) label line rest plain;
  alerts = first_of (to_alerts script) label line rest plain;
  files = λ file. first_of (to_file script file) label line rest plain;
}

pub last_line : (script : List Act) (label : Tai64n) (line : List ℕ) → 0 < length line → IsPlain line
    → SameGiven (of_line script label line) (of_text script (label ∷ []) line)
last_line script label line some plain = record {
  logs = λ log. last_of (to_log script log) label line some plain;
  alerts = last_of (to_alerts script) label line some plain;
  files = λ file. last_of (to_file script file) label line some plain;
}

-- Whole lines, and other bytes after them.
pub text_turn : (script : List Act) (names more : List Tai64n) (whole rest : List ℕ) → is_whole whole ≡ true
    → length names ≡ length (texts_of whole)
    → SameGiven (joined (of_text script names whole) (of_text script more rest))
    (of_text script (names ++ more) (whole ++ rest))
text_turn script names more whole rest is each = record {
  logs = λ log. sym (comes_in_turn (to_log script log) names more whole rest is each);
  alerts = sym (comes_in_turn (to_alerts script) names more whole rest is each);
  files = λ file. sym (comes_in_turn (to_file script file) names more whole rest is each);
}

-- What a line is yet to give.
pub record Ahead (script : List Act) (label : Tai64n) (line : List ℕ) : Type 0 where
  pub rest : Given
  pub whole : SameGiven (joined (so_far script label line) rest) (of_line script label line)

ahead_by : (script : List Act) (label : Tai64n) (line : List ℕ) (b : Bool)
    → nat_le 1000 (length (shown script label line)) ≡ b → Ahead script label line
ahead_by script label line true e = record {
  rest = to_logs (chosen_line script label line).logs label (10 ∷ []);
  whole = rw e (line_ends script label line);
}
ahead_by script label line false e = record {
  rest = of_line script label line;
  whole = rw e (record { logs = λ log. refl; alerts = refl; files = λ file. refl });
}

pub ahead : (script : List Act) (label : Tai64n) (line : List ℕ) → Ahead script label line
ahead script label line = ahead_by script label line (nat_le 1000 (length (shown script label line))) refl

-- A line that has no byte yet has given nothing.
short_by : (b : Bool) (label : Tai64n) → length (if b then stamp label ++ [] else []) < 1000
unfolding stamp
short_by true label =
    let digits = length-encode_with lower_digits (packed label) in
    let twelve : length (packed label) ≡ 12 = refl in
    let l = length-append (label_text label ++ 32 ∷ []) [] in
    let m = length-append (label_text label) (32 ∷ []) in
    omega (arith, digits, twelve, l, m)
short_by false label = omega arith

pub begun_nothing : (script : List Act) (label : Tai64n) → nothing ≡ so_far script label []
begun_nothing script label = kept_so_far script label [] (shown script label []) refl (short_by (stamps script) label)

-- The line that contains these bytes, up to its newline or their end.
line_by : (script : List Act) (label : Tai64n) (line text bytes rest : List ℕ) → IsPlain line → IsPlain text
    → bytes ≡ text ++ 10 ∷ rest
    → SameGiven (of_line script label (line ++ text)) (of_text script (label ∷ []) (line ++ bytes))
line_by script label line text bytes rest a b e =
    subst (λ (t : List ℕ). SameGiven (of_line script label (line ++ text)) (of_text script (label ∷ []) t))
    (append_assoc line text (10 ∷ rest) ∙ ap (λ (t : List ℕ). line ++ t) (sym e))
    (first_line script label (line ++ text) rest (plain_both line text a b))

pub text_line : (script : List Act) (label : Tai64n) (line bytes : List ℕ) (len : ℕ) (ends b : Bool) → ends ≡ b
    → IsPlain line → IsPlain (take len bytes) → 0 < length bytes
    → (ends ≡ true → (len < length bytes) × (bytes ≡ take len bytes ++ 10 ∷ drop (len + 1) bytes))
    → (ends ≡ false → len ≡ length bytes)
    → SameGiven (of_line script label (line ++ take len bytes)) (of_text script (label ∷ []) (line ++ bytes))
text_line script label line bytes len ends true e a plain some newline none =
    line_by script label line (take len bytes) bytes (drop (len + 1) bytes) a plain (newline e).1
text_line script label line bytes len ends false e a plain some newline none =
    let same : take len bytes ≡ bytes = ap (λ (n : ℕ). take n bytes) (none e) ∙ take-length bytes in
    let l = length-append line bytes in
    subst (λ (t : List ℕ). SameGiven (of_line script label (line ++ t)) (of_text script (label ∷ []) (line ++ bytes)))
    (sym same)
    (last_line script label (line ++ bytes) (omega (arith, l, some))
    (plain_both line bytes a (subst (λ (t : List ℕ). IsPlain t) same plain)))

pub not_false : (b : Bool) → not b ≡ false → b ≡ true
not_false true e = refl
not_false false e = absurd cc
