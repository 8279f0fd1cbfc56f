-- A number before a space.
use Rattle.std.proofs.Common.{◌≡◌, ℕ, ◌==◌, ◌<◌, ◌^◌, ◌+◌, Bool, true, false, not, List, [], ◌∷◌, ◌++◌, suc, length}
use Rattle.std.proofs.Common.{take, drop, refl, sym, ap, ◌∙◌, arith, decimal, position, Some, Option, ◌-◌}
use Rattle.std.proofs.Common.{append_assoc, length-append, length-drop}
use Rattle.std.proofs.Math.Seq.{take-length}
use Rattle.std.specs.List.{list_all, position_or_len}
use Rattle.sup_core.proofs.Lines.{avoids, avoids-solid, decimal-solid}

stops : (word rest : List ℕ) → avoids 32 word ≡ true → position_or_len (λ byte. byte == 32) (word ++ 32 ∷ rest)
    ≡ length word
stops [] rest h = refl
stops (x ∷ xs) rest h = grind (arith, stops xs rest, h)

-- The first space ends the number.
pub space_behind : (number : ℕ) (rest text : List ℕ) → text ≡ decimal number ++ 32 ∷ rest
    → position (λ byte. byte == 32) text ≡ Some (length (decimal number))
space_behind number rest text is =
    let stop = stops (decimal number) rest (avoids-solid 32 (decimal number) (omega arith) (decimal-solid number)) in
    let longer = length-append (decimal number) (32 ∷ rest) in
    grind (arith, is, stop, longer)

before : (word rest : List ℕ) → take (length word) (word ++ rest) ≡ word
before [] rest = refl
before (x ∷ xs) rest = ap (λ (ys : List ℕ). x ∷ ys) (before xs rest)

behind : (word : List ℕ) (space : ℕ) (rest : List ℕ) → drop (suc (length word)) (word ++ space ∷ rest) ≡ rest
behind [] space rest = refl
behind (x ∷ xs) space rest = behind xs space rest

-- the number comes before the first space
pub number_before : (number : ℕ) (rest text : List ℕ) (at : ℕ) → text ≡ decimal number ++ 32 ∷ rest
    → Some at ≡ position (λ byte. byte == 32) text → take at text ≡ decimal number
number_before number rest text at is place =
    let same : at ≡ length (decimal number) = let e = place ∙ space_behind number rest text is in cc e in
    rw (same, is) (before (decimal number) (32 ∷ rest))

-- the rest comes after it
pub rest_behind : (number : ℕ) (rest text : List ℕ) (at : ℕ) → text ≡ decimal number ++ 32 ∷ rest
    → Some at ≡ position (λ byte. byte == 32) text → take (length text - (at + 1)) (drop (at + 1) text) ≡ rest
rest_behind number rest text at is place =
    let same : at ≡ length (decimal number) = let e = place ∙ space_behind number rest text is in cc e in
    let all : take (length text - (at + 1)) (drop (at + 1) text) ≡ drop (at + 1) text =
    rw (← length-drop (at + 1) text) (take-length (drop (at + 1) text)) in
    let next : at + 1 ≡ suc (length (decimal number)) = omega (arith, same) in
    all ∙ rw (next, is) (behind (decimal number) 32 rest)

-- words before spaces, and what comes after them
pub two_in_front : (first second space rest : List ℕ)
    → first ++ space ++ second ++ space ++ rest ≡ first ++ (space ++ (second ++ (space ++ rest)))
two_in_front first second space rest =
    append_assoc (first ++ space ++ second) space rest ∙ append_assoc (first ++ space) second (space ++ rest)
    ∙ append_assoc first space (second ++ (space ++ rest))

pub one_in_front : (first space second rest : List ℕ)
    → first ++ space ++ second ++ rest ≡ first ++ (space ++ (second ++ rest))
one_in_front first space second rest =
    append_assoc (first ++ space) second rest ∙ append_assoc first space (second ++ rest)
