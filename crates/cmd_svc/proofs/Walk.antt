-- One step along letters, and along words.
use Rattle.std.proofs.Common.{◌≡◌, refl, sym, ◌∙◌, ap, ℕ, ◌<◌, ◌+◌, true, List, [], ◌∷◌, ◌++◌, append_assoc, length}
use Rattle.std.proofs.Common.{get_or, map, take, drop, Bor, Result, Ok, Err, arith}
use Rattle.std.specs.Prelude.{Option, Some, None, MatchOption, IsOk, if◌then◌else◌}
use Rattle.std.proofs.Math.Seq.{drop-cons}
use Rattle.std.proofs.lemmas.Grind.{common_steps}
use Rattle.std.proofs.lemmas.List.{take_more}
use Rattle.sup_core.specs.History.{is_among}
use Rattle.sup_core.specs.Rules.{is_letter}
use Rattle.cmd_svc.specs.Words.{is_option, option_letters, first_unknown, without_earlier}
use Rattle.cmd_svc.specs.declared.order.SvcFault.{SvcFault}
use Rattle.cmd_svc.specs.declared.order.SvcFault.TheVariants.{UnknownLetter}
use Rattle.cmd_svc.proofs.Earlier.{added}

-- A known letter is passed.
pub known_here : (letters : List ℕ) (i : ℕ) → i < length letters → is_letter (get_or letters i 0) ≡ true
    → first_unknown (drop (i + 1) letters) ≡ first_unknown (drop i letters)
known_here letters i within known = let e = drop-cons letters i 0 within in grind (arith, common_steps, e)

-- The next letter is added at the end, unless it is already there.
pub added_next : (before letters now new : List ℕ) (i : ℕ) → i < length letters
    → now ≡ without_earlier (before ++ take i letters)
    → new ≡ (if is_among now (get_or letters i 0) then now else now ++ get_or letters i 0 ∷ [])
    → new ≡ without_earlier (before ++ take (i + 1) letters)
added_next before letters now new i within e put =
    let more = take_more letters i 0 within in
    let step = added (before ++ take i letters) (get_or letters i 0) in
    let joined = append_assoc before (take i letters) (get_or letters i 0 ∷ []) in
    grind (arith, common_steps, more, step, joined)

-- The letters from an option word on are its own letters and those of the words after it.
pub option_here : (words : List (Bor (List ℕ))) (i : ℕ) (d : Bor (List ℕ)) → i < length words
    → is_option (get_or words i d).now ≡ true
    → option_letters (map (λ word. word.now) (drop i words))
    ≡ drop 1 (get_or words i d).now ++ option_letters (map (λ word. word.now) (drop (i + 1) words))
option_here words i d within option = let e = drop-cons words i d within in grind (arith, common_steps, e)

-- If all of the first are known, the first unknown one is among the others.
pub unknown_later : (first others : List ℕ) → first_unknown first ≡ None → first_unknown (first ++ others)
    ≡ first_unknown others
unknown_later [] others none = refl
unknown_later (letter ∷ first) others none = grind (arith, common_steps, unknown_later first others)

-- The first unknown one among the first letters is the first of all.
pub unknown_before : (first others : List ℕ) (letter : ℕ) → first_unknown first ≡ Some letter
    → first_unknown (first ++ others) ≡ Some letter
unknown_before [] others letter some = grind (arith, common_steps)
unknown_before (x ∷ first) others letter some = grind (arith, common_steps, unknown_before first others letter)

-- Letters that were refused: their first unknown one was reported.
pub reported : (unknown : Option ℕ) (r : Result Unit SvcFault) (e : SvcFault)
    → MatchOption unknown (IsOk r) (λ letter. r ≡ Err (UnknownLetter letter)) → r ≡ Err e
    → (letter : ℕ) × (unknown ≡ Some letter) × (e ≡ UnknownLetter letter)
reported None r e cases refused = absurd (grind (arith, common_steps))
reported (Some letter) r e cases refused = (letter, refl, cc)

-- Letters that were accepted: none is unknown.
pub taken : (unknown : Option ℕ) (r : Result Unit SvcFault) (x : Unit)
    → MatchOption unknown (IsOk r) (λ letter. r ≡ Err (UnknownLetter letter)) → r ≡ Ok x → unknown ≡ None
taken None r x cases fine = refl
taken (Some letter) r x cases fine = cc

-- An option word's letters were refused: the first unknown letter of all was reported.
pub reported_first : (words : List (Bor (List ℕ))) (i : ℕ) (d : Bor (List ℕ)) (letters : List ℕ)
    (r : Result Unit SvcFault)
    (e : SvcFault)
    → i < length words → is_option (get_or words i d).now ≡ true → letters ≡ drop 1 (get_or words i d).now
    → first_unknown (option_letters (map (λ word. word.now) (drop i words)))
    ≡ first_unknown (option_letters (map (λ word. word.now) words))
    → MatchOption (first_unknown letters) (IsOk r) (λ letter. r ≡ Err (UnknownLetter letter)) → r ≡ Err e
    → (letter : ℕ) × (first_unknown (option_letters (map (λ word. word.now) words)) ≡ Some letter)
    × (e ≡ UnknownLetter letter)
reported_first words i d letters r e within option own same cases refused =
    let fault = reported (first_unknown letters) r e cases refused in
    let rest = option_letters (map (λ word. word.now) (drop (i + 1) words)) in
    let first = unknown_before (drop 1 (get_or words i d).now) rest fault.0 (ap first_unknown (sym own) ∙ fault.1) in
    (fault.0, sym same ∙ ap first_unknown (option_here words i d within option) ∙ first, fault.2)

-- An option word's letters were accepted: the first unknown letter comes later.
pub taken_first : (words : List (Bor (List ℕ))) (i : ℕ) (d : Bor (List ℕ)) (letters : List ℕ) (r : Result Unit SvcFault)
    (x : Unit)
    → i < length words → is_option (get_or words i d).now ≡ true → letters ≡ drop 1 (get_or words i d).now
    → MatchOption (first_unknown letters) (IsOk r) (λ letter. r ≡ Err (UnknownLetter letter)) → r ≡ Ok x
    → first_unknown (option_letters (map (λ word. word.now) (drop (i + 1) words)))
    ≡ first_unknown (option_letters (map (λ word. word.now) (drop i words)))
taken_first words i d letters r x within option own cases fine =
    let rest = option_letters (map (λ word. word.now) (drop (i + 1) words)) in
    let later = unknown_later (drop 1 (get_or words i d).now) rest (ap first_unknown (sym own)
    ∙ taken (first_unknown letters) r x cases fine) in
    sym later ∙ ap first_unknown (sym (option_here words i d within option))

-- Its letters are those that come next.
pub letters_next : (words : List (Bor (List ℕ))) (i : ℕ) (d : Bor (List ℕ)) (letters before all : List ℕ)
    → i < length words → is_option (get_or words i d).now ≡ true → letters ≡ drop 1 (get_or words i d).now
    → before ++ option_letters (map (λ word. word.now) (drop i words)) ≡ all
    → (before ++ letters) ++ option_letters (map (λ word. word.now) (drop (i + 1) words)) ≡ all
letters_next words i d letters before all within option own e =
    let rest = option_letters (map (λ word. word.now) (drop (i + 1) words)) in
    append_assoc before letters rest ∙ ap (λ own_letters. before ++ (own_letters ++ rest)) own
    ∙ ap (λ letters_here. before ++ letters_here) (sym (option_here words i d within option)) ∙ e
