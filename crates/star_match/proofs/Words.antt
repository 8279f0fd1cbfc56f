-- Words, which have no star, take themselves.
use Rattle.std.proofs.Common.{◌≡◌, ℕ, List, [], ◌∷◌, ◌++◌, refl, sym, subst, ap, ◌∙◌, append_assoc}
use Rattle.std.proofs.lemmas.Bool.{eqb-false}
use Rattle.std.proofs.lemmas.List.{append-nil}
use Rattle.star_match.specs.Star.{star, IsWithout, Matches, empty, byte_first, star_last, star_before}
use Rattle.star_match.proofs.Stars.{without_parts, byte_first_of, star_before_of}

-- A word and a rest match the word followed by a text that the rest matches.
pub word_then : (word rest after : List ℕ) → IsWithout star word → Matches rest after
    → Matches (word ++ rest) (word ++ after)
word_then [] rest after clean m = m
word_then (byte ∷ word) rest after clean m =
    let parts = without_parts star byte word clean in
    byte_first (eqb-false byte star parts.0) (word_then word rest after parts.1 m)

pub word_then_of : (word rest text : List ℕ) → IsWithout star word → Matches (word ++ rest) text
    → (after : List ℕ) × (text ≡ word ++ after) × Matches rest after
word_then_of [] rest text clean m = (text, refl, m)
word_then_of (byte ∷ word) rest text clean m =
    let parts = without_parts star byte word clean in
    let first = byte_first_of m parts.0 in
    let later = word_then_of word rest first.0 parts.1 first.2 in
    (later.0, first.1 ∙ ap (λ (t : List ℕ). byte ∷ t) later.1, later.2)

nothing_matches : {text : List ℕ} → Matches [] text → text ≡ []
nothing_matches empty = refl

pub word_is : (word text : List ℕ) → IsWithout star word → Matches word text → text ≡ word
word_is word text clean m =
    let found = word_then_of word [] text clean (subst (λ (p : List ℕ). Matches p text) (sym (append-nil word)) m) in
    found.1 ∙ ap (λ (t : List ℕ). word ++ t) (nothing_matches found.2) ∙ append-nil word

pub word_itself : (word : List ℕ) → IsWithout star word → Matches word word
word_itself word clean =
    let m = word_then word [] [] clean empty in
    subst (λ (w : List ℕ). Matches w w) (append-nil word) m

pub found_at_first : (c : ℕ) (rest text : List ℕ) → IsWithout star (c ∷ rest)
    → Matches (star ∷ (c ∷ rest) ++ star ∷ []) text
    → (front after : List ℕ) × IsWithout c front × (text ≡ front ++ (c ∷ rest) ++ after)
found_at_first c rest text clean m =
    let cut = star_before_of m refl in
    let word = word_then_of (c ∷ rest) (star ∷ []) cut.1 clean cut.4 in
    (cut.0, word.0, cut.2, cut.3 ∙ ap (λ (t : List ℕ). cut.0 ++ t) word.1 ∙ sym (append_assoc cut.0 (c ∷ rest) word.0))

pub matched_at_first : (c : ℕ) (rest front after : List ℕ) → IsWithout star (c ∷ rest) → IsWithout c front
    → Matches (star ∷ (c ∷ rest) ++ star ∷ []) (front ++ (c ∷ rest) ++ after)
matched_at_first c rest front after clean before =
    rw append_assoc (star_before front before (word_then (c ∷ rest) (star ∷ []) after clean (star_last after)))
