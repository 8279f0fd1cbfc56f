-- The pairs of a pattern, and of the texts that it matches.
use Rattle.std.proofs.Common.{◌≡◌, ℕ, ◌<◌, ◌≤◌, ◌+◌, ◌*◌, ◌==◌, ◌&&◌, ◌⊎◌, inl, inr, Bool, true, false, List, [], ◌∷◌}
use Rattle.std.proofs.Common.{◌++◌, length, get_or, set, Some, refl, sym, subst, ap, ◌∙◌, arith, get_or-set_same}
use Rattle.std.proofs.Common.{get_or-set_other, ◌-◌, take, drop}
use Rattle.std.specs.Prelude.{slice_get}
use Rattle.std.proofs.lemmas.Bool.{and_parts, and_from, eqb-true, eqb-false, eq-eqb, ne_eqb, false≢true}
use Rattle.std.proofs.lemmas.Option.{get_or_from_slice_get, slice_get-get_or, slice_get_within}
use Rattle.std.proofs.Math.Nat.{mod-lt}
use Rattle.std.proofs.lemmas.List.{length-set, take_rest}
use Rattle.star_match.specs.Star.{star, is_star, Matches, empty, byte_first, star_last, star_before, star_matches}
use Rattle.star_match.specs.Pairs.{has_pair, pair_place, HasPlaces, IsNeed, AreNeeds}
use Rattle.star_match.specs.declared.pairs.TheConstants.{NO_PAIR}
use Rattle.star_match.specs.declared.pairs.Needs.{Needs}
use Rattle.star_match.proofs.Stars.{byte_first_of}
use Rattle.star_match.proofs.Computed.{finds}
use Rattle.star_match.proofs.Adjacent.{or_later}

-- bytes that begin with a pair, or have it after their first byte
pub pair_cases : (a b x y : ℕ) (rest : List ℕ) → has_pair a b (x ∷ y ∷ rest) ≡ true
    → ((x ≡ a) × (y ≡ b)) ⊎ (has_pair a b (y ∷ rest) ≡ true)
pair_cases a b x y rest has =
    elim ((x == a) && (y == b)) as (λ t. ((x == a) && (y == b)) ≡ t
    → ((x ≡ a) × (y ≡ b)) ⊎ (has_pair a b (y ∷ rest) ≡ true)) [
      | true ↦ λ here.
          let both = and_parts (x == a) (y == b) here in inl (eqb-true x a both.0, eqb-true y b both.1)
      | false ↦ λ other. inr (rw other at has)
    ] refl

pub pair_first : (a b : ℕ) (rest : List ℕ) → has_pair a b (a ∷ b ∷ rest) ≡ true
pair_first a b rest = rw (eq-eqb a a refl, eq-eqb b b refl) refl

pub pair_later : (a b x : ℕ) (text : List ℕ) → has_pair a b text ≡ true → has_pair a b (x ∷ text) ≡ true
pair_later a b x [] has = absurd (false≢true has)
pair_later a b x (y ∷ text) has = or_later ((x == a) && (y == b)) _ has

pair_after : (a b : ℕ) (part text : List ℕ) → has_pair a b text ≡ true → has_pair a b (part ++ text) ≡ true
pair_after a b [] text has = has
pair_after a b (x ∷ part) text has = pair_later a b x (part ++ text) (pair_after a b part text has)

-- A text that a pattern matches has the pattern's pairs.
pub pairs_stand : {pattern text : List ℕ} → Matches pattern text → (a b : ℕ) → is_star a ≡ false → is_star b ≡ false
    → has_pair a b pattern ≡ true → has_pair a b text ≡ true
pairs_stand empty a b plain also has = absurd (false≢true has)
pairs_stand (byte_first {byte} {rest = []} other m) a b plain also has = absurd (false≢true has)
pairs_stand (byte_first {byte} {rest = y ∷ rest} {text} other m) a b plain also has = elim (pair_cases a b byte y rest has) [
  | inl same ↦
      let next = byte_first_of m (ap is_star same.1 ∙ also) in
      let begins : byte ∷ text ≡ a ∷ b ∷ next.0 =
      ap (λ (x : ℕ). x ∷ text) same.0 ∙ ap (λ (t : List ℕ). a ∷ t) (next.1 ∙ ap (λ (x : ℕ). x ∷ next.0) same.1) in
      subst (λ (t : List ℕ). has_pair a b t ≡ true) (sym begins) (pair_first a b next.0)
  | inr later ↦ pair_later a b byte text (pairs_stand m a b plain also later)
]
pairs_stand (star_last text) a b plain also has = absurd (false≢true has)
pairs_stand (star_before {c} {rest} {text} part clean m) a b plain also has = elim (pair_cases a b star c rest has) [
  | inl same ↦ absurd (false≢true (sym plain ∙ ap is_star (sym same.0)))
  | inr later ↦ pair_after a b part text (pairs_stand m a b plain also later)
]

-- Places that are set stay set.
get_set : (places : List Bool) (i j : ℕ) → i < length places → slice_get places j ≡ Some true
    → slice_get (set places i true) j ≡ Some true
get_set places i j within is =
    let below : j < length (set places i true) = omega (arith, length-set places i true, slice_get_within places j true is) in
    slice_get-get_or (set places i true) j false below ∙ ap Some (
    elim (j == i) as (λ t. (j == i) ≡ t → get_or (set places i true) j false ≡ true) [
      | true ↦ λ e. rw (eqb-true j i e) (get_or-set_same places i true false within)
      | false ↦ λ e. get_or-set_other places i j true false (eqb-false j i e) ∙ get_or_from_slice_get places j true false is
    ] refl
    )

set_here : (places : List Bool) (i : ℕ) → i < length places → slice_get (set places i true) i ≡ Some true
set_here places i within =
    slice_get-get_or (set places i true) i false (omega (arith, length-set places i true, within))
    ∙ ap Some (get_or-set_same places i true false within)

-- Each pair of a text is noted, or it is in the rest.
pub record Noted (places : List Bool) (text rest : List ℕ) : Type 0 where
  pub noted : (a b : ℕ) → has_pair a b text ≡ true
      → (slice_get places (pair_place a b) ≡ Some true) ⊎ (has_pair a b rest ≡ true)
  pub no_pair : slice_get places NO_PAIR ≡ Some true
  pub len : length places ≡ 513

place_within : (a b : ℕ) → pair_place a b < NO_PAIR
place_within a b = mod-lt (a * 32 + b) (omega arith)

pub noted_next : (places : List Bool) (text : List ℕ) (x y : ℕ) (rest : List ℕ) → Noted places text (x ∷ y ∷ rest)
    → Noted (set places (pair_place x y) true) text (y ∷ rest)
noted_next places text x y rest was =
    let within : pair_place x y < length places = omega (arith, place_within x y, was.len) in record {
      noted = λ a b has. elim (was.noted a b has) [
        | inl set ↦ inl (get_set places (pair_place x y) (pair_place a b) within set)
        | inr left ↦ elim (pair_cases a b x y rest left) [
          | inl same ↦ inl (rw (sym same.0, sym same.1) (set_here places (pair_place x y) within))
          | inr later ↦ inr later
        ]
      ];
      no_pair = get_set places (pair_place x y) NO_PAIR within was.no_pair;
      len = length-set places (pair_place x y) true ∙ was.len;
    }

-- The place of a need is set if the pattern matches.
pub need_set : (places : List Bool) (text pattern : List ℕ) (place : ℕ) → HasPlaces places text → IsNeed place pattern
    → Matches pattern text → get_or places place false ≡ true
need_set places text pattern place has (inl none) m = rw none (get_or_from_slice_get places NO_PAIR true false has.no_pair)
need_set places text pattern place has (inr pair) m =
    let set = has.pairs pair.0 pair.1 (pairs_stand m pair.0 pair.1 pair.2 pair.3 pair.4) in
    rw (pair.5) (get_or_from_slice_get places (pair_place pair.0 pair.1) true false set)

-- If a need is not set, the pattern does not match.
pub refused : (needs : Needs) (bytes pattern text : List ℕ) (b : Bool) → bytes ≡ pattern → AreNeeds needs bytes
    → ((p : List ℕ) → AreNeeds needs p → Matches p text → b ≡ true)
    → b ≡ false → b ≡ star_matches pattern text
refused needs bytes pattern text b same are set not_set =
    elim (star_matches pattern text) as (λ r. star_matches pattern text ≡ r → b ≡ r) [
      | true ↦ λ m.
          set bytes are (subst (λ (p : List ℕ). Matches p text) (sym same) (finds pattern text m))
      | false ↦ λ _. not_set
    ] refl

-- the bytes after the first, as the code cuts them
abbrev tail_of : List ℕ → List ℕ
tail_of bytes = take (length bytes - 1) (drop 1 bytes)

pub pair_in_tail : (a b : ℕ) (bytes : List ℕ) → has_pair a b (tail_of bytes) ≡ true → has_pair a b bytes ≡ true
pair_in_tail a b [] has = absurd (false≢true has)
pair_in_tail a b (x ∷ rest) has =
    pair_later a b x rest (subst (λ (t : List ℕ). has_pair a b t ≡ true) (take_rest (x ∷ rest) 1) has)

first_two : (bytes tail : List ℕ) → tail ≡ drop 1 bytes → 1 ≤ length bytes → 1 ≤ length tail
    → has_pair (get_or bytes 0 0) (get_or tail 0 0) bytes ≡ true
first_two [] tail is some more = absurd (omega (arith, some))
first_two (x ∷ []) tail is some more = absurd (omega (arith, more, ap length is))
first_two (x ∷ y ∷ rest) tail is some more =
    let next : get_or tail 0 0 ≡ y = ap (λ (t : List ℕ). get_or t 0 0) is in
    subst (λ (z : ℕ). has_pair x z (x ∷ y ∷ rest) ≡ true) (sym next) (pair_first x y rest)

-- The pair at the front of what is left of a pattern is a need.
pub need_at : (pattern bytes : List ℕ) (place : ℕ) → 1 ≤ length bytes → 1 ≤ length (tail_of bytes)
    → (get_or bytes 0 0 ≡ star → ⊥) → (get_or (tail_of bytes) 0 0 ≡ star → ⊥)
    → ((a b : ℕ) → has_pair a b bytes ≡ true → has_pair a b pattern ≡ true)
    → place ≡ pair_place (get_or bytes 0 0) (get_or (tail_of bytes) 0 0) → IsNeed place pattern
need_at pattern bytes place some more plain also stand is =
    let has = first_two bytes (tail_of bytes) (take_rest bytes 1) some more in
    inr (get_or bytes 0 0, get_or (tail_of bytes) 0 0, ne_eqb _ star plain, ne_eqb _ star also, stand _ _ has, is)

-- The pair at the front of what is left of a text is noted, and the rest is left.
pub noted_front : (places : List Bool) (text bytes : List ℕ) (place : ℕ) → 1 ≤ length bytes
    → 1 ≤ length (tail_of bytes)
    → place ≡ pair_place (get_or bytes 0 0) (get_or (tail_of bytes) 0 0) → Noted places text bytes
    → Noted (set places place true) text (tail_of bytes)
noted_front places text [] place some more is was = absurd (omega (arith, some))
noted_front places text (x ∷ []) place some more is was = absurd (omega (arith, more, ap length (take_rest (x ∷ []) 1)))
noted_front places text (x ∷ y ∷ rest) place some more is was =
    let tail : tail_of (x ∷ y ∷ rest) ≡ y ∷ rest = take_rest (x ∷ y ∷ rest) 1 in
    rw (is, tail) (noted_next places text x y rest was)

-- The places of all needs are set if the pattern matches.
pub needs_set : (places : List Bool) (text pattern : List ℕ) (needs : Needs) → HasPlaces places text
    → AreNeeds needs pattern → Matches pattern text
    → ((get_or places needs.first.place false && get_or places needs.second.place false)
    && get_or places needs.third.place false) ≡ true
needs_set places text pattern needs has are m =
    and_from _ _ (and_from _ _ (need_set places text pattern needs.first.place has are.first m)
    (need_set places text pattern needs.second.place has are.second m))
    (need_set places text pattern needs.third.place has are.third m)
