-- What a loop over parts has seen.
use Rattle.std.proofs.Common.{◌≡◌, ℕ, zero, suc, ◌+◌, ◌<◌, List, [], ◌∷◌, ◌++◌, length, take, arith, inl, inr}
use Rattle.std.proofs.Common.{ap, refl, slice_index_or, slice_set, subst, sym, ◌∙◌}
use Rattle.std.proofs.lemmas.Bool.{cases_lt}
use Rattle.scan_table.specs.declared.part.PartId.{PartId}
use Rattle.svc_host.specs.Parts.{HostPart, IsNowhere, IsPlace, IsStep, PartGoesOn}
use Rattle.svc_host.proofs.Going.{same_default}

-- What holds of each part at an earlier place, and of the one at this place, holds of each at a place before the next.
pub holds_next : (P : HostPart → Type 0) (parts : List HostPart) (place : ℕ) (here : HostPart)
    → place < length parts → here ≡ slice_index_or parts place here → P here
    → ((k : ℕ) (d : HostPart) → k < place → P (slice_index_or parts k d))
    → (k : ℕ) (d : HostPart) → k < place + 1 → P (slice_index_or parts k d)
holds_next P parts place here within is holds before k d less =
    elim (cases_lt k place) [
      | (inl below) ↦ before k d below
      | (inr same) ↦
          let e : k ≡ place = omega arith in
          subst (λ n. P (slice_index_or parts n d)) (sym e)
          (subst P (is ∙ same_default parts place here d within) holds)
    ]

-- the parts up to the one at this place
pub take_next : (parts : List HostPart) (place : ℕ) (here : HostPart) → place < length parts
    → here ≡ slice_index_or parts place here → take (place + 1) parts ≡ take place parts ++ here ∷ []
take_next [] place here within is = absurd (omega (arith, within))
take_next (part ∷ parts) zero here within is = ap (λ (p : HostPart). p ∷ []) (sym is)
take_next (part ∷ parts) (suc place) here within is =
    let e : suc place + 1 ≡ suc (place + 1) = omega arith in
    ap (λ n. take n (part ∷ parts)) e ∙ ap (λ l. part ∷ l) (take_next parts place here (omega (arith, within)) is)

-- What is found in the parts before, followed by what is found in the one at this place, is what is found up to it.
pub found_next : {A : Type 0} (found : List HostPart → List A)
    → ((front back : List HostPart) → found (front ++ back) ≡ found front ++ found back)
    → (parts : List HostPart) (place : ℕ) (here : HostPart) → place < length parts
    → here ≡ slice_index_or parts place here
    → found (take place parts) ++ found (here ∷ []) ≡ found (take (place + 1) parts)
found_next found splits parts place here within is =
    sym (ap found (take_next parts place here within is) ∙ splits (take place parts) (here ∷ []))

-- A part at a place is somewhere.
pub is_somewhere : (id : PartId) (parts : List HostPart) (place : ℕ) (d : HostPart) → IsPlace id parts place
    → IsNowhere id parts → ⊥
is_somewhere id parts place d at nowhere = nowhere place d at.within (at.here d)

-- A part that is put back at its place changes nothing.
pub put_back : (parts : List HostPart) (place : ℕ) (here : HostPart) → place < length parts
    → here ≡ slice_index_or parts place here → slice_set parts place here ≡ parts
put_back [] place here within is = refl
put_back (part ∷ parts) zero here within is = ap (λ (p : HostPart). p ∷ parts) is
put_back (part ∷ parts) (suc place) here within is =
    ap (λ l. part ∷ l) (put_back parts place here (omega (arith, within)) is)

-- The events of one part continue.
pub one_step : (parts : List HostPart) (place : ℕ) (part new : HostPart) → place < length parts
    → part ≡ slice_index_or parts place part → PartGoesOn part new → IsStep parts place (slice_set parts place new)
one_step parts place part new within is goes_on = record {
  part = new;
  changed = λ d. subst (λ (old : HostPart). PartGoesOn old new) (is ∙ same_default parts place part d within) goes_on;
  parts = refl;
}
