-- Threads that are joined, one part after the other.
use Rattle.std.proofs.Common.{◌≡◌, ℕ, zero, suc, ◌<◌, ◌≤◌, Bool, true, false, [], ◌∷◌, ◌++◌, length, refl, sym}
use Rattle.std.proofs.Common.{ap, ◌∙◌, subst, arith, slice_index_or, slice_set, List, inl, inr}
use Rattle.scan_table.specs.declared.part.PartId.{PartId}
use Rattle.std.proofs.lemmas.List.{append-nil}
use Rattle.std.proofs.lemmas.List.Elements.{All-append}
use Rattle.scan_table.specs.Table.{after_end}
use Rattle.svc_host.specs.Calls.{HandsOut, returned_by}
use Rattle.svc_host.specs.Parts.{HostPart, IsGoneIfEnded, IsJoined, IsStep, GoOn}
use Rattle.svc_host.specs.Rounds.{AreCollected, AreReaped, HostState, IsReaped, Ran}
use Rattle.svc_host.proofs.Calling.{hands-none, hands-then}
use Rattle.svc_host.proofs.Going.{all_same, go_on_then, here_then, one_goes_on, same_default}
use Rattle.svc_host.proofs.Tables.{ends_more}

reaped_none : (parts : List HostPart) → AreReaped [] parts parts
reaped_none [] = refl
reaped_none (part ∷ parts) = inl (refl, reaped_none parts)

-- A part that was joined is not as it was.
not_same : (old new : HostPart) → IsReaped old new → new ≡ old → ⊥
not_same old new is same =
    let ended : new.has_ended ≡ true = is.joined.ended in
    let ran : new.has_ended ≡ false = ap (λ (part : HostPart). part.has_ended) same ∙ is.ran in
    absurd (cc (ended, ran))

-- If all are as they were, none was joined.
none_joined : (joined : List PartId) (olds news : List HostPart) → AreReaped joined olds news
    → ((k : ℕ) (d : HostPart) → slice_index_or news k d ≡ slice_index_or olds k d) → joined ≡ []
none_joined joined [] [] is same = is
none_joined joined [] (new ∷ news) is same = absurd is
none_joined joined (old ∷ olds) [] is same = absurd is
none_joined joined (old ∷ olds) (new ∷ news) (inl one) same = none_joined joined olds news one.1 (λ k d. same (suc k) d)
none_joined joined (old ∷ olds) (new ∷ news) (inr one) same = absurd (not_same old new one.2 (same 0 old))

-- One more was joined, after those before it.
reaped_next : (joined : List PartId) (olds mids : List HostPart) (place : ℕ) (d new : HostPart) → place < length olds
    → AreReaped joined olds mids
    → ((k : ℕ) (d : HostPart) → place ≤ k → slice_index_or mids k d ≡ slice_index_or olds k d)
    → IsReaped (slice_index_or olds place d) new
    → AreReaped (joined ++ (slice_index_or olds place d).id ∷ []) olds (slice_set mids place new)
reaped_next joined [] mids place d new within is same one = absurd (omega (arith, within))
reaped_next joined (old ∷ olds) [] place d new within is same one = absurd is
reaped_next joined (old ∷ olds) (mid ∷ mids) zero d new within (inl is) same one =
    let none = none_joined joined olds mids is.1 (λ k e. same (suc k) e (omega arith)) in
    inr (
      [],
      ap (λ (ids : List PartId). ids ++ old.id ∷ []) none,
      one,
      subst (λ (ids : List PartId). AreReaped ids olds mids) none is.1,
    )
reaped_next joined (old ∷ olds) (mid ∷ mids) zero d new within (inr is) same one =
    absurd (not_same old mid is.2 (same 0 old (omega arith)))
reaped_next joined (old ∷ olds) (mid ∷ mids) (suc place) d new within (inl is) same one =
    inl (
      is.0,
      reaped_next joined olds mids place d new (omega (arith, within)) is.1
          (λ k e less. same (suc k) e (omega (arith, less))) one,
    )
reaped_next joined (old ∷ olds) (mid ∷ mids) (suc place) d new within (inr is) same one =
    inr (
      is.0 ++ (slice_index_or olds place d).id ∷ [],
      ap (λ (ids : List PartId). ids ++ (slice_index_or olds place d).id ∷ []) is.1,
      is.2,
      reaped_next is.0 olds mids place d new (omega (arith, within)) is.3
          (λ k e less. same (suc k) e (omega (arith, less))) one,
    )

pub collected_none : (host : HostState) → AreCollected host host
collected_none host =
    record {
      joined = [];
      ran = (λ k d less. absurd (omega (arith, less)));
      table = refl;
      parts = all_same host.parts;
      each = reaped_none host.parts;
      returned = hands-none host.calls;
    }

module _ (old mid new : HostState) (place : ℕ) (within : place < length old.parts)
    (before : AreCollected old mid) (count : length mid.parts ≡ length old.parts)
    (left : (k : ℕ) (d : HostPart) → place ≤ k → slice_index_or mid.parts k d ≡ slice_index_or old.parts k d)
    (step : IsStep mid.parts place new.parts) where
  abbrev part : HostPart
  part = slice_index_or mid.parts place step.part

  here : place < length mid.parts
  here = subst (λ n. place < n) (sym count) within

  goes : GoOn old.parts new.parts
  goes = go_on_then old.parts mid.parts new.parts before.parts
      (subst (GoOn mid.parts) (sym step.parts) (one_goes_on mid.parts place step.part step.changed))

  joined_one : new.table ≡ after_end mid.table part.id → part.has_ended ≡ false
      → HandsOut mid.calls new.calls [] (part.id ∷ []) → IsReaped part step.part → AreCollected old new
  joined_one table ran returned reaped =
      record {
        joined = before.joined ++ part.id ∷ [];
        ran = All-append (Ran old.parts) before.joined (part.id ∷ []) before.ran one;
        table = table ∙ ap (λ t. after_end t part.id) before.table ∙ sym (ends_more before.joined part.id old.table);
        parts = goes;
        each = subst (AreReaped (before.joined ++ part.id ∷ []) old.parts) (sym step.parts)
            (subst (λ (p : HostPart). AreReaped (before.joined ++ p.id ∷ []) old.parts
            (slice_set mid.parts place step.part)) (stood step.part)
            (reaped_next before.joined old.parts mid.parts place step.part step.part within before.each left
            (subst (λ (p : HostPart). IsReaped p step.part) (sym (stood step.part)) reaped)));
        returned = hands-then old.calls mid.calls new.calls [] before.joined [] (part.id ∷ []) before.returned returned;
      }
    where
      stood : (d : HostPart) → slice_index_or old.parts place d ≡ part
      stood d = sym (left place d (omega arith)) ∙ same_default mid.parts place d step.part here

      one : (k : ℕ) (d : _) → k < length (part.id ∷ []) → Ran old.parts (slice_index_or (part.id ∷ []) k d)
      one zero d less = (part, record { place = place; within = within; here = stood; is = refl }, ran)
      one (suc k) d less = absurd (omega (arith, less))

  joined_none : new.table ≡ mid.table → new.parts ≡ mid.parts → HandsOut mid.calls new.calls [] [] → AreCollected old new
  joined_none table same none = record {
    joined = before.joined;
    ran = before.ran;
    table = table ∙ before.table;
    parts = goes;
    each = subst (AreReaped before.joined old.parts) (sym same) before.each;
    returned = subst (λ l. HandsOut old.calls new.calls [] l) (append-nil before.joined)
        (hands-then old.calls mid.calls new.calls [] before.joined [] [] before.returned none);
  }

  pub collected_next : (joined : Bool)
      → (joined ≡ true → (d : HostPart) → new.table ≡ after_end mid.table (slice_index_or mid.parts place d).id)
      → (joined ≡ false → new.table ≡ mid.table)
      → (joined ≡ true → (d : HostPart) → (slice_index_or mid.parts place d).has_ended ≡ false)
      → ((d : HostPart) → HandsOut mid.calls new.calls [] (returned_by joined (slice_index_or mid.parts place d).id))
      → (joined ≡ true → (d : HostPart) → IsJoined (slice_index_or new.parts place d))
      → (joined ≡ true → (d : HostPart) → IsGoneIfEnded (slice_index_or new.parts place d))
      → (joined ≡ false → new.parts ≡ mid.parts)
      → AreCollected old new
  collected_next true ended table ran returned is gone same =
      let stands : slice_index_or new.parts place step.part ≡ step.part =
      ap (λ (parts : List HostPart). slice_index_or parts place step.part) step.parts
      ∙ here_then mid.parts place step.part step.part here in
      let joined_so = subst IsJoined stands (is refl step.part) in
      joined_one (ended refl step.part) (ran refl step.part) (returned step.part) (record {
        goes_on = step.changed step.part;
        ran = ran refl step.part;
        joined = joined_so;
        gone = subst IsGoneIfEnded stands (gone refl step.part) joined_so.ended;
      })
  collected_next false ended table ran returned is gone same = joined_none (table refl) (same refl) (returned step.part)
