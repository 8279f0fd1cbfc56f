-- Parts that begin, one after the other.
use Rattle.std.proofs.Common.{◌≡◌, ℕ, zero, suc, ◌+◌, ◌<◌, Bool, true, false, inl, inr, List, [], ◌∷◌, ◌++◌, length}
use Rattle.std.proofs.Common.{map, refl, sym, ap, ◌∙◌, subst, arith, slice_index_or, length-append, append_assoc}
use Rattle.std.proofs.Common.{Option}
use Rattle.std.specs.Prelude.{not}
use Rattle.std.proofs.lemmas.List.Elements.{All-append}
use Rattle.std.proofs.lemmas.List.{append-nil, map-append}
use Rattle.tai_status.specs.Label.{Tai64n}
use Rattle.scan_table.specs.declared.part.PartId.{PartId}
use Rattle.scan_table.specs.Slots.{Row, SlotState}
use Rattle.svc_host.specs.Parts.{HostPart}
use Rattle.svc_host.specs.Begun.{Begins}
use Rattle.svc_host.specs.Calls.{AsksByName, Call, HandsOut, HandsOutNone}
use Rattle.svc_host.specs.Rounds.{AreBegun, Beginnings, IsBegunOne, IsParted, chosen}
use Rattle.svc_host.proofs.Calling.{hands-none, hands-then}
use Rattle.svc_host.proofs.Naming.{named_none, named_then}

module _ {A : Type 0} where
  chosen_yes : (flags : List Bool) (xs : List A) (x : A) → length flags ≡ length xs
      → chosen (flags ++ true ∷ []) (xs ++ x ∷ []) ≡ chosen flags xs ++ x ∷ []
  chosen_yes [] [] x same = refl
  chosen_yes [] (y ∷ ys) x same = absurd (omega (arith, same))
  chosen_yes (flag ∷ flags) [] x same = absurd (omega (arith, same))
  chosen_yes (true ∷ flags) (y ∷ ys) x same = ap (λ l. y ∷ l) (chosen_yes flags ys x (omega (arith, same)))
  chosen_yes (false ∷ flags) (y ∷ ys) x same = chosen_yes flags ys x (omega (arith, same))

  chosen_no : (flags : List Bool) (xs : List A) (x : A) → length flags ≡ length xs
      → chosen (flags ++ false ∷ []) (xs ++ x ∷ []) ≡ chosen flags xs
  chosen_no [] [] x same = refl
  chosen_no [] (y ∷ ys) x same = absurd (omega (arith, same))
  chosen_no (flag ∷ flags) [] x same = absurd (omega (arith, same))
  chosen_no (true ∷ flags) (y ∷ ys) x same = ap (λ l. y ∷ l) (chosen_no flags ys x (omega (arith, same)))
  chosen_no (false ∷ flags) (y ∷ ys) x same = chosen_no flags ys x (omega (arith, same))

nots : (flags : List Bool) (flag : Bool) → map not (flags ++ flag ∷ []) ≡ map not flags ++ not flag ∷ []
nots [] flag = refl
nots (first ∷ flags) flag = ap (λ l. not first ∷ l) (nots flags flag)

nots_length : (flags : List Bool) → length (map not flags) ≡ length flags
nots_length [] = refl
nots_length (flag ∷ flags) = ap suc (nots_length flags)

one_longer : {A : Type 0} {B : Type 0} (xs : List A) (x : A) (ys : List B) (y : B) → length xs ≡ length ys
    → length (xs ++ x ∷ []) ≡ length (ys ++ y ∷ [])
one_longer xs x ys y same = length-append xs (x ∷ []) ∙ ap (λ n. n + 1) same ∙ sym (length-append ys (y ∷ []))

module _ {A : Type 0} (all ones others : List A) (x : A) (parted : IsParted all ones others) where
  pub one_is_set : IsParted (all ++ x ∷ []) (ones ++ x ∷ []) others
  one_is_set =
      record {
        flags = parted.flags ++ true ∷ [];
        each = one_longer parted.flags true all x parted.each;
        set = ap (λ l. l ++ x ∷ []) parted.set ∙ sym (chosen_yes parted.flags all x parted.each);
        not_set = parted.not_set ∙ sym (chosen_no (map not parted.flags) all x (nots_length parted.flags ∙ parted.each))
            ∙ sym (ap (λ l. chosen l (all ++ x ∷ [])) (nots parted.flags true));
      }

  pub one_is_not : IsParted (all ++ x ∷ []) ones (others ++ x ∷ [])
  one_is_not =
      record {
        flags = parted.flags ++ false ∷ [];
        each = one_longer parted.flags false all x parted.each;
        set = parted.set ∙ sym (chosen_no parted.flags all x parted.each);
        not_set = ap (λ l. l ++ x ∷ []) parted.not_set
            ∙ sym (chosen_yes (map not parted.flags) all x (nots_length parted.flags ∙ parted.each))
            ∙ sym (ap (λ l. chosen l (all ++ x ∷ [])) (nots parted.flags false));
      }

abbrev id_of : HostPart → PartId
id_of part = part.id

-- parts for which resources were handed out: these have them, and those of the others were given back
record GivenBack (old new : Option (List Call)) (ids : List PartId) : Type 0 where
  pub given : List PartId
  pub returned : List PartId
  pub hands : HandsOut old new given returned
  pub given_back : IsParted given ids returned

module _ (old mid new : Option (List Call)) (ids : List PartId) (back : GivenBack old mid ids) where
  back_none : HandsOutNone mid new → GivenBack old new ids
  back_none none =
      record {
        given = back.given ++ [];
        returned = back.returned ++ [];
        hands = hands-then old mid new back.given back.returned [] [] back.hands none;
        given_back = subst (λ l. IsParted (back.given ++ []) ids l) (sym (append-nil back.returned))
            (subst (λ l. IsParted l ids back.returned) (sym (append-nil back.given)) back.given_back);
      }

  back_one : (id : PartId) → HandsOut mid new (id ∷ []) (id ∷ []) → GivenBack old new ids
  back_one id one =
      record {
        given = back.given ++ id ∷ [];
        returned = back.returned ++ id ∷ [];
        hands = hands-then old mid new back.given back.returned (id ∷ []) (id ∷ []) back.hands one;
        given_back = one_is_not back.given ids back.returned id back.given_back;
      }

  kept_one : (id : PartId) → HandsOut mid new (id ∷ []) [] → GivenBack old new (ids ++ id ∷ [])
  kept_one id one =
      record {
        given = back.given ++ id ∷ [];
        returned = back.returned ++ [];
        hands = hands-then old mid new back.given back.returned (id ∷ []) [] back.hands one;
        given_back = subst (λ l. IsParted (back.given ++ id ∷ []) (ids ++ id ∷ []) l) (sym (append-nil back.returned))
            (one_is_set back.given ids back.returned id back.given_back);
      }

pub begun_none : (slots : List SlotState) (rows : List Row) (label : Tai64n) (so_far : Beginnings)
    → so_far.failed ≡ [] → AreBegun slots rows label [] so_far so_far
begun_none slots rows label so_far none =
    record {
      begun = [];
      parts = sym (append-nil so_far.parts);
      each = (λ k d less. absurd (omega (arith, less)));
      parted = record { flags = []; each = refl; set = refl; not_set = none };
      given = [];
      returned = [];
      hands = hands-none so_far.calls;
      given_back = record { flags = []; each = refl; set = refl; not_set = refl };
      named = named_none slots so_far.calls;
    }

module _ (slots : List SlotState) (rows : List Row) (label : Tai64n) (done : List PartId) (id : PartId)
    (old mid new : Beginnings) (before : AreBegun slots rows label done old mid)
    (named : AsksByName slots mid.calls new.calls) where
  all_named : AsksByName slots old.calls new.calls
  all_named = named_then slots old.calls mid.calls new.calls before.named named

  back_before : GivenBack old.calls mid.calls (map id_of before.begun)
  back_before = record {
    given = before.given;
    returned = before.returned;
    hands = before.hands;
    given_back = before.given_back;
  }

  begun_more : (part : HostPart) → part.id ≡ id → Begins slots rows label part → new.parts ≡ mid.parts ++ part ∷ []
      → new.failed ≡ mid.failed → HandsOut mid.calls new.calls (id ∷ []) []
      → AreBegun slots rows label (done ++ id ∷ []) old new
  begun_more part is begins more same hands =
      let back = kept_one old.calls mid.calls new.calls (map id_of before.begun) back_before id hands in
      record {
        begun = before.begun ++ part ∷ [];
        parts = more ∙ ap (λ l. l ++ part ∷ []) before.parts ∙ append_assoc old.parts before.begun (part ∷ []);
        each = All-append (Begins slots rows label) before.begun (part ∷ []) before.each one;
        parted = subst (λ f. IsParted (done ++ id ∷ []) (map id_of (before.begun ++ part ∷ [])) f) (sym same)
            (subst (λ l. IsParted (done ++ id ∷ []) l mid.failed) ids
            (one_is_set done (map id_of before.begun) mid.failed id before.parted));
        given = back.given;
        returned = back.returned;
        hands = back.hands;
        given_back = subst (λ l. IsParted back.given l back.returned) ids back.given_back;
        named = all_named;
      }
    where
      ids : map id_of before.begun ++ id ∷ [] ≡ map id_of (before.begun ++ part ∷ [])
      ids = ap (λ p. map id_of before.begun ++ p ∷ []) (sym is) ∙ sym (map-append id_of before.begun (part ∷ []))

      one : (k : ℕ) (d : HostPart) → k < length (part ∷ []) → Begins slots rows label (slice_index_or (part ∷ []) k d)
      one zero d less = begins
      one (suc k) d less = absurd (omega (arith, less))

  failed_more : new.parts ≡ mid.parts → new.failed ≡ mid.failed ++ id ∷ []
      → GivenBack old.calls new.calls (map id_of before.begun) → AreBegun slots rows label (done ++ id ∷ []) old new
  failed_more same more back =
      record {
        begun = before.begun;
        parts = same ∙ before.parts;
        each = before.each;
        parted = subst (λ f. IsParted (done ++ id ∷ []) (map id_of before.begun) f) (sym more)
            (one_is_not done (map id_of before.begun) mid.failed id before.parted);
        given = back.given;
        returned = back.returned;
        hands = back.hands;
        given_back = back.given_back;
        named = all_named;
      }

  pub next_begun : IsBegunOne slots rows label id mid new → AreBegun slots rows label (done ++ id ∷ []) old new
  next_begun (inl more) = begun_more more.0 more.1 more.2 more.3 more.4 more.5
  next_begun (inr (parts, failed, inl none)) =
      failed_more parts failed
      (back_none old.calls mid.calls new.calls (map id_of before.begun) back_before none)
  next_begun (inr (parts, failed, inr one)) =
      failed_more parts failed
      (back_one old.calls mid.calls new.calls (map id_of before.begun) back_before id one)

-- the same for equal lists, if nothing failed before
pub begun_as : (slots slots' : List SlotState) (rows : List Row) (label : Tai64n) (ids ids' : List PartId)
    (olds : List HostPart) (old new : Beginnings)
    → AreBegun slots rows label ids old new → slots ≡ slots' → ids ≡ ids' → old.parts ≡ olds
    → AreBegun slots' rows label ids' (record { parts = olds; failed = []; calls = old.calls }) new
begun_as slots slots' rows label ids ids' olds old new begun a b c =
    subst (λ s. AreBegun s rows label ids' (record { parts = olds; failed = []; calls = old.calls }) new) a
    (subst (λ p. AreBegun slots rows label p (record { parts = olds; failed = []; calls = old.calls }) new) b
    (subst (λ o. AreBegun slots rows label ids (record { parts = o; failed = []; calls = old.calls }) new) c
    (record {
      begun = begun.begun;
      parts = begun.parts;
      each = begun.each;
      parted = begun.parted;
      given = begun.given;
      returned = begun.returned;
      hands = begun.hands;
      given_back = begun.given_back;
      named = begun.named;
    })))
