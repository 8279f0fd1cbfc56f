-- What the maker was asked, call after call.
use Rattle.std.proofs.Common.{◌≡◌, inl, inr, Bool, true, false, List, [], ◌∷◌, ◌++◌, Option, Some, None, refl, sym}
use Rattle.std.proofs.Common.{ℕ, ap, ◌∙◌, subst, append_assoc}
use Rattle.std.specs.Prelude.{MatchBool, Result, Ok, Err}
use Rattle.std.proofs.lemmas.List.{append-nil}
use Rattle.std.specs.Result.{result_err}
use Rattle.scan_table.specs.declared.part.PartId.{PartId}
use Rattle.svc_house.specs.Calls.{ExtendedWhileKept}
use Rattle.svc_host.specs.declared.maker.PartFault.{PartFault}
use Rattle.svc_host.specs.Parts.{HostPart}
use Rattle.svc_host.specs.Calls.{Call, MadePart, MadePair, KeptTrace, EndedPart, ForgotSlot, WatchedOutputs}
use Rattle.svc_host.specs.Calls.{EndedOutput}
use Rattle.svc_host.specs.Calls.{AskedIsRead, CountedLost, SetFolder, Allowed, Prepared, AdmittedAll, AskedWaits}
use Rattle.svc_host.specs.Calls.{AskedRefusals, ServedOwn, LeftOwn, given_in, returned_in}
use Rattle.svc_host.specs.declared.pair.Pair.{Pair}
use Rattle.svc_host.specs.Calls.{AsksPart, AsksPair, GivesBack, HandsOut, HandsOutNone, HandsOutOne, HandsTrace}
use Rattle.svc_host.specs.Calls.{StartsPair, opening_in, text_of}

given-append : (xs ys : List Call) → given_in (xs ++ ys) ≡ given_in xs ++ given_in ys
given-append [] ys = refl
given-append (MadePart id name (Ok opening) ∷ xs) ys = ap (λ l. id ∷ l) (given-append xs ys)
given-append (MadePart id name (Err fault) ∷ xs) ys = given-append xs ys
given-append (MadePair slot name fault ∷ xs) ys = given-append xs ys
given-append (KeptTrace id text kept ∷ xs) ys = given-append xs ys
given-append (EndedPart id ∷ xs) ys = given-append xs ys
given-append (ForgotSlot slot ∷ xs) ys = given-append xs ys
given-append (WatchedOutputs ∷ xs) ys = given-append xs ys
given-append (EndedOutput slot at_once ∷ xs) ys = given-append xs ys
given-append (AskedIsRead slot is_read ∷ xs) ys = given-append xs ys
given-append (CountedLost slot has_logger count ∷ xs) ys = given-append xs ys
given-append (SetFolder folder is_set ∷ xs) ys = given-append xs ys
given-append (Allowed descriptors ∷ xs) ys = given-append xs ys
given-append (Prepared rows ∷ xs) ys = given-append xs ys
given-append (AdmittedAll ∷ xs) ys = given-append xs ys
given-append (AskedWaits any_waits ∷ xs) ys = given-append xs ys
given-append (AskedRefusals ∷ xs) ys = given-append xs ys
given-append (ServedOwn path is_served ∷ xs) ys = given-append xs ys
given-append (LeftOwn ∷ xs) ys = given-append xs ys

returned-append : (xs ys : List Call) → returned_in (xs ++ ys) ≡ returned_in xs ++ returned_in ys
returned-append [] ys = refl
returned-append (EndedPart id ∷ xs) ys = ap (λ l. id ∷ l) (returned-append xs ys)
returned-append (MadePart id name made ∷ xs) ys = returned-append xs ys
returned-append (MadePair slot name fault ∷ xs) ys = returned-append xs ys
returned-append (KeptTrace id text kept ∷ xs) ys = returned-append xs ys
returned-append (ForgotSlot slot ∷ xs) ys = returned-append xs ys
returned-append (WatchedOutputs ∷ xs) ys = returned-append xs ys
returned-append (EndedOutput slot at_once ∷ xs) ys = returned-append xs ys
returned-append (AskedIsRead slot is_read ∷ xs) ys = returned-append xs ys
returned-append (CountedLost slot has_logger count ∷ xs) ys = returned-append xs ys
returned-append (SetFolder folder is_set ∷ xs) ys = returned-append xs ys
returned-append (Allowed descriptors ∷ xs) ys = returned-append xs ys
returned-append (Prepared rows ∷ xs) ys = returned-append xs ys
returned-append (AdmittedAll ∷ xs) ys = returned-append xs ys
returned-append (AskedWaits any_waits ∷ xs) ys = returned-append xs ys
returned-append (AskedRefusals ∷ xs) ys = returned-append xs ys
returned-append (ServedOwn path is_served ∷ xs) ys = returned-append xs ys
returned-append (LeftOwn ∷ xs) ys = returned-append xs ys

-- what these calls hand out and give back
pub hands-by : (old new : Option (List Call)) (calls : List Call) → ExtendedWhileKept old new calls
    → HandsOut old new (given_in calls) (returned_in calls)
hands-by old None calls extended = tt
hands-by None (Some new) calls extended = absurd extended
hands-by (Some old) (Some new) calls extended =
    (ap given_in extended ∙ given-append old calls, ap returned_in extended ∙ returned-append old calls)

pub hands-none : (calls : Option (List Call)) → HandsOutNone calls calls
hands-none None = tt
hands-none (Some calls) = (sym (append-nil (given_in calls)), sym (append-nil (returned_in calls)))

-- calls one after the other
pub hands-then : (a b c : Option (List Call)) (given returned given' returned' : List PartId)
    → HandsOut a b given returned
    → HandsOut b c given' returned' → HandsOut a c (given ++ given') (returned ++ returned')
hands-then a b None given returned given' returned' p q = tt
hands-then a None (Some c) given returned given' returned' p q = absurd q
hands-then None (Some b) (Some c) given returned given' returned' p q = absurd p
hands-then (Some a) (Some b) (Some c) given returned given' returned' p q = (
  q.0 ∙ ap (λ l. l ++ given') p.0 ∙ append_assoc (given_in a) given given',
  q.1 ∙ ap (λ l. l ++ returned') p.1 ∙ append_assoc (returned_in a) returned returned',
)

-- a part that was asked for once
pub hands-one : (id : PartId) (name : List ℕ) (made : Result HostPart PartFault) (old new : Option (List Call))
    → AsksPart id name (opening_in made) old new → HandsOutOne id (result_err made) old new
hands-one id name (Ok part) old new asks = hands-by old new (MadePart id name (Ok part.opening) ∷ []) asks
hands-one id name (Err fault) old new (inl none) = inl (hands-by old new [] none)
hands-one id name (Err fault) old new (inr (inl refused)) =
    inl (hands-by old new (MadePart id name (Err fault) ∷ []) refused)
hands-one id name (Err fault) old new (inr (inr back)) =
    inr (hands-by old new (MadePart id name (Ok back.0) ∷ EndedPart id ∷ []) back.1)

-- the same after calls that hand out nothing
pub one-behind : (id : PartId) (fault : Option PartFault) (old mid new : Option (List Call)) → HandsOutNone old mid
    → HandsOutOne id fault mid new → HandsOutOne id fault old new
one-behind id None old mid new none one = hands-then old mid new [] [] (id ∷ []) [] none one
one-behind id (Some fault) old mid new none (inl nothing) = inl (hands-then old mid new [] [] [] [] none nothing)
one-behind id (Some fault) old mid new none (inr back) =
    inr (hands-then old mid new [] [] (id ∷ []) (id ∷ []) none back)

-- a pair that was asked for hands out no part
pub pair-none : (slot : _) (name : List ℕ) (fault : PartFault) (old new : Option (List Call))
    → AsksPair slot name fault old new
    → HandsOutNone old new
pair-none slot name fault old new (inl none) = hands-by old new [] none
pair-none slot name fault old new (inr (inl refused)) = hands-by old new (MadePair slot name (Some fault) ∷ []) refused
pair-none slot name fault old new (inr (inr made)) = hands-by old new (MadePair slot name None ∷ []) made

-- nor does a pair whose threads run
pub start-none : (slot : _) (name : List ℕ) (fault : Option PartFault) (olds news : List Pair)
    (old new : Option (List Call)) → StartsPair slot name fault olds news old new → HandsOutNone old new
start-none slot name None olds news old new (inl runs) = hands-by old new [] runs.2
start-none slot name None olds news old new (inr starts) = hands-by old new (MadePair slot name None ∷ []) starts.4
start-none slot name (Some fault) olds news old new failed = pair-none slot name fault old new failed.2

-- nor does a trace
pub trace-none : (kept : Option _) (part : HostPart) (is_kept : Bool) (old new : Option (List Call))
    → HandsTrace kept part is_kept old new → HandsOutNone old new
trace-none kept part true old new (inl same) = hands-by old new [] same.1
trace-none kept part true old new (inr handed) = hands-by old new (_ ∷ []) handed
trace-none kept part false old new (inl none) = hands-by old new [] none
trace-none kept part false old new (inr handed) = hands-by old new (_ ∷ []) handed

-- a part that was joined gives back what it had, and nothing is handed out
pub back-one : (old_part new_part : HostPart) (old new : Option (List Call)) → GivesBack old_part new_part old new
    → HandsOut old new [] (old_part.id ∷ [])
back-one old_part new_part old new back =
    hands-then old back.mid new [] [] [] (old_part.id ∷ [])
    (trace-none old_part.kept back.read back.is_kept old back.mid back.hands)
    (hands-by back.mid new (EndedPart old_part.id ∷ []) back.returned)

-- a trace that was handed to the maker, once
pub trace-handed : (kept : Option ℕ) (part : HostPart) (is_kept : Bool) (id : PartId) (text : List ℕ)
    (old new : Option (List Call)) → id ≡ part.id → text ≡ text_of part
    → ExtendedWhileKept old new (KeptTrace id text is_kept ∷ []) → HandsTrace kept part is_kept old new
trace-handed kept part true id text old new is says handed =
    inr (subst (λ i. ExtendedWhileKept old new (KeptTrace i (text_of part) true ∷ [])) is
    (subst (λ t. ExtendedWhileKept old new (KeptTrace id t true ∷ [])) says handed))
trace-handed kept part false id text old new is says handed =
    inr (subst (λ i. ExtendedWhileKept old new (KeptTrace i (text_of part) false ∷ [])) is
    (subst (λ t. ExtendedWhileKept old new (KeptTrace id t false ∷ [])) says handed))

-- the same for a part after a note that its trace is kept
pub trace-noted : (kept : Option ℕ) (part new_part : HostPart) (is_kept : Bool) (count : ℕ) (id : PartId)
    (text : List ℕ)
    (old new : Option (List Call)) → id ≡ part.id → text ≡ text_of part
    → MatchBool is_kept (new_part ≡ record part { kept = Some count }) (new_part ≡ part)
    → ExtendedWhileKept old new (KeptTrace id text is_kept ∷ []) → HandsTrace kept new_part is_kept old new
trace-noted kept part new_part true count id text old new is says noted handed =
    trace-handed kept new_part true id text old new (is ∙ ap (λ (p : HostPart). p.id) (sym noted))
    (says ∙ ap text_of (sym noted)) handed
trace-noted kept part new_part false count id text old new is says noted handed =
    trace-handed kept new_part false id text old new (is ∙ ap (λ (p : HostPart). p.id) (sym noted))
    (says ∙ ap text_of (sym noted)) handed
