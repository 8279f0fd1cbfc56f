-- Parts and pairs that are asked for by the names of their slots.
use Rattle.std.proofs.Common.{◌≡◌, inl, inr, ℕ, Bool, true, false, List, [], ◌∷◌, ◌++◌, Option, Some, None, sym, subst}
use Rattle.std.specs.List.{AllByRecursion}
use Rattle.scan_table.specs.declared.part.PartId.{PartId}
use Rattle.scan_table.specs.Slots.{SlotState}
use Rattle.svc_house.proofs.Extended.{extended-append, extended-none}
use Rattle.sup_trace.proofs.Lists.{AllByRecursion-joined}
use Rattle.std.specs.Prelude.{Result, Ok, Err}
use Rattle.svc_record.specs.declared.opening.Opening.{Opening}
use Rattle.svc_host.specs.declared.maker.PartFault.{PartFault}
use Rattle.svc_host.specs.declared.pair.Pair.{Pair}
use Rattle.svc_host.specs.Calls.{AsksByName, AsksPair, AsksPart, Call, EndedPart, IsByName, MadePair, MadePart}
use Rattle.svc_host.specs.Calls.{StartsPair, StartsWhere, name_at}

pub named_none : (slots : List SlotState) (calls : Option (List Call)) → AsksByName slots calls calls
named_none slots calls = record { calls = []; asked = extended-none calls; named = tt }

pub named_then : (slots : List SlotState) (a b c : Option (List Call)) → AsksByName slots a b → AsksByName slots b c
    → AsksByName slots a c
named_then slots a b c p q = record {
  calls = p.calls ++ q.calls;
  asked = extended-append a b c p.calls q.calls p.asked q.asked;
  named = AllByRecursion-joined (IsByName slots) p.calls q.calls p.named q.named;
}

pub part_named : (slots : List SlotState) (id : PartId) (name : List ℕ) (made : Result Opening PartFault)
    (old new : Option (List Call)) → name_at slots id.slot ≡ Some name → AsksPart id name made old new
    → AsksByName slots old new
part_named slots id name (Ok opening) old new is asks =
    record { calls = MadePart id name (Ok opening) ∷ []; asked = asks; named = (is, tt) }
part_named slots id name (Err fault) old new is (inl none) = record { calls = []; asked = none; named = tt }
part_named slots id name (Err fault) old new is (inr (inl refused)) =
    record { calls = MadePart id name (Err fault) ∷ []; asked = refused; named = (is, tt) }
part_named slots id name (Err fault) old new is (inr (inr back)) =
    record { calls = MadePart id name (Ok back.0) ∷ EndedPart id ∷ []; asked = back.1; named = (is, (tt, tt)) }

pair_named : (slots : List SlotState) (slot : ℕ) (name : List ℕ) (fault : Option PartFault) (olds news : List Pair)
    (old new : Option (List Call)) → name_at slots slot ≡ Some name → StartsPair slot name fault olds news old new
    → AsksByName slots old new
pair_named slots slot name None olds news old new is (inl runs) =
    record { calls = []; asked = runs.2; named = tt }
pair_named slots slot name None olds news old new is (inr starts) =
    record { calls = MadePair slot name None ∷ []; asked = starts.4; named = (is, tt) }
pair_named slots slot name (Some fault) olds news old new is (no_pair, same, inl none) =
    record { calls = []; asked = none; named = tt }
pair_named slots slot name (Some fault) olds news old new is (no_pair, same, inr (inl refused)) =
    record { calls = MadePair slot name (Some fault) ∷ []; asked = refused; named = (is, tt) }
pair_named slots slot name (Some fault) olds news old new is (no_pair, same, inr (inr made)) =
    record { calls = MadePair slot name None ∷ []; asked = made; named = (is, tt) }

pub starts_named : (slots : List SlotState) (is_pair : Bool) (slot : ℕ) (name : List ℕ) (fault : Option PartFault)
    (olds news : List Pair) (old new : Option (List Call)) → name_at slots slot ≡ Some name
    → StartsWhere is_pair slot name fault olds news old new → AsksByName slots old new
starts_named slots true slot name fault olds news old new is starts =
    pair_named slots slot name fault olds news old new is starts
starts_named slots false slot name fault olds news old new is starts =
    subst (AsksByName slots old) (sym starts.2) (named_none slots old)
