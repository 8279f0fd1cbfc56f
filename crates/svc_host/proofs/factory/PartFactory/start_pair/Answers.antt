use Rattle.std.proofs.Common.{[], ◌∷◌, ◌++◌, inl, inr, refl, sym, ap, ◌∙◌}
use Rattle.svc_house.proofs.Extended.{extended-none}
use Rattle.svc_host.specs.Calls.{has_pair}
use Rattle.svc_host.proofs.factory.PartFactory.start_pair.Goals as goal

pub returns-then-has_pair-clause-starts : goal.returns-then-has_pair-clause-starts
returns-then-has_pair-clause-starts g c =
    inl (
      ap (has_pair c.args.slot) (sym c.deref.ensures.value) ∙ sym c.has_pair.ensures ∙ c.if-has_pair.true,
      refl,
      extended-none _,
    )

pub returns-then-is_err-clause-starts : goal.returns-then-is_err-clause-starts
returns-then-is_err-clause-starts g c = (
  ap (has_pair c.args.slot) (sym c.deref.ensures.value) ∙ sym c.has_pair.ensures ∙ c.if-has_pair.false,
  c.reserve.ensures.items,
  inl (extended-none _),
)

pub returns-in-Ok-clause-starts : goal.returns-in-Ok-clause-starts
returns-in-Ok-clause-starts g c = inr (
  c.in-Ok.pair,
  ap (has_pair c.args.slot) (sym c.deref.ensures.value) ∙ sym c.has_pair.ensures ∙ c.if-has_pair.false,
  c.in-Ok.ensures.slot,
  c.push_reserved.ensures.items ∙ ap (λ l. l ++ c.in-Ok.pair ∷ []) c.reserve.ensures.items,
  c.in-Ok.ensures.asked,
)

pub returns-in-Err-clause-starts : goal.returns-in-Err-clause-starts
returns-in-Err-clause-starts g c = (
  ap (has_pair c.args.slot) (sym c.deref.ensures.value) ∙ sym c.has_pair.ensures ∙ c.if-has_pair.false,
  c.reserve.ensures.items,
  c.in-Err.ensures.failed,
)
