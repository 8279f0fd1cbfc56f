use Rattle.std.proofs.Common.{[], ◌∷◌, ◌++◌, IsSome, refl, sym, ap, ◌∙◌, subst}
use Rattle.svc_mail.specs.Ends.{posted, WasFull}
use Rattle.svc_relay.proofs.intake.Intake.post.Goals as goal

pub returns-in-Ok-clause-turned : goal.returns-in-Ok-clause-turned
returns-in-Ok-clause-turned g c = record {
  piece = c.args.piece;
  row = c.in-Ok.ensures.row ∙ ap (λ s. posted s.sender ++ c.args.piece ∷ []) c.self.view_is;
  bytes = sym c.len-count.ensures.bytes;
  some = c.len-count.ensures.some.0;
  kept = refl;
}

pub returns-in-Err-clause-turned : goal.returns-in-Err-clause-turned
returns-in-Err-clause-turned g c = record {
  full = subst (λ s. WasFull s) (ap (λ s. s.sender) c.self.view_is) c.in-Err.ensures.full.1;
  row = c.in-Err.ensures.row ∙ ap (λ s. posted s.sender) c.self.view_is;
  kept = subst (λ kept. IsSome kept) (sym (ap (λ s. s.kept) c.self.view_is ∙ c.requires)) refl;
}
