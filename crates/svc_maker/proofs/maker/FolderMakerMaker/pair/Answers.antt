use Rattle.std.proofs.Common.{◌≡◌, ℕ, List, [], ◌∷◌, ◌++◌, refl, sym, subst, ap, ◌∙◌, Ok, Err}
use Rattle.std.proofs.lemmas.List.{append-nil}
use Rattle.scan_table.specs.declared.part.Role.TheVariants.{Main}
use Rattle.svc_maker.specs.Calls.{MadePipe, OpenedOutput}
use Rattle.svc_maker.specs.Making.{part_path}
use Rattle.svc_house.specs.Calls.{ExtendedWhileKept}
use Rattle.svc_house.proofs.Extended.{extended-append}
use Rattle.svc_maker.proofs.maker.FolderMakerMaker.pair.Goals as goal

-- the path that was made is that of the service's own folder
own : (path text folder lent name : List ℕ) → path ≡ text → text ≡ lent ++ (47 ∷ name) → lent ≡ folder
    → path ≡ part_path folder name Main
own path text folder lent name same made lends =
    same ∙ made ∙ ap (λ (f : List ℕ). f ++ (47 ∷ name)) lends
    ∙ ap (λ (n : List ℕ). folder ++ (47 ∷ n)) (sym (append-nil name))

pub returns-in-Err : goal.returns-in-Err
returns-in-Err g c = rw (← c.self.view_is, c.reserve.ensures.items) (record {
  tried = OpenedOutput c.as_str-2.result.now (Err c.in-Err.fault) ∷ [];
  failed = (own _ _ _ _ _ c.as_str-2.ensures.value c.in-Ok.ensures c.as_str.ensures.value, c.part_fault.ensures);
  calls = c.in-Err.ensures.calls;
  stands = refl;
})

pub returns-in-Err-pipe : goal.returns-in-Err-pipe
returns-in-Err-pipe g c = rw (← c.self.view_is, c.reserve.ensures.items) (record {
  tried = OpenedOutput c.as_str-2.result.now (Ok c.in-Ok-output.ends) ∷ MadePipe (Err c.in-Err-pipe.cause) ∷ [];
  failed = (own _ _ _ _ _ c.as_str-2.ensures.value c.in-Ok.ensures c.as_str.ensures.value, refl);
  calls = extended-append _ _ _ _ _ c.in-Ok-output.ensures.calls c.in-Err-pipe.ensures.calls;
  stands = refl;
})

pub returns : goal.returns
returns g c = rw (← c.self.view_is) (record {
  ends = c.in-Ok-output.ends;
  input = c.in-Ok-pipe.ends.0;
  written = c.in-Ok-pipe.ends.1;
  reads = refl;
  outlet = refl;
  calls = subst (λ (path : List ℕ).
      ExtendedWhileKept (g.S.PartSystem.calls c.self.inside.system) (g.S.PartSystem.calls c.pipe.new.self)
      (OpenedOutput path (Ok c.in-Ok-output.ends) ∷ MadePipe (Ok c.in-Ok-pipe.ends) ∷ []))
      (own _ _ _ _ _ c.as_str-2.ensures.value c.in-Ok.ensures c.as_str.ensures.value)
      (extended-append _ _ _ _ _ c.in-Ok-output.ensures.calls c.in-Ok-pipe.ensures.calls);
  stands = rw (c.push_reserved.ensures.items, c.leave_pipes.ensures.pipes, c.reserve.ensures.items) refl;
})
