use Rattle.std.proofs.Common.{[], ◌∷◌, false, inr, refl, subst, true}
use Rattle.svc_host.specs.Calls.{ServedOwn}
use Rattle.cmd_svscan.specs.Asking.{IsAsked}
use Rattle.cmd_svscan.proofs.beginning.begin.Goals as goal

pub returns-in-Ok-serve_own : goal.returns-in-Ok-serve_own
returns-in-Ok-serve_own g c = rw (← c.running.view_is) (record {
  asked = inr (
    true,
    subst (λ path. IsAsked (ServedOwn path true ∷ []) c.running.inside.host c.serve_own.new.host) c.in-Ok.ensures.ok
        c.in-Ok-serve_own.ensures,
  );
  quiet = refl;
})

pub returns-in-Err : goal.returns-in-Err
returns-in-Err g c = rw (← c.running.view_is) (record {
  asked = inr (
    false,
    subst (λ path. IsAsked (ServedOwn path false ∷ []) c.running.inside.host c.serve_own.new.host) c.in-Ok.ensures.ok
        c.in-Err.ensures,
  );
  quiet = refl;
})
