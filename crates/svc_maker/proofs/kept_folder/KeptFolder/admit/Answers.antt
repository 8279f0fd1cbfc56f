use Rattle.std.proofs.Common.{◌∙◌, refl, sym, ap, Some, is_some}
use Rattle.svc_house.proofs.Extended.{extended-append}
use Rattle.svc_maker.proofs.Admitting.{admits-waiting}
use Rattle.svc_maker.proofs.kept_folder.KeptFolder.admit.Goals as goal

pub returns-in-Err : goal.returns-in-Err
returns-in-Err g c =
    rw (← c.self.view_is) (admits-waiting _ _ _ _ (ap is_some (sym c.take.ensures.value ∙ c.in-Some.is))
    (record {
      fault = Some c.in-Err.field-0.cause;
      asked = extended-append _ _ _ _ _ c.in-Err.ensures.calls c.dismiss.ensures.calls;
      stands = refl;
    }))
