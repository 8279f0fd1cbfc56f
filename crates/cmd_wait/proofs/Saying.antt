-- What a look reads about readiness.
use Rattle.std.proofs.Common.{◌≡◌, ℕ, Bool, true, false, List, [], Option, None, sym, subst}
use Rattle.tai_status.specs.Extended.{Extended}
use Rattle.svc_record.specs.declared.moment.Moment.{Moment}
use Rattle.svc_client.specs.Calls.{Call}
use Rattle.cmd_svc.specs.Course.{IsNoticed}
use Rattle.cmd_wait.specs.Finding.{AsksReady, calls_of_ready}
use Rattle.cmd_wait.proofs.Looking.{extended-none}

-- the text that was read, what it says, and the call
pub record Said (asks : Bool) (folder : List ℕ) (ready : Option Moment) (old new : Option (List Call)) : Type 0 where
  pub text : Option (List ℕ)
  pub says : IsNoticed text ready
  pub calls : Extended old new (calls_of_ready asks folder text)

pub said_by : (asks : Bool) (folder : List ℕ) (ready : Option Moment) (old new : Option (List Call))
    → AsksReady asks folder ready old new → Said asks folder ready old new
said_by false folder ready old new h = record {
  text = None;
  says = h.0;
  calls = subst (λ (l : Option (List Call)). Extended old l []) (sym h.1) (extended-none old);
}
said_by true folder ready old new h = record { text = h.text; says = h.says; calls = h.asked }
