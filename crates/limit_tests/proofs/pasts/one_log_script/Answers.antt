use Rattle.std.proofs.Common.{◌≡◌, List, [], ◌∷◌, map, Ok, Result, codes}
use Rattle.std.proofs.lemmas.Result.{IfOk-weaker}
use Rattle.mlog_script.specs.Script.{Act, Log}
use Rattle.mlog_script.specs.declared.fault.ScriptFaultKind.{ScriptFaultKind}
use Rattle.limit_tests.proofs.pasts.one_log_script.Goals as goal

-- words that ask for one action are read as that action
one_act : (act : Act) (script : List Act)
    → (let said : List (Result Act ScriptFaultKind) = Ok act ∷ [] in said ≡ map (λ act. Ok act) script)
    → script ≡ act ∷ []
one_act act [] said = cc said
one_act act (other ∷ []) said = cc said
one_act act (other ∷ more ∷ script) said = cc said

pub returns : goal.returns
returns c =
    IfOk-weaker c.read.result _ _ (λ script said. one_act (Log (codes "./main")) script said) c.read.ensures.ok
