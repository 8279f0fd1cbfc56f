use Rattle.std.proofs.Common.{rules, ◌≡◌, ℕ, List, [], ◌∷◌, ◌++◌, subst}
use Rattle.std.specs.Prelude.{codes}
use Rattle.hex.specs.Hex.{encode_lower}
use Rattle.tai_status.specs.Counted.{Reports}
use Rattle.cmd_svc.proofs.svc.report_letter.Goals as goal

pub returns-clause-reported : goal.returns-clause-reported
returns-clause-reported g c =
    let digits : c.encode_to_slice.new.output ≡ encode_lower (c.args.letter ∷ []) = search rules in
    subst (λ (text : List ℕ). Reports c.args.faults.now c.report_parts.new.faults
    (codes "svc: unknown letter " ++ (text ++ 10 ∷ []))) digits c.report_parts.ensures.reported
