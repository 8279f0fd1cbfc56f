use Rattle.std.proofs.Common.{◌≡◌, false, sym, arith, ◌∙◌}
use Rattle.std.specs.Prelude.{not, ◌&&◌}
use Rattle.std.proofs.lemmas.List.Folds.{list_any_none}
use Rattle.scan_table.specs.declared.part.Role.TheVariants.{Main}
use Rattle.scan_table.specs.Table.{is_at}
use Rattle.svc_host.specs.Parts.{HostPart}
use Rattle.svc_host.proofs.Looking.{holds_next}
use Rattle.svc_host.proofs.parts.service_runs.Goals as goal

pub loop-part-preserved : goal.loop-part-preserved
loop-part-preserved g c =
    holds_next (λ (part : HostPart). (is_at part.id c.args.slot Main && not part.has_ended) ≡ false) c.args.parts.now
    c.loop-part.part-index c.part-item.result c.loop-part-test.true c.part-item.is
    (sym c.runs_at.ensures ∙ c.if-runs_at.false) c.loop-part.invariant

pub returns : goal.returns
returns g c =
    sym (list_any_none (λ (part : HostPart). is_at part.id c.args.slot Main && not part.has_ended) c.args.parts.now
    (λ k d less. c.loop-part.invariant k d (omega (arith, less, c.loop-part-test.false))))
