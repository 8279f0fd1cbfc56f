use Rattle.std.proofs.Common.{sym, arith}
use Rattle.std.proofs.lemmas.List.Folds.{list_any_none}
use Rattle.scan_table.specs.Table.{is_at}
use Rattle.svc_host.proofs.parts.restarts_in.Goals as goal

pub returns : goal.returns
returns c =
    sym (list_any_none (λ other. is_at other c.args.id.slot c.args.id.role) c.args.ids.now
    (λ k d less. c.loop-other.invariant k d (omega (arith, less, c.loop-other-test.false))))
