use Rattle.std.proofs.Common.{◌≡◌, true, arith}
use Rattle.std.specs.Prelude.{is_none}
use Rattle.cmd_svscan.proofs.Opening.{opens_new}
use Rattle.cmd_svscan.proofs.beginning.open.Goals as goal

pub returns-in_ok-open_host-clause-opens : goal.returns-in_ok-open_host-clause-opens
returns-in_ok-open_host-clause-opens g c =
    let none : is_none c.args.running.now ≡ true = grind (arith, c.is_none.ensures, c.if-is_none.true) in
    opens_new c.args.running.now c.in_ok-open_host.field-0 none c.in_ok-open_host.ensures
