use Rattle.std.proofs.Common.{rules, ◌≡◌, true, false}
use Rattle.std.specs.Prelude.{is_ok}
use Rattle.svc_system.proofs.Shells.{sends_anew}
use Rattle.svc_system.proofs.shell_process.send_line.Goals as goal

pub returns-then-is_ok-2 : goal.returns-then-is_ok-2
returns-then-is_ok-2 g c =
    let not_taken : is_ok c.send.result ≡ false = search rules in
    let is_started : is_ok c.start.result ≡ true = search rules in
    sends_anew c.args.line.now (is_ok c.send.result) (is_ok c.start.result) (is_ok c.send-then-is_ok-2.result) _ _ _ _ _
    not_taken is_started c.send.ensures.calls c.end.ensures.calls c.start.ensures.calls
    c.send-then-is_ok-2.ensures.calls
