use Rattle.std.proofs.Common.{ap, ◌∙◌}
use Rattle.svc_mail.specs.Ends.{home, number_of}
use Rattle.svc_tests.proofs.OneSender.{one_sender, pushed_one}
use Rattle.svc_tests.proofs.relay.close_one.Goals as goal

pub close-requires-clause-senders : goal.close-requires-clause-senders
close-requires-clause-senders g c =
    let sender = c.args.intake.sender in
    let one = pushed_one c.args.ends.items c.push.new.self.items c.sender-sender.result sender c.requires.room
    c.in_ok-push.ensures.items c.sender-sender.ensures.sender in
    one_sender c.args.mailbox c.push.new.self.items sender one c.requires.sender.0 c.requires.sender.1
    c.requires.receiver.1
