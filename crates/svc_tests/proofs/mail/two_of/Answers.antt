use Rattle.std.proofs.Common.{Some, ◌++◌, ap, ◌∙◌}
use Rattle.std.specs.Option.{option_to_list}
use Rattle.svc_tests.proofs.Pair.{opened_two}
use Rattle.svc_tests.proofs.mail.two_of.Goals as goal

pub returns-clause-two : goal.returns-clause-two
returns-clause-two g c =
    let a = c.pop.ensures.items ∙ ap (λ o. c.pop.new.self.items ++ option_to_list o) c.unwrap-second.ensures in
    let b = c.pop-2.ensures.items ∙ ap (λ o. c.pop-2.new.self.items ++ option_to_list o) c.unwrap-first.ensures in
    opened_two c.args.mailbox.now _ c.args.capacity _ _ _ c.requires.0 c.requires.1 (a
    ∙ ap (λ l. l ++ option_to_list (Some c.unwrap-second.result)) b)
