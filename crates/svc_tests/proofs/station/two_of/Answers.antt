use Rattle.std.proofs.Common.{rules, Some, ◌++◌, ap, ◌∙◌}
use Rattle.std.specs.Option.{option_to_list}
use Rattle.svc_station.specs.Ends.{station}
use Rattle.svc_tests.proofs.TwoReaders.{opened_two}
use Rattle.svc_tests.proofs.station.two_of.Goals as goal

pub returns : goal.returns
returns c =
    let a = c.pop.ensures.items ∙ ap (λ o. c.pop.new.self.items ++ option_to_list o) c.unwrap-second.ensures in
    let b = c.pop-2.ensures.items ∙ ap (λ o. c.pop-2.new.self.items ++ option_to_list o) c.unwrap-first.ensures in
    let both = opened_two (station c.args.writer.now) _ _ _ _ c.requires.0 c.requires.1 (a
    ∙ ap (λ l. l ++ option_to_list (Some c.unwrap-second.result)) b) in
    record { first = both.0; second = both.1; room = search rules }
