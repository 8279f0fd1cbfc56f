use Rattle.std.proofs.Common.{rules, ◌++◌, ap, ◌∙◌}
use Rattle.std.specs.Option.{option_to_list}
use Rattle.svc_station.specs.Ends.{station}
use Rattle.svc_host.proofs.OneReader.{opened_one}
use Rattle.svc_host.proofs.running.status_reader_of.Goals as goal

pub invariant_of-result : goal.invariant_of-result
invariant_of-result c =
    let back = c.pop.ensures.items ∙ ap (λ o. c.pop.new.self.items ++ option_to_list o) c.unwrap-reader.ensures in
    let one = opened_one (station c.args.writer.now) _ _ _ c.requires.one.0 c.requires.new back in
    record {
      empty = one.0;
      has_room = search rules;
      only = ap (λ s. s.readers) one.1.0 ∙ c.requires.one.1;
      first = one.1.1;
    }

pub returns : goal.returns
returns c =
    let back = c.pop.ensures.items ∙ ap (λ o. c.pop.new.self.items ++ option_to_list o) c.unwrap-reader.ensures in
    (opened_one (station c.args.writer.now) _ _ _ c.requires.one.0 c.requires.new back).1
