use Rattle.std.proofs.Common.{rules, sym, ap, ◌∙◌}
use Rattle.std.proofs.lemmas.List.{map-id}
use Rattle.std.proofs.lemmas.Iterator.Adapters.{YieldsList-from_vec}
use Rattle.std.proofs.lemmas.Iterator.Consumers.{YieldsList-end}
use Rattle.cmd_multilog.specs.Names.{old_names}
use Rattle.cmd_multilog.proofs.names.old_names.Goals as goal

pub returns : goal.returns
returns g c =
    let seen = YieldsList-end
    (YieldsList-from_vec {s = c.into_iter-name-iterator.result} c.args.names.items (search rules) (search rules))
    c.loop-name.yielded
    c.loop-name.name-iterator c.loop-name.yielded_by c.next.result c.next.new.self c.in-None.is c.next.ensures.steps in
    c.loop-name.invariant ∙ ap old_names (sym (map-id c.loop-name.yielded) ∙ seen.0)
