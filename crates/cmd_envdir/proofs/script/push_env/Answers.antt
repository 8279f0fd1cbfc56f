use Rattle.std.specs.Prelude.{codes}
use Rattle.cmd_envdir.specs.Quoting.{word_text}
use Rattle.cmd_envdir.proofs.Quoting.{in_parts}
use Rattle.cmd_envdir.proofs.script.push_env.Goals as goal

pub returns : goal.returns
returns g c =
    in_parts c.args.text.now.items (codes "exec /usr/bin/env ") c.args.removals.now (word_text (codes "--"))
    c.args.settings.now c.extend_from_slice.new.self.items c.extend_from_slice-2.new.self.items
    c.push_word.new.text.items c.extend_from_slice-3.new.self.items c.in_ok-extend_from_slice.ensures.items
    c.in_ok-extend_from_slice-2.ensures.items c.in_ok-push_word.ensures c.in_ok-extend_from_slice-3.ensures.items
