use Rattle.std.proofs.Common.{◌++◌, ap, ◌∙◌}
use Rattle.std.specs.Prelude.{flat_map}
use Rattle.tai_status.specs.Words.{texts}
use Rattle.cmd_envdir.specs.Quoting.{lines_text, removed_text, set_text}
use Rattle.cmd_envdir.proofs.Making.{in_order}
use Rattle.cmd_envdir.proofs.script.text_of.Goals as goal

pub returns : goal.returns
returns g c =
    let target = c.args.target.now in
    let variables = c.args.variables.now in
    let files = c.args.files.now in
    in_order target variables files (texts c.args.program.now) c.as_slice.result.now c.as_slice-2.result.now
    c.push_lines.new.text.items c.push_start.new.text.items c.push_words.new.text.items
    (c.as_slice.ensures.value ∙ c.in_ok-push_removals.ensures
    ∙ ap (λ text. text ++ flat_map (removed_text target) files) c.new-removals.ensures.items)
    (c.as_slice-2.ensures.value ∙ c.in_ok-push_settings.ensures
    ∙ ap (λ text. text ++ flat_map (set_text files) variables) c.new-settings.ensures.items)
    c.requires
    (c.in_ok-push_lines.ensures ∙ ap (λ text. text ++ lines_text target files) c.new-text.ensures.items)
    c.in_ok-push_start.ensures c.in_ok-push_words.ensures
