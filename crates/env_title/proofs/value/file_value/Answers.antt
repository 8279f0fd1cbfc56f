use Rattle.std.proofs.Common.{ap, ◌∙◌}
use Rattle.std.specs.Prelude.{map}
use Rattle.std.proofs.lemmas.Str.{IsUtf8-from_is_utf8}
use Rattle.env_title.specs.Files.{file_value, nul_as_newline}
use Rattle.env_title.proofs.value.file_value.Goals as goal

pub unwrap-requires : goal.unwrap-requires
unwrap-requires g c =
    let made = c.in_ok-value.ensures ∙ ap (map nul_as_newline) c.text_of.ensures in
    c.from_utf8.ensures.succeeds (rw made (IsUtf8-from_is_utf8 (file_value c.args.bytes.now) c.requires))
