use Rattle.std.proofs.Common.{◌≡◌, true, false, refl, sym, ◌∙◌, ap, rules}
use Rattle.std.specs.Str.{is_utf8}
use Rattle.std.proofs.lemmas.Bool.{false_from_ne_true}
use Rattle.std.proofs.lemmas.Str.{IsUtf8-from_is_utf8, is_utf8-from_IsUtf8}
use Rattle.env_title.specs.Files.{is_hidden, file_value, first_line, without_end_blanks}
use Rattle.env_title.specs.Faults.{has_equals}
use Rattle.env_title.proofs.Faulty.{fault_at-named}
use Rattle.env_title.proofs.Text.{is_utf8-swapped}
use Rattle.env_title.proofs.file.EnvFile.check.Goals as goal

pub returns-in-Ok : goal.returns-in-Ok
returns-in-Ok c =
    let visible : is_hidden c.args.self.now ≡ false = search rules in
    let named : has_equals c.args.self.now.name ≡ false = search rules in
    let line : c.text_of.result.now ≡ without_end_blanks (first_line c.args.self.now.bytes) = search rules in
    let text : is_utf8 (file_value c.args.self.now.bytes) ≡ true =
    is_utf8-swapped (without_end_blanks (first_line c.args.self.now.bytes))
    ∙ ap is_utf8 (sym line) ∙ is_utf8-from_IsUtf8 c.text_of.result.now c.in-Ok.ensures.cases.1 in
    rw (fault_at-named c.args.place c.args.self.now visible named, text) refl

pub returns-in-Err : goal.returns-in-Err
returns-in-Err c =
    let visible : is_hidden c.args.self.now ≡ false = search rules in
    let named : has_equals c.args.self.now.name ≡ false = search rules in
    let line : c.text_of.result.now ≡ without_end_blanks (first_line c.args.self.now.bytes) = search rules in
    let text : is_utf8 (file_value c.args.self.now.bytes) ≡ false =
    is_utf8-swapped (without_end_blanks (first_line c.args.self.now.bytes))
    ∙ ap is_utf8 (sym line)
    ∙ false_from_ne_true (is_utf8 c.text_of.result.now)
    (λ is. c.in-Err.ensures.cases.0 (IsUtf8-from_is_utf8 c.text_of.result.now is)) in
    rw (fault_at-named c.args.place c.args.self.now visible named, text) refl
