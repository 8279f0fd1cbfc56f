-- The command line of `trace`, as the builder makes it.
use Rattle.std.proofs.Common.{◌≡◌, ◌∙◌, ap, refl, true}
use Rattle.clap.specs.Words.{App, app_of, is_simple}
use Rattle.clap.specs.Faults.{is_simple_and_free}
use Rattle.clap.specs.Simple.{app_of_fields}
use Rattle.clap.specs.declared.builder.command.Command.{Command}
use Rattle.clap.specs.declared.builder.command.Command.TheOpen.{Command-F}
use Rattle.clap.specs.declared.builder.command.Command.TheViews.{out-Command as fields_of}
use Rattle.clap.proofs.OnLiterals.{clap_on_literals}
use Rattle.trace_words.specs.Words.{trace_line, without_extras}

-- a command without the program's name and without the flags for help and version
pub line-without_extras : (made named helped versioned : Command) (line : App) → app_of made ≡ line
    → fields_of named ≡ record (fields_of made) { no_binary_name = true }
    → fields_of helped ≡ record (fields_of named) { disable_help_flag = true }
    → fields_of versioned ≡ record (fields_of helped) { disable_version_flag = true }
    → app_of versioned ≡ without_extras line
line-without_extras made named helped versioned line is e1 e2 e3 =
    ap app_of_fields e3
    ∙ ap (λ (f : Command-F Command). app_of_fields (record f { disable_version_flag = true })) e2
    ∙ ap (λ (f : Command-F Command). app_of_fields (record f { disable_version_flag = true; disable_help_flag = true }))
    e1
    ∙ ap without_extras is

-- clap's specification is exact for such a line
pub trace_line-simple : is_simple trace_line ≡ true
unfolding clap_on_literals
trace_line-simple = refl

pub trace_line-free : is_simple_and_free trace_line ≡ true
unfolding clap_on_literals
trace_line-free = refl
