-- How `help` and `version` end.
use Rattle.std.specs.Prelude.{◌≡◌, ◌⊎◌, ℕ, List, [], ◌∷◌, ◌++◌, codes, Option, Some, None}
use Rattle.tai_status.specs.Counted.{Device, Fails, Reports, Works, Wrote, WroteFront, device_report}
use Rattle.cmd_base.specs.Printed.{printed}
use Rattle.cmd_base.specs.Usage.{usage_text}
use Rattle.cmd_base.specs.Commands.{command_named}
use Rattle.cmd_help.specs.Pages.{help_of, overview, tool_page}
use Rattle.cmd_base.specs.declared.command.Command.{Command}
use Rattle.cmd_base.specs.declared.command.Command.TheVariants as command
use Rattle.cmd_help.specs.declared.source.TheConstants.{KIT, SOURCE}

-- A text was printed, and nothing is reported.
pub record PrintsAll (text : List ℕ) (status : ℕ) (old new faults reports : Device) : Type 0 where
  pub status_is : status ≡ 0
  pub wrote : Wrote old new text
  pub works : Works old new
  pub unreported : reports ≡ faults

-- The writer failed after a front of a text, and that is reported with its cause, after the name of the command.
pub record PrintsFront (text name : List ℕ) (status : ℕ) (old new faults reports : Device) : Type 0 where
  pub status_is : status ≡ 111
  pub wrote : WroteFront old new text
  pub fails : Fails old new
  pub reports_it : Reports faults reports (device_report name (codes "write fault") new)

abbrev pub Prints : (text name : List ℕ) (status : ℕ) (old new faults reports : Device) → Type 0
Prints text name status old new faults reports =
    PrintsAll text status old new faults reports ⊎ PrintsFront text name status old new faults reports

-- Nothing is printed, and the usage of the command is reported.
pub record Refuses (command : Command) (status : ℕ) (old new faults reports : Device) : Type 0 where
  pub status_is : status ≡ 100
  pub unwritten : new ≡ old
  pub reports_it : Reports faults reports (usage_text command)

-- the names of the commands, as the report of a fault begins
abbrev pub help_name : List ℕ
help_name = codes "help: "

abbrev pub version_name : List ℕ
version_name = codes "version: "

-- A page is printed. A word that names nothing with a page is refused.
abbrev pub PageEnds : (page : Option (List ℕ)) → (status : ℕ) (old new faults reports : Device) → Type 0
PageEnds None status old new faults reports = Refuses command.Help status old new faults reports
PageEnds (Some text) status old new faults reports = Prints text help_name status old new faults reports

-- what is printed about the command, or the installed program, that a word names
abbrev pub page_named : (word : List ℕ) → Option Command → Option (List ℕ)
page_named word (Some command) = Some (help_of command)
page_named word None = tool_page word

-- How `help` ends, by its words. Without a word, it prints the overview. With one word, it prints the page of the
-- command or the installed program with that name.
abbrev pub HelpEnds : (words : List (List ℕ)) (status : ℕ) (old new faults reports : Device) → Type 0
HelpEnds [] status old new faults reports = Prints overview help_name status old new faults reports
HelpEnds (word ∷ []) status old new faults reports =
    PageEnds (page_named word (command_named word)) status old new faults reports
HelpEnds (word ∷ other ∷ words) status old new faults reports = Refuses command.Help status old new faults reports

-- what `version` prints: which dtools this is, the line of the kit that built it, and the sum of its sources
abbrev pub version_text : List ℕ
version_text = printed (codes "dtools 2.1.0" ∷ (codes "kit " ++ KIT.now) ∷ (codes "source " ++ SOURCE.now) ∷ [])

-- `version` takes no words.
abbrev pub VersionEnds : (words : List (List ℕ)) (status : ℕ) (old new faults reports : Device) → Type 0
VersionEnds [] status old new faults reports = Prints version_text version_name status old new faults reports
VersionEnds (word ∷ words) status old new faults reports = Refuses command.Version status old new faults reports
