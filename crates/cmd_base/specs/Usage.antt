-- What a command reports about wrong words.
use Rattle.std.specs.Prelude.{◌≡◌, ℕ, List, ◌∷◌, ◌++◌, codes}
use Rattle.tai_status.specs.Counted.{Reports}
use Rattle.cmd_base.specs.Console.{Console}
use Rattle.cmd_base.specs.Pages.{page}
use Rattle.cmd_base.specs.declared.command.Command.{Command}

-- the report on words that a command does not take: a line that is the same for each command, and the command's page
abbrev pub usage_text : Command → List ℕ
usage_text command = codes "dtools: usage" ++ 10 ∷ page command

-- The words are wrong: nothing is read or written, the usage of the command is reported, and the status is 100.
pub record RefusesWords (command : Command) (status : ℕ) (old new : Console) : Type 0 where
  pub status_is : status ≡ 100
  pub unread : new.reader ≡ old.reader
  pub unwritten : new.writer ≡ old.writer
  pub reported : Reports old.faults new.faults (usage_text command)
