use Rattle.std.proofs.Common.{◌≡◌, take}
use Rattle.tai_status.specs.Words.{texts}
use Rattle.cmd_wait.specs.Finding.{awaited, unmarked}
use Rattle.cmd_wait.proofs.marking.entries_of.Given as goal

-- the services so far have entries
abbrev pub invariant-loop-folder : goal.invariant-loop-folder
invariant-loop-folder g l = awaited l.entries.items ≡ unmarked (texts (take l.folder-index l.folders))
