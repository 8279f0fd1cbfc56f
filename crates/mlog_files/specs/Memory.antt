-- What a store in memory holds.
use Rattle.std.specs.Prelude.{ℕ, List, [], length, Some, slice_get}
use Rattle.mlog_files.specs.Files.{Files}
use Rattle.mlog_files.specs.Store.{StoreState}

pub record Memory : Type 0 where
  pub logs : List Files
  pub statuses : List (List (List ℕ))
  pub alerts : List ℕ
  pub failures : ℕ

-- A store in memory shows all that it holds, and asks for no folder.
abbrev pub state_of : Memory → StoreState
state_of memory = record {
  logs = length memory.logs;
  status_files = length memory.statuses;
  asked = Some [];
  failures = memory.failures;
  visible = record {
    files = slice_get memory.logs;
    statuses = slice_get memory.statuses;
    alerts = Some memory.alerts;
  };
}
