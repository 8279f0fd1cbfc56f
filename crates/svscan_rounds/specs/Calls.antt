-- What svscan asks of the services of a folder, and supervise of one service, and the results.
use Rattle.std.specs.Prelude.{ℕ, List, Option, Result}
use Rattle.scan_table.specs.Slots.{Row}
use Rattle.scan_table.specs.declared.fault.ScanFault.{ScanFault}
use Rattle.svscan_rounds.specs.declared.service_set.Startup.{Startup}
use Rattle.svscan_rounds.specs.declared.service_set.ListFault.{ListFault}
use Rattle.svscan_rounds.specs.declared.service_set.Listing.{Listing}
use Rattle.svscan_rounds.specs.declared.service_set.Remaining.{Remaining}
use Rattle.svscan_rounds.specs.declared.service_set.RoundOut.{RoundOut}
use Rattle.svscan_rounds.specs.declared.service_set.Sight.{Sight}
use Rattle.svscan_rounds.specs.declared.service_set.Supervision.{Supervision}
use Rattle.svscan_rounds.specs.declared.service_set.Unlogged.{Unlogged}

-- A call, with its result. The calls, in the order of the constructors:
--
-- - svscan was to be served in the folder.
-- - The folder was listed.
-- - A round went over these rows.
-- - This control byte of svscan's own came, or none until the next round was due.
-- - The end of all services continued, and after five seconds these still ran, or all had ended.
-- - svscan left the services, and this was not logged.
-- - The one service in the folder was begun.
-- - The one service was watched over.
pub data Call : Type 0 where
  Began : (folder : List ℕ) → (begun : Startup) → Call
  Listed : (folder : List ℕ) → (found : Result Listing ListFault) → Call
  Scanned : (folder : List ℕ) → (rows : List Row) → (out : Result RoundOut ScanFault) → Call
  Heard : (byte : Option ℕ) → Call
  Ended : (left : Option (List Remaining)) → Call
  Left : (unlogged : List Unlogged) → Call
  Supervised : (folder : List ℕ) → (supervision : Supervision) → Call
  Watched : (sight : Sight) → Call
