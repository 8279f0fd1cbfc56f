-- What is true for the definitions alone.
use Rattle.std.specs.Prelude.{◌≡◌, ℕ, List, ◌++◌, codes}
use Rattle.cmd_svc.specs.Svstat.{look_line, fault_name}
use Rattle.svc_client.specs.declared.services.Unreached.{Unreached}
use Rattle.cmd_svc.specs.declared.look.ServiceLook.TheVariants as look
use Rattle.tai_status.specs.declared.record.RecordFault.{RecordFault}
use Rattle.cmd_report.specs.Json.{unreached_text}

-- What is reported about a service that was not reached is what svstat's line has after the folder.
abbrev pub SameUnreached : Type 0
SameUnreached = (folder : List ℕ) (why : Unreached)
    → look_line folder (look.Unreached why) ≡ folder ++ (codes ": " ++ unreached_text why)

-- The same holds if a status could not be read, and if it is not a record.
abbrev pub SameUnread : Type 0
SameUnread = (folder : List ℕ) → look_line folder look.Unread ≡ folder ++ (codes ": " ++ codes "unable to read status")

abbrev pub SameBad : Type 0
SameBad = (folder : List ℕ) (cause : RecordFault)
    → look_line folder (look.Bad cause) ≡ folder ++ (codes ": " ++ (codes "bad status record: " ++ fault_name cause))
