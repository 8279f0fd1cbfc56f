-- How a part of an input ends.
use Rattle.std.proofs.Common.{◌≡◌, List, Some, Ok, refl, sym, subst, inr}
use Rattle.tai_status.specs.Counted.{IsRead, Works}
use Rattle.mlog_script.specs.Script.{Act}
use Rattle.mlog_files.specs.declared.tail.LogFault.{LogFault}
use Rattle.mlog_files.specs.declared.tail.LogFault.TheVariants as log_fault
use Rattle.mlog_core.specs.Run.{RunEnds}
use Rattle.mlog_core.specs.Parts.{Play, world_at, RunsPart, RotatesNot, EndsBy}
use Rattle.mlog_core.specs.declared.stream.RunCounts.{RunCounts}
use Rattle.mlog_core.specs.declared.stream.RunFault.{RunFault}
use Rattle.mlog_core.specs.declared.stream.RunFault.TheVariants as fault

pub ran_part : (counts : RunCounts) (script : List Act) (old new : Play)
    → RunEnds (Ok counts) script (world_at old) (world_at new) → IsRead new.feed.device
    → Works old.feed.device new.feed.device → new.feed.behind ≡ old.feed.behind → RunsPart script old new
ran_part counts script old new ends read works behind =
    record { counts = counts; runs = ends.done; read = read; works = works; behind = behind }

pub rotation_stopped : (why : LogFault) (visible : RunFault) (script : List Act) (old new : Play)
    → (why ≡ log_fault.Store → visible ≡ fault.Store)
    → (why ≡ log_fault.LabelsSpent → visible ≡ fault.LabelsSpent) → RotatesNot script old new why
    → EndsBy (Some visible) script old new
rotation_stopped log_fault.Store visible script old new store spent not =
    subst (λ (f : RunFault). EndsBy (Some f) script old new) (sym (store refl)) (inr not)
rotation_stopped log_fault.LabelsSpent visible script old new store spent not =
    subst (λ (f : RunFault). EndsBy (Some f) script old new) (sym (spent refl)) (inr not)
