use Rattle.std.proofs.Common.{refl}
use Rattle.svc_station.specs.Ends.{history_at, known_to}
use Rattle.svc_host.proofs.Going.{reads_on, tells_none}
use Rattle.svc_host.proofs.part_thread.PartThread.joined.Goals as goal

pub returns-in-Ended-clause-same : goal.returns-in-Ended-clause-same
returns-in-Ended-clause-same g c =
    let reader = c.in-Ended.last.reader.value in
    rw c.in-Ended.is (refl, tells_none (history_at reader) (known_to reader))

pub returns-in-Ok-clause-same : goal.returns-in-Ok-clause-same
returns-in-Ok-clause-same g c =
    rw c.in-Runs.is (c.in-Ok.ensures.home, reads_on c.in-Runs.running.status_reader.reader c.in-Ok.last.reader.value c.in-Ok.ensures.home c.in-Ok.ensures.known)

pub returns-in-Err-clause-same : goal.returns-in-Err-clause-same
returns-in-Err-clause-same g c =
    let reader = c.in-Runs.running.status_reader.reader in
    rw c.in-Runs.is (rw c.in-Err.ensures.unbegun (refl, tells_none (history_at reader) (known_to reader)))
