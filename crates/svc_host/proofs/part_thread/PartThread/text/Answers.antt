use Rattle.std.proofs.Common.{refl}
use Rattle.svc_station.specs.Ends.{history_at, known_to}
use Rattle.svc_host.proofs.Going.{reads_on, tells_none}
use Rattle.svc_host.proofs.part_thread.PartThread.text.Goals as goal

pub returns-in-Ended-clause-same : goal.returns-in-Ended-clause-same
returns-in-Ended-clause-same g c =
    let reader = c.in-Ended.last.reader.value in
    rw c.in-Ended.is (refl, tells_none (history_at reader) (known_to reader))

pub returns-in-Runs-clause-same : goal.returns-in-Runs-clause-same
returns-in-Runs-clause-same g c =
    rw c.in-Runs.is (c.text_at.ensures.same.0, reads_on c.in-Runs.running.status_reader.reader c.text_at.new.reader c.text_at.ensures.same.0 c.text_at.ensures.own)
