use Rattle.svc_host.proofs.Going.{reads_on}
use Rattle.svc_host.proofs.part_thread.PartThread.count.Goals as goal

pub returns-in-Runs-clause-same : goal.returns-in-Runs-clause-same
returns-in-Runs-clause-same g c =
    rw c.in-Runs.is (c.count_at.ensures.same.0, reads_on c.in-Runs.running.status_reader.reader c.count_at.new.reader c.count_at.ensures.same.0 c.count_at.ensures.own)
