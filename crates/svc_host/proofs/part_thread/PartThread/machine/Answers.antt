use Rattle.svc_host.proofs.Going.{reads_on}
use Rattle.svc_host.proofs.part_thread.PartThread.machine.Goals as goal

pub returns-in-Runs-clause-same : goal.returns-in-Runs-clause-same
returns-in-Runs-clause-same g c =
    rw c.in-Runs.is (c.machine.ensures.same.0, reads_on c.in-Runs.running.status_reader.reader c.machine.new.self c.machine.ensures.same.0 c.machine.ensures.own)
