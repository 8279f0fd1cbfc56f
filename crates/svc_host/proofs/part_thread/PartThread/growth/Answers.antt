use Rattle.svc_host.specs.Threads.{reader_at}
use Rattle.svc_host.proofs.Going.{reads_then}
use Rattle.svc_host.proofs.part_thread.PartThread.growth.Goals as goal

pub returns-clause-same : goal.returns-clause-same
returns-clause-same g c =
    reads_then (reader_at c.args.self.now) (reader_at c.count.new.self) (reader_at c.text.new.self) c.count.ensures.same
    c.text.ensures.same
