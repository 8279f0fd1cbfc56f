use Rattle.svscan_rounds.specs.Rounds.{effects}
use Rattle.svscan_rounds.proofs.Outlasting.{watched-ends, watched-more, watched-none}
use Rattle.svscan_rounds.proofs.supervise.outlast.Goals as goal

pub loop-init : goal.loop-init
loop-init g c = (
  watched-none c.args.folder.now (effects (g.K.ServiceSet.calls c.args.services.now) c.args.faults.now),
  c.requires.ready,
)

pub loop-preserved : goal.loop-preserved
loop-preserved g c =
    let calls = g.K.ServiceSet.calls in (
      watched-more c.args.folder.now (effects (calls c.args.services.now) c.args.faults.now)
          (effects (calls c.loop.services) c.loop.faults)
          (effects (calls c.watch.new.self) c.report_kept.new.faults) c.in-Runs.fault c.loop.invariant.0
          c.in-Runs.ensures.watched c.report_kept.ensures,
      c.watch.ensures.ready,
    )

pub returns-in-Gone-clause-outlasts : goal.returns-in-Gone-clause-outlasts
returns-in-Gone-clause-outlasts g c =
    let calls = g.K.ServiceSet.calls in
    watched-ends c.args.folder.now (effects (calls c.args.services.now) c.args.faults.now)
    (effects (calls c.loop.services) c.loop.faults) (effects (calls c.watch.new.self) c.report_loss.new.faults)
    c.in-Gone.loss c.loop.invariant.0 c.in-Gone.ensures.watched c.report_loss.ensures
