use Rattle.sup_trace.proofs.Parts.{phase_of_text-exact}
use Rattle.sup_trace.proofs.base.phase_of.Goals as goal

pub returns : goal.returns
returns c = phase_of_text-exact c.args.name.now c.read_phase.result c.read_phase.ensures.found c.read_phase.ensures.only
