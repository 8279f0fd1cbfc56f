use Rattle.std.proofs.Common.{rules, of_calls}
use Rattle.dtools.proofs.main.Goals as goal

pub run_arguments-requires : goal.run_arguments-requires
run_arguments-requires g c = (search of_calls, λ state request response made. search rules)
