use Rattle.sup_core.proofs.machine.record_ask.Goals as goal

pub invariant_of-encode_full : goal.invariant_of-encode_full
invariant_of-encode_full c = c.requires
