use Rattle.std.proofs.Common.{◌<◌, ℕ}
use Rattle.svc_record.specs.Exits.{Says}
use Rattle.svc_record.specs.declared.ending.Ending.TheVariants.{Status, Signal}
use Rattle.svc_record.proofs.reading.read_ending.Given as goal

-- the text is none of the lines that were tried
abbrev pub invariant-loop-number : goal.invariant-loop-number
invariant-loop-number l = (tried : ℕ) → tried < l.number
    → (Says l.text l.pid l.label (Status tried) → ⊥) × (Says l.text l.pid l.label (Signal tried) → ⊥)
