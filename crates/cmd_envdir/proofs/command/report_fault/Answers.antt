use Rattle.std.proofs.Common.{List, ℕ, [], ◌∷◌, ◌++◌, subst}
use Rattle.std.specs.Prelude.{codes}
use Rattle.tai_status.specs.Counted.{Reports}
use Rattle.cmd_envdir.proofs.command.report_fault.Goals as goal

pub returns-in-NotRun-clause-reported : goal.returns-in-NotRun-clause-reported
returns-in-NotRun-clause-reported g c = rw c.in-NotRun.is c.report_unable.ensures.reported

pub returns-in-NameHasEquals-clause-reported : goal.returns-in-NameHasEquals-clause-reported
returns-in-NameHasEquals-clause-reported g c =
    rw c.in-NameHasEquals.is
    (subst (λ (t : List ℕ). Reports c.args.faults.now c.report_parts.new.faults
    (codes "envdir: " ++ (t ++ (codes ": NameHasEquals" ++ 10 ∷ [])))) c.as_bytes.ensures.value
    c.report_parts.ensures.reported)

pub returns-in-NotText-clause-reported : goal.returns-in-NotText-clause-reported
returns-in-NotText-clause-reported g c =
    rw c.in-NotText.is
    (subst (λ (t : List ℕ). Reports c.args.faults.now c.report_parts-in-NotText.new.faults
    (codes "envdir: " ++ (t ++ (codes ": NotText" ++ 10 ∷ [])))) c.as_bytes-in-NotText.ensures.value
    c.report_parts-in-NotText.ensures.reported)

pub returns-in-OutOfMemory-clause-reported : goal.returns-in-OutOfMemory-clause-reported
returns-in-OutOfMemory-clause-reported g c = rw c.in-OutOfMemory.is c.report_memory.ensures.reported
