use Rattle.std.proofs.Common.{◌∙◌, ap, Ok}
use Rattle.mlog_script.specs.Word.{act_said}
use Rattle.mlog_script.specs.declared.word.Said.{Said}
use Rattle.mlog_script.proofs.Faults.{stamp_late}
use Rattle.mlog_script.proofs.check.fault_of.Goals as goal

pub returns-in-Ok-Stamp : goal.returns-in-Ok-Stamp
returns-in-Ok-Stamp g c =
    stamp_late g.W.AsSlice.items c.args.before.now c.args.word.now _ c.if-not-is_empty.true c.is_empty.ensures
    (c.in-Ok-Stamp.ensures.ok ∙ ap (λ (asked : Said). Ok (act_said asked)) c.in-Ok-Stamp.field-0-is)
