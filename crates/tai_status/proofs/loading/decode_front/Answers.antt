use Rattle.std.proofs.Common.{rules, ◌∙◌, ap}
use Rattle.tai_status.specs.Loading.{loaded_from}
use Rattle.tai_status.specs.declared.loading.TheConstants.{STATUS_FRONT}
use Rattle.tai_status.proofs.Fronts.{front_gives}
use Rattle.tai_status.proofs.loading.decode_front.Goals as goal

pub returns-clause-file : goal.returns-clause-file
returns-clause-file c file front =
    c.decode_any.ensures.exact ∙ ap loaded_from front ∙ front_gives STATUS_FRONT file (search rules)
