-- Parts that could not be made, and others that could not be admitted.
use Rattle.std.proofs.Common.{◌≡◌, Bool, true, false, List, [], ◌++◌, subst, sym, ◌∙◌, append-nil, if◌then◌else◌}
use mathlib.Core.List.{IsPrefix}
use Rattle.scan_table.specs.Slots.{SlotState}
use Rattle.svc_host.specs.declared.host.Unmade as host
use Rattle.svscan_rounds.specs.declared.service_set.UnmadePart.{UnmadePart}
use Rattle.cmd_svscan.specs.Losses.{unmade_in}
use Rattle.cmd_svscan.specs.Scanning.{NamesUnmade}

-- They are named, as far as there was room for the others.
pub names-unmade : (slots : List SlotState) (failed refusals all : List host.Unmade) (named : List UnmadePart)
    (has_room : Bool) → all ≡ (if has_room then failed ++ refusals else failed) → IsPrefix named (unmade_in slots all)
    → NamesUnmade slots failed named
names-unmade slots failed refusals all named true is first = record {
  refusals = refusals;
  first = subst (λ (ones : List host.Unmade). IsPrefix named (unmade_in slots ones)) is first;
}
names-unmade slots failed refusals all named false is first = record {
  refusals = [];
  first = subst (λ (ones : List host.Unmade). IsPrefix named (unmade_in slots ones)) (is ∙ sym (append-nil failed))
      first;
}
