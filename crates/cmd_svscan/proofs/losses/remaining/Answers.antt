use Rattle.std.proofs.Common.{List, ap, ◌∙◌}
use Rattle.std.proofs.lemmas.Result.{IfOk-weaker}
use Rattle.scan_table.specs.Slots.{SlotState}
use Rattle.cmd_svscan.specs.Leftovers.{remaining_in}
use Rattle.cmd_svscan.proofs.losses.remaining.Goals as goal

pub returns : goal.returns
returns g c =
    let read = c.in_ok-read.read in
    IfOk-weaker c.remaining_in.result _ _ (λ left is. record {
      read = read.items;
      each = c.in_ok-read.ensures.each;
      readings = c.in_ok-read.ensures.read;
      left_are = is ∙ ap (remaining_in _) c.deref.ensures.value
          ∙ ap (λ (slots : List SlotState). remaining_in slots read.items) (ap (λ t. t.slots) c.statuses.ensures.table);
    }) c.remaining_in.ensures
