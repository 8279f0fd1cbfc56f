use Rattle.std.proofs.Common.{List, ap, ◌∙◌, subst, refl}
use Rattle.std.proofs.lemmas.Result.{IfErr-weaker, IfOk-weaker}
use mathlib.Core.List.{IsPrefix}
use Rattle.scan_table.specs.Table.{TableState}
use Rattle.cmd_svscan.specs.Leftovers.{Lost, unlogged_in}
use Rattle.cmd_svscan.proofs.losses.unlogged.Goals as goal

pub returns-clause-whole : goal.returns-clause-whole
returns-clause-whole g c =
    let lost = c.take_all_lost-lost.result.items in
    IfOk-weaker c.unlogged_in.result _ _ (λ all is. record {
      lost = lost;
      taken = c.take_all_lost-lost.ensures.taken;
      unlogged_are = is ∙ ap (unlogged_in _) c.deref.ensures.value
          ∙ ap (λ (table : TableState). unlogged_in table.slots lost) c.take_all_lost-lost.ensures.table;
    }) c.unlogged_in.ensures.whole

pub returns-clause-first : goal.returns-clause-first
returns-clause-first g c =
    let lost = c.take_all_lost-lost.result.items in
    let slots = c.take_all_lost-lost.new.host.table.slots in
    IfErr-weaker c.unlogged_in.result _ _ (λ some is. (
      unlogged_in c.args.host.now.table.slots lost,
      record { lost = lost; taken = c.take_all_lost-lost.ensures.taken; unlogged_are = refl },
      subst (λ (table : TableState). IsPrefix some.items (unlogged_in table.slots lost))
          c.take_all_lost-lost.ensures.table
          (subst (λ (all : List Lost). IsPrefix some.items (unlogged_in slots all)) c.deref.ensures.value is),
    )) c.unlogged_in.ensures.first
