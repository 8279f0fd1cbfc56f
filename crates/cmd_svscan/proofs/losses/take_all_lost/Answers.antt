use Rattle.std.proofs.Common.{ap, ◌∙◌, subst, sym, List, ◌++◌, ◌∷◌, []}
use Rattle.cmd_svscan.specs.Leftovers.{AreTaken, Lost}
use Rattle.cmd_svscan.proofs.Leftovers.{taken-more}
use Rattle.cmd_svscan.proofs.losses.take_all_lost.Goals as goal

pub loop-preserved : goal.loop-preserved
loop-preserved g c =
    let lost = c.in-Some-take_lost.lost in
    record {
      taken = subst (λ (all : List Lost). AreTaken all c.args.host.now c.take_lost.new.self)
          (sym (c.push_reserved.ensures.items ∙ ap (λ (all : List Lost). all ++ lost ∷ []) c.reserve.ensures.items))
          (taken-more c.loop.all.items c.args.host.now c.loop.host c.take_lost.new.self lost
          c.loop.invariant.taken c.in-Some-take_lost.ensures.counts);
      table = c.take_lost.ensures.table ∙ c.loop.invariant.table;
    }
