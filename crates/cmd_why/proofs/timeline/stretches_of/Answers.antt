use Rattle.std.proofs.Common.{◌≡◌, subst, sym}
use Rattle.std.specs.List.{AllByRecursion}
use Rattle.sup_core.specs.History.{Opened}
use Rattle.sup_core.specs.Rules.{IsEvent}
use Rattle.sup_core.proofs.Laws.{AreTaken-events}
use Rattle.cmd_why.proofs.timeline.stretches_of.Goals as goal

pub stretches-requires : goal.stretches-requires
stretches-requires g c =
    subst (AllByRecursion IsEvent) (sym c.entries.ensures.entries)
    (AreTaken-events (Opened c.args.content.now.base) c.args.content.now.entries c.entries.ensures.bounds.taken)
