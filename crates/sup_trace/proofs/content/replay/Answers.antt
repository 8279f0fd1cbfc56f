use Rattle.std.proofs.Common.{◌∙◌, ap, subst, sym}
use Rattle.std.specs.List.{AllByRecursion}
use Rattle.sup_core.specs.History.{Opened, state_of}
use Rattle.sup_core.specs.Rules.{IsEvent}
use Rattle.sup_core.specs.Runs.{after}
use Rattle.sup_core.proofs.Laws.{AreTaken-events, after-all}
use Rattle.sup_trace.proofs.content.replay.Goals as goal

pub run-requires : goal.run-requires
run-requires g c =
    subst (AllByRecursion IsEvent) (sym c.entries.ensures.entries)
    (AreTaken-events (Opened c.args.content.now.base) c.args.content.now.entries c.entries.ensures.bounds.taken)

pub returns : goal.returns
returns g c =
    let past = Opened c.args.content.now.base in
    c.run.ensures past (sym c.base-machine.ensures)
    ∙ ap (λ events. state_of (after past events)) c.entries.ensures.entries
    ∙ ap state_of (after-all past c.args.content.now.entries c.entries.ensures.bounds.taken)
