use Rattle.std.proofs.Common.{◌∷◌, [], sym, subst, ap, ◌∙◌, refl}
use Rattle.tai_status.specs.Full.{FullStatus, IsFull, full_record}
use Rattle.sup_core.specs.State.{full_in}
use Rattle.sup_core.specs.Asks.{records_in}
use Rattle.sup_core.specs.History.{Opened}
use Rattle.sup_core.proofs.Records.{step_unwritten, step_written}
use Rattle.sup_core.proofs.machine.Machine.step.Goals as goal

pub returns-clause-unwritten : goal.returns-clause-unwritten
returns-clause-unwritten c = λ none.
    let here = Opened c.args.self.now in
    let reply = c.advance-reply.ensures.reply here refl in
    let is : IsFull (full_in c.args.self.now) = subst IsFull c.full.ensures.full c.full.ensures.range in
    ap full_in (c.advance-reply.ensures.state here refl)
    ∙ step_unwritten here c.args.event is.stands (sym (ap records_in reply) ∙ none)

pub returns-clause-written : goal.returns-clause-written
returns-clause-written c = λ some.
    let here = Opened c.args.self.now in
    let records = ap records_in (c.advance-reply.ensures.reply here refl) in
    let full = ap full_in (c.advance-reply.ensures.state here refl) in
    records ∙ step_written here c.args.event (λ none. some (records ∙ none))
    ∙ ap (λ (full : FullStatus). full_record full ∷ []) (sym full)
