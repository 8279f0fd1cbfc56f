use Rattle.std.proofs.Common.{inr, refl, subst}
use Rattle.svc_house.specs.Mail.{posted_by}
use Rattle.svc_door.specs.Turns.{HasTurn}
use Rattle.svc_door.proofs.part.DoorPart.serve.Goals as goal

pub returns-in-Ok-clause-serves : goal.returns-in-Ok-clause-serves
returns-in-Ok-clause-serves g c =
    let one = c.in-Ok.ensures.with_one in
    inr (
      one.0,
      one.2,
      c.hear.result,
      refl,
      subst (λ sender. HasTurn (posted_by sender) (posted_by c.hear.new.self.sender) c.args.now one.0
          c.hear.new.self.connection c.hear.result) c.in-Ok.ensures.sender (c.hear.ensures.hears one.0 one.1),
    )
