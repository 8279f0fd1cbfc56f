use Rattle.std.proofs.Common.{IfSome, subst}
use Rattle.std.proofs.Math.Logic.{∥∥₁_map}
use Rattle.svc_house.specs.Mail.{posted_by}
use Rattle.svc_door.specs.Connection.{HasPostedLast}
use Rattle.svc_door.proofs.Posting.{posted-turn}
use Rattle.svc_door.proofs.part.DoorPart.hear.Goals as goal

pub invariant_of-self-in-Some-next_look : goal.invariant_of-self-in-Some-next_look
invariant_of-self-in-Some-next_look g c =
    let before = posted_by c.args.self.now.sender in
    let after = posted_by c.turn-turn.new.sender in
    record {
      posted = ∥∥₁_map c.args.self.now.posted
          (λ was. posted-turn before after c.in-Some.connection c.turn-turn.new.self c.turn-turn.ensures.posts
          (subst (λ old. IfSome old (HasPostedLast before)) c.in-Some.is was));
    }
