use Rattle.svc_house.specs.Mail.{posted_by}
use Rattle.svc_door.proofs.Posting.{posted-beginning}
use Rattle.svc_door.proofs.part.DoorPart.begin.Goals as goal

pub invariant_of-self : goal.invariant_of-self
invariant_of-self c = record {
  posted = ∣ posted-beginning (posted_by c.args.self.now.sender) _ _ _ _ c.new.result c.new.ensures ∣₁;
}
