use Rattle.std.proofs.Common.{◌≡◌, ◌-◌, []}
use Rattle.svc_mail.specs.Ends.{IsSameSender}
use Rattle.svc_house.specs.Mail.{posted_by, sender_in}
use Rattle.svc_door.specs.declared.connection.TheConstants.{MOST}
use Rattle.svc_door.specs.Connection.{Posts}
use Rattle.svc_door.proofs.connection.Connection.serve.Given as goal

abbrev pub invariant-loop-self : goal.invariant-loop-self
invariant-loop-self g l = record {
  posts : Posts (posted_by l.fn.sender) (posted_by l.sender) l.fn.self l.self;
  same_sender : IsSameSender (sender_in l.fn.sender) (sender_in l.sender);
  none : l.self.kept ≡ [];
  same : (l.self.spoke ≡ l.fn.self.spoke) × (l.self.watched ≡ l.fn.self.watched);
}

abbrev pub decreases-loop-self : goal.decreases-loop-self
decreases-loop-self g l = MOST - l.self.taken
