use Rattle.std.proofs.Common.{◌-◌, ◌≡◌, ◌≤◌, length, drop, take}
use Rattle.svc_mail.specs.Ends.{IsSameSender}
use Rattle.svc_house.specs.Mail.{posted_by, sender_in}
use Rattle.svc_door.specs.declared.connection.TheConstants.{MOST, PIECE}
use Rattle.svc_door.specs.Connection.{ConnectionState, Posts}
use Rattle.svc_door.proofs.connection.Connection.post_kept.Given as goal

abbrev pub invariant-loop-self : goal.invariant-loop-self
invariant-loop-self g l =
    let i = l.self-inside in
    let now : ConnectionState = record {
      left = g.G.ByteSource.left i.source;
      said = g.G.ByteSource.said i.source;
      kept = drop i.from (take i.to i.piece);
      taken = i.taken;
      spoke = i.spoke;
      watched = i.watched;
    } in
    record {
      from : i.from ≤ i.to;
      to : i.to ≤ PIECE;
      piece : length i.piece ≡ PIECE;
      most : i.taken ≤ MOST;
      posts : Posts (posted_by l.fn.sender) (posted_by l.sender) l.fn.self now;
      same_sender : IsSameSender (sender_in l.fn.sender) (sender_in l.sender);
      unread : (now.left ≡ l.fn.self.left) × (now.said ≡ l.fn.self.said) × (now.taken ≡ l.fn.self.taken);
      same : (now.spoke ≡ l.fn.self.spoke) × (now.watched ≡ l.fn.self.watched);
    }

abbrev pub decreases-loop-self : goal.decreases-loop-self
decreases-loop-self g l = l.self-inside.to - l.self-inside.from
