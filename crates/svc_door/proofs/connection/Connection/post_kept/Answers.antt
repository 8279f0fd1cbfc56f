use Rattle.std.proofs.Common.{arith, ◌≤◌, length, drop, take, slice_index, refl, ap, subst}
use Rattle.svc_house.specs.Mail.{posted_by, sender_in}
use Rattle.svc_door.specs.Connection.{ConnectionState, Posts}
use Rattle.svc_door.proofs.Posting.{kept-first, kept-some, Posts-same, Posts-one, same-sender-then, was-full-same}
use Rattle.svc_door.proofs.connection.Connection.post_kept.Goals as goal

pub returns-in-Err-clause-some : goal.returns-in-Err-clause-some
returns-in-Err-clause-some g c =
    let i = c.loop-self.self-inside in
    let within : i.to ≤ length i.piece = omega arith in
    λ _. kept-some i.piece i.from i.to c.loop-self-test.true within

pub returns-in-Err-clause-full : goal.returns-in-Err-clause-full
returns-in-Err-clause-full g c =
    let refused = c.in-Err.ensures in
    λ _. was-full-same (sender_in c.loop-self.sender) (sender_in c.post.new.self)
    (refused.same, refused.unposted, refused.unseen, refused.unheard) refused.full.1

pub loop-self-init : goal.loop-self-init
loop-self-init g c =
    let accepted = posted_by c.args.sender.now in
    let is = c.self.view_is in
    let i = c.self.inside in
    let now : ConnectionState = record {
      left = g.G.ByteSource.left i.source;
      said = g.G.ByteSource.said i.source;
      kept = drop i.from (take i.to i.piece);
      taken = i.taken;
      spoke = i.spoke;
      watched = i.watched;
    } in
    record {
      from = c.self.invariant.0;
      to = c.self.invariant.1;
      piece = c.self.invariant.2;
      most = c.self.invariant.3;
      posts = subst (λ (v : ConnectionState). Posts accepted accepted v now) is
          (Posts-same accepted now c.self.invariant.3);
      same_sender = (refl, refl, refl, refl);
      unread = (
        ap (λ (v : ConnectionState). v.left) is,
        ap (λ (v : ConnectionState). v.said) is,
        ap (λ (v : ConnectionState). v.taken) is,
      );
      same = (ap (λ (v : ConnectionState). v.spoke) is, ap (λ (v : ConnectionState). v.watched) is);
    }

pub loop-self-preserved : goal.loop-self-preserved
loop-self-preserved g c =
    let i = c.loop-self.self-inside in
    let was = c.loop-self.invariant in
    let byte = slice_index i.piece i.from in
    let within : i.to ≤ length i.piece = omega arith in
    let kept = kept-first i.piece i.from i.to c.loop-self-test.true within in
    record {
      from = omega arith;
      to = was.to;
      piece = was.piece;
      most = was.most;
      posts = Posts-one _ _ _ _ _ _ byte was.posts refl refl c.in-Ok.ensures.posted kept;
      same_sender = same-sender-then (sender_in c.args.sender.now) (sender_in c.loop-self.sender)
          (sender_in c.post.new.self) was.same_sender c.in-Ok.ensures.same;
      unread = was.unread;
      same = was.same;
    }
