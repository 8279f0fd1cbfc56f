use Rattle.std.proofs.Common.{refl, ◌∙◌}
use Rattle.svc_house.specs.Mail.{posted_by, sender_in}
use Rattle.svc_door.proofs.Posting.{Posts-read, Posts-then, same-sender-then}
use Rattle.svc_door.proofs.connection.Connection.serve.Goals as goal

pub returns-then-not-post_kept-2-clause-posts : goal.returns-then-not-post_kept-2-clause-posts
returns-then-not-post_kept-2-clause-posts g c =
    let was = c.loop-self.invariant in
    let before = posted_by c.loop-self.sender in
    let read = Posts-read before c.loop-self.self c.read.new.self was.none c.in-Bytes.ensures.gives
    c.in-Bytes.ensures.count c.in-Bytes.ensures.most in
    Posts-then _ before _ _ c.loop-self.self _ was.posts
    (Posts-then before before _ _ c.read.new.self _ read c.if-not-post_kept-2.ensures.posts)

pub loop-self-preserved : goal.loop-self-preserved
loop-self-preserved g c =
    let was = c.loop-self.invariant in
    let before = posted_by c.loop-self.sender in
    let read = Posts-read before c.loop-self.self c.read.new.self was.none c.in-Bytes.ensures.gives
    c.in-Bytes.ensures.count c.in-Bytes.ensures.most in
    let posted = c.if-not-post_kept-2.ensures in
    record {
      posts = Posts-then _ before _ _ c.loop-self.self _ was.posts
          (Posts-then before before _ _ c.read.new.self _ read posted.posts);
      same_sender = same-sender-then (sender_in c.args.sender.now) (sender_in c.loop-self.sender)
          (sender_in c.post_kept-in-Bytes.new.sender) was.same_sender posted.same_sender;
      none = posted.all refl;
      same = (
        posted.same.0 ∙ c.in-Bytes.ensures.same.0 ∙ was.same.0,
        posted.same.1 ∙ c.in-Bytes.ensures.same.1 ∙ was.same.1,
      );
    }
