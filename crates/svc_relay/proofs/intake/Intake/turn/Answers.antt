use Rattle.std.proofs.Common.{◌∙◌}
use Rattle.svc_relay.proofs.Carried.{posts_kept}
use Rattle.svc_relay.proofs.intake.Intake.turn.Goals as goal

pub returns-in-Some-clause-turned : goal.returns-in-Some-clause-turned
returns-in-Some-clause-turned g c =
    posts_kept c.args.self.now c.next.new.self c.post.new.self c.post.result c.in-Some.piece c.next.ensures.sender
    (c.in_ok-piece.ensures.found ∙ c.in-Some.is) c.post.ensures.turned
