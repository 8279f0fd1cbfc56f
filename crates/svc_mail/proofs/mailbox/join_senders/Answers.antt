use Rattle.std.proofs.Common.{ap, ◌∙◌}
use Rattle.crossbeam_queue.specs.Passes.{view}
use Rattle.svc_mail.specs.Ends.{record_of}
use Rattle.svc_mail.proofs.Steps.{merges}
use Rattle.svc_mail.proofs.Told.{ended_more}
use Rattle.svc_mail.proofs.mailbox.join_senders.Goals as goal

pub absorb-requires-clause-rule : goal.absorb-requires-clause-rule
absorb-requires-clause-rule g c = merges _ _ _ _ (ap (λ v. v.takes) c.loop-sender.invariant.1) c.into_mark.ensures.posts

pub loop-sender-init : goal.loop-sender-init
loop-sender-init g c = (c.requires.pass, c.requires.knows)

pub loop-sender-preserved : goal.loop-sender-preserved
loop-sender-preserved g c =
    let own = c.into_mark.ensures in (
      (c.absorb.ensures.queue.0 ∙ c.loop-sender.invariant.0.0, c.absorb.ensures.queue.2 ∙ c.loop-sender.invariant.0.1),
      ended_more record_of (view c.args.mark.now) (view c.loop-sender.mark) (view c.into_mark.result)
          (view c.absorb.new.pass) c.loop-sender.yielded
          c.in-Some.sender c.loop-sender.invariant.1 c.absorb.ensures.rule
          (λ i. (own.number i, (view (own.mark i)).row, (view (own.mark i)).seen)),
    )

pub returns-clause-pass : goal.returns-clause-pass
returns-clause-pass g c = c.loop-sender.invariant.0
