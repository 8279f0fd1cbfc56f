use Rattle.std.proofs.Common.{false, sym, subst}
use Rattle.tai_status.specs.Counted.{IsRead}
use Rattle.mlog_core.specs.Feed.{OpensNext}
use Rattle.cmd_multilog.specs.Stop.{Listening, feed_of}
use Rattle.cmd_multilog.proofs.Stopping.{opens_next}
use Rattle.cmd_multilog.proofs.stop.StoppablePartedInput.next_part.Goals as goal

pub returns-clause-next : goal.returns-clause-next
returns-clause-next g c =
    let inside = c.self.inside in
    let coming = g.S.InputWithChannel.coming inside.input in
    let failures = g.S.InputWithChannel.failures inside.input in
    let old : Listening = record {
      coming = coming;
      failures = failures;
      stopped = inside.stopped;
      rotates = inside.rotates;
      in_line = inside.in_line;
      reads = inside.reads;
      faults = inside.faults;
      cause = inside.cause;
    } in
    let new : Listening = record {
      coming = coming;
      failures = failures;
      stopped = false;
      rotates = false;
      in_line = false;
      reads = inside.reads;
      faults = inside.faults;
      cause = inside.cause;
    } in
    let end = subst (λ (l : Listening). IsRead (feed_of l).device) (sym c.self.view_is) c.requires.end in
    λ is. subst (λ (l : Listening). OpensNext (feed_of l) (feed_of new)) c.self.view_is
    (opens_next old c.if-not-self.false (c.self.invariant c.if-not-self.false) end)
