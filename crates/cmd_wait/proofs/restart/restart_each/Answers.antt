use Rattle.std.proofs.Common.{rules, ◌≡◌, ℕ, Bool, true, false, List, refl, subst, inl, inr}
use Rattle.tai_status.specs.Words.{texts}
use Rattle.cmd_svc.specs.Svc.{Serves, sending}
use Rattle.svc_client.specs.Turns.{InTurn}
use Rattle.cmd_wait.specs.Steps.{sight}
use Rattle.cmd_wait.specs.Finding.{awaited, entry_folders}
use Rattle.cmd_wait.specs.Marking.{MarksEach, MarksNot}
use Rattle.cmd_wait.specs.Ends.{scene}
use Rattle.cmd_wait.specs.Restarting.{restart_bytes, restart_warning, sent_to}
use Rattle.cmd_wait.specs.declared.finding.AwaitedService.{AwaitedService}
use Rattle.cmd_wait.specs.declared.marking.Purpose.TheVariants.{Restarts}
use Rattle.cmd_wait.proofs.Sending.{folders-given}
use Rattle.cmd_wait.proofs.restart.restart_each.Goals as goal

pub returns-in-Err : goal.returns-in-Err
returns-in-Err g c =
    let calls = g.S.Services.calls in
    let names = texts c.args.options.now.services.now in
    let awaits = c.args.options.now.goal.awaits_supervision in
    let failure = c.in-Err.failure in
    let given : entry_folders c.args.entries.items ≡ names = folders-given c.args.entries.items names c.requires in
    inl (record {
      folder = failure.folder.now;
      fault = failure.fault;
      fails = subst (λ (l : List (List ℕ)). MarksNot Restarts awaits l failure.folder.now failure.fault
          (calls c.args.services.now) (calls c.mark_each.new.services)) given c.in-Err.ensures.err;
      unrested = refl;
      status_is = c.report_failure.ensures.status;
      reported = c.report_failure.ensures.reported;
    })

pub returns-then-end_each : goal.returns-then-end_each
returns-then-end_each g c =
    let calls = g.S.Services.calls in
    let steps = g.P.Pace.steps in
    let names = texts c.args.options.now.services.now in
    let awaits = c.args.options.now.goal.awaits_supervision in
    let items = c.mark_each.new.entries.items in
    let given : entry_folders c.args.entries.items ≡ names = folders-given c.args.entries.items names c.requires in
    let all : c.deref.result.now ≡ items = search rules in
    let step = Serves restart_warning restart_bytes in
    let start = sending (calls c.mark_each.new.services) c.args.faults.now false in
    let end = λ (missed : Bool). sending (calls c.end_each.new.services) c.end_each.new.faults missed in
    let sends : InTurn step (sent_to (awaited items)) start (end c.end_each.result) =
    subst (λ (l : List AwaitedService). InTurn step (sent_to (awaited l)) start (end c.end_each.result)) all
    c.end_each.ensures in
    inr (record {
      marked = awaited items;
      calls = calls c.mark_each.new.services;
      missed = true;
      sent = scene (sight (calls c.end_each.new.services) (steps c.args.pace.now)) c.end_each.new.faults;
      marks = subst (λ (l : List (List ℕ)). MarksEach Restarts awaits l (awaited items)
          (calls c.args.services.now) (calls c.mark_each.new.services)) given c.in_default.ensures.ok;
      sends = subst (λ (missed : Bool). InTurn step (sent_to (awaited items)) start (end missed)) c.if-end_each.true
          sends;
      unrested = refl;
      after = (refl, refl);
    })

pub returns : goal.returns
returns g c =
    let calls = g.S.Services.calls in
    let steps = g.P.Pace.steps in
    let names = texts c.args.options.now.services.now in
    let awaits = c.args.options.now.goal.awaits_supervision in
    let items = c.mark_each.new.entries.items in
    let given : entry_folders c.args.entries.items ≡ names = folders-given c.args.entries.items names c.requires in
    let all : c.deref.result.now ≡ items = search rules in
    let step = Serves restart_warning restart_bytes in
    let start = sending (calls c.mark_each.new.services) c.args.faults.now false in
    let end = λ (missed : Bool). sending (calls c.end_each.new.services) c.end_each.new.faults missed in
    let sends : InTurn step (sent_to (awaited items)) start (end c.end_each.result) =
    subst (λ (l : List AwaitedService). InTurn step (sent_to (awaited l)) start (end c.end_each.result)) all
    c.end_each.ensures in
    inr (record {
      marked = awaited items;
      calls = calls c.mark_each.new.services;
      missed = false;
      sent = scene (sight (calls c.end_each.new.services) (steps c.args.pace.now)) c.end_each.new.faults;
      marks = subst (λ (l : List (List ℕ)). MarksEach Restarts awaits l (awaited items)
          (calls c.args.services.now) (calls c.mark_each.new.services)) given c.in_default.ensures.ok;
      sends = subst (λ (missed : Bool). InTurn step (sent_to (awaited items)) start (end missed)) c.if-end_each.false
          sends;
      unrested = refl;
      after = c.wait_for.ensures;
    })
