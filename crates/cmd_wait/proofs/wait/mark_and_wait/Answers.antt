use Rattle.std.proofs.Common.{◌≡◌, ℕ, List, refl, subst, inl, inr}
use Rattle.tai_status.specs.Words.{texts}
use Rattle.cmd_wait.specs.Finding.{awaited, entry_folders}
use Rattle.cmd_wait.specs.Marking.{MarksEach, MarksNot}
use Rattle.cmd_wait.specs.declared.marking.Purpose.TheVariants.{Waits}
use Rattle.cmd_wait.proofs.Sending.{folders-given}
use Rattle.cmd_wait.proofs.wait.mark_and_wait.Goals as goal

pub returns-in-Err : goal.returns-in-Err
returns-in-Err g c =
    let calls = g.S.Services.calls in
    let names = texts c.args.options.now.services.now in
    let awaits = c.args.options.now.goal.awaits_supervision in
    let failure = c.in-Err.failure in
    let given : entry_folders c.args.entries.items ≡ names = folders-given c.args.entries.items names c.requires in
    inl (record {
      folder = failure.folder.now;
      fault = failure.fault;
      fails = subst (λ (l : List (List ℕ)). MarksNot Waits awaits l failure.folder.now failure.fault
          (calls c.args.services.now) (calls c.mark_each.new.services)) given c.in-Err.ensures.err;
      unrested = refl;
      status_is = c.report_failure.ensures.status;
      reported = c.report_failure.ensures.reported;
    })

pub returns : goal.returns
returns g c =
    let calls = g.S.Services.calls in
    let names = texts c.args.options.now.services.now in
    let awaits = c.args.options.now.goal.awaits_supervision in
    let marked = awaited c.mark_each.new.entries.items in
    let given : entry_folders c.args.entries.items ≡ names = folders-given c.args.entries.items names c.requires in
    inr (record {
      marked = marked;
      calls = calls c.mark_each.new.services;
      marks = subst (λ (l : List (List ℕ)). MarksEach Waits awaits l marked
          (calls c.args.services.now) (calls c.mark_each.new.services)) given c.in_default.ensures.ok;
      waits = c.wait_for.ensures;
    })
