use Rattle.std.proofs.Common.{rules, ◌≡◌, ℕ, List, [], length, refl, sym, subst, inl, inr}
use Rattle.tai_status.specs.Counted.{Device, Reports}
use Rattle.svc_client.specs.Turns.{InTurn}
use Rattle.cmd_wait.specs.Finding.{Awaited, awaited, entry_folders, folders}
use Rattle.cmd_wait.specs.declared.finding.AwaitedService.{AwaitedService}
use Rattle.cmd_wait.specs.Steps.{Sight, sight, IsOver}
use Rattle.cmd_wait.specs.Watching.{Watched, watched, first_watch, Pauses}
use Rattle.cmd_wait.specs.declared.watch.Watch.{Watch}
use Rattle.cmd_wait.specs.Rounds.{LooksAt}
use Rattle.cmd_wait.specs.Ends.{scene, ReportsOver, fault_note, order_of, report_of}
use Rattle.cmd_wait.proofs.Found.{all-found}
use Rattle.cmd_wait.proofs.Waiting.{IsUnderWay, way-begins, way-more, way-ends, none-left, some-left}
use Rattle.cmd_wait.proofs.Looking.{folders-awaited}
use Rattle.cmd_wait.proofs.wait.wait_for.Goals as goal

pub loop-init : goal.loop-init
loop-init g c =
    let o = order_of c.args.options.now in
    let asked = awaited c.args.entries.items in
    let command = c.args.command.now in
    let calls = g.S.Services.calls c.args.services.now in
    let steps = g.P.Pace.steps in
    let old : Sight = sight calls (steps c.args.pace.now) in
    let now : Sight = sight calls (steps c.now-begin.new.self) in
    let begins : IsUnderWay o asked c.now-begin.result old asked (watched first_watch now) =
    way-begins o asked c.now-begin.result calls (steps c.args.pace.now) (steps c.now-begin.new.self)
    c.now-begin.ensures.read in (
      subst (λ (watch : Watch). IsUnderWay o asked c.now-begin.result old asked (watched watch now))
          (sym c.new-watch.ensures) begins,
      refl,
    )

pub returns-in-Err : goal.returns-in-Err
returns-in-Err g c =
    let o = order_of c.args.options.now in
    let asked = awaited c.args.entries.items in
    let command = c.args.command.now in
    let calls = g.S.Services.calls in
    let steps = g.P.Pace.steps in
    let failure = c.in-Err.failure in
    let reported : Reports c.args.faults.now c.report_failure.new.faults
    (report_of command failure.folder.now (fault_note failure.fault)) =
    subst (λ (d : Device). Reports d c.report_failure.new.faults
    (report_of command failure.folder.now (fault_note failure.fault)))
    c.loop.invariant.1 c.report_failure.ensures.reported in
    way-ends command o asked c.now-begin.result c.report_failure.result (sight (calls c.args.services.now) (steps c.args.pace.now))
    (watched c.loop.watch (sight (calls c.loop.services) (steps c.loop.pace)))
    (awaited c.loop.left.items) c.args.faults.now
    (scene (sight (calls c.look_at_each.new.services) (steps c.now-now.new.self)) c.report_failure.new.faults)
    c.loop.invariant.0
    (inr (inr (record {
      now = c.now-now.result;
      folder = failure.folder.now;
      fault = failure.fault;
      read = c.now-now.ensures.read;
      fails = c.in-Err.ensures.err;
      status_is = c.report_failure.ensures.status;
      reported = reported;
    })))

pub returns-then-is_empty : goal.returns-then-is_empty
returns-then-is_empty g c =
    let o = order_of c.args.options.now in
    let asked = awaited c.args.entries.items in
    let command = c.args.command.now in
    let calls = g.S.Services.calls in
    let steps = g.P.Pace.steps in
    let items = c.look_at_each.new.left.items in
    let empty : length items ≡ 0 = search rules in
    let looked : LooksAt o.goal (awaited c.loop.left.items) (awaited items) [] (calls c.loop.services)
    (calls c.look_at_each.new.services) = c.in_default.ensures.ok in
    let nothing : LooksAt o.goal (awaited c.loop.left.items) [] [] (calls c.loop.services)
    (calls c.look_at_each.new.services) =
    subst (λ (left : List Awaited). LooksAt o.goal (awaited c.loop.left.items) left [] (calls c.loop.services)
    (calls c.look_at_each.new.services))
    (none-left items empty) looked in
    way-ends command o asked c.now-begin.result 0 (sight (calls c.args.services.now) (steps c.args.pace.now))
    (watched c.loop.watch (sight (calls c.loop.services) (steps c.loop.pace)))
    (awaited c.loop.left.items) c.args.faults.now
    (scene (sight (calls c.look_at_each.new.services) (steps c.now-now.new.self)) c.loop.faults)
    c.loop.invariant.0
    (inl (record {
      now = c.now-now.result;
      takes = record {
        read = c.now-now.ensures.read;
        looked = nothing;
      };
      status_is = refl;
      unreported = c.loop.invariant.1;
      found = all-found c.loop.invariant.0.waits (calls c.loop.services) (calls c.look_at_each.new.services) nothing;
    }))

pub returns-then-is_over : goal.returns-then-is_over
returns-then-is_over g c =
    let o = order_of c.args.options.now in
    let asked = awaited c.args.entries.items in
    let command = c.args.command.now in
    let calls = g.S.Services.calls in
    let steps = g.P.Pace.steps in
    let items = c.look_at_each.new.left.items in
    let some : length items ≡ 0 → ⊥ = search rules in
    let over : IsOver o.limit c.now-begin.result c.now-now.result = search rules in
    let all : c.deref.result.now ≡ items = search rules in
    let over_each = λ (left : List (List ℕ)) (d : Device).
    InTurn (ReportsOver command o.goal.state) left d c.report_over.new.faults in
    let reported : over_each (folders (awaited items)) c.args.faults.now =
    subst (λ (left : List (List ℕ)). over_each left c.args.faults.now) (sym (folders-awaited items))
    (subst (λ (d : Device). over_each (entry_folders items) d) c.loop.invariant.1
    (subst (λ (left : List AwaitedService). over_each (entry_folders left) c.loop.faults) all c.report_over.ensures)) in
    way-ends command o asked c.now-begin.result 99 (sight (calls c.args.services.now) (steps c.args.pace.now))
    (watched c.loop.watch (sight (calls c.loop.services) (steps c.loop.pace)))
    (awaited c.loop.left.items) c.args.faults.now
    (scene (sight (calls c.look_at_each.new.services) (steps c.now-now.new.self)) c.report_over.new.faults)
    c.loop.invariant.0
    (inr (inl (record {
      now = c.now-now.result;
      left = awaited items;
      takes = record { read = c.now-now.ensures.read; looked = c.in_default.ensures.ok };
      some = some-left items some;
      over = over;
      status_is = refl;
      reported = reported;
    })))

pub loop-preserved : goal.loop-preserved
loop-preserved g c =
    let o = order_of c.args.options.now in
    let asked = awaited c.args.entries.items in
    let command = c.args.command.now in
    let calls = g.S.Services.calls in
    let steps = g.P.Pace.steps in
    let items = c.look_at_each.new.left.items in
    let some : length items ≡ 0 → ⊥ = search rules in
    let in_time : IsOver o.limit c.now-begin.result c.now-now.result → ⊥ = search rules in
    let all : c.deref-in-loop.result.now ≡ items = search rules in
    let was : Watched = watched c.loop.watch (sight (calls c.loop.services) (steps c.loop.pace)) in
    let middle : Watched =
    watched c.loop.watch (sight (calls c.look_at_each.new.services) (steps c.now-now.new.self)) in
    let new : Watched = watched c.pause.new.watch (sight (calls c.pause.new.services) (steps c.pause.new.pace)) in
    let pauses : Pauses o.limit c.now-begin.result (folders (awaited items)) middle new =
    subst (λ (left : List (List ℕ)). Pauses o.limit c.now-begin.result left middle new) (sym (folders-awaited items))
    (subst (λ (left : List AwaitedService). Pauses o.limit c.now-begin.result (entry_folders left) middle new) all
    c.pause.ensures) in (
      way-more o asked c.now-begin.result c.now-now.result (sight (calls c.args.services.now) (steps c.args.pace.now))
          (awaited c.loop.left.items) (awaited items)
          was new (calls c.look_at_each.new.services) (steps c.now-now.new.self)
          c.loop.invariant.0 c.now-now.ensures.read c.in_default.ensures.ok (some-left items some) in_time pauses,
      c.loop.invariant.1,
    )
