use Rattle.std.proofs.Common.{rules, ◌≡◌, ◌+◌, ◌<◌, length, take, drop, get_or}
use Rattle.cmd_wait.specs.Finding.{Finds, awaited}
use Rattle.cmd_wait.specs.declared.finding.Finding.TheVariants.{Reached, Waiting}
use Rattle.cmd_wait.proofs.Looking.{as_service, looks-none, looks-here, looks-reached, looks-waiting, looks-all}
use Rattle.cmd_wait.proofs.rounds.look_at_each.Goals as goal

pub loop-at-init : goal.loop-at-init
loop-at-init g c = (looks-none c.args.goal c.args.left.now.items (g.S.Services.calls c.args.services.now), search rules)

pub loop-at-preserved-in-Reached : goal.loop-at-preserved-in-Reached
loop-at-preserved-in-Reached g c =
    let calls = g.S.Services.calls in
    let items = c.loop-at.left.items in
    let i = c.loop-at.at in
    let entry = c.index-entry.result.now in
    let within : i < length items = search rules in
    let is : entry ≡ get_or items i entry = c.index-entry.ensures in
    let found : Finds c.args.goal (as_service entry) Reached (calls c.loop-at.services) (calls c.look.new.services) =
    rw c.in-Reached.is at c.look.ensures in (
      looks-reached c.args.goal (awaited c.args.left.now.items) items c.remove.new.self.items i entry
          (calls c.args.services.now) (calls c.loop-at.services) (calls c.look.new.services)
          within is c.remove.ensures.by_index.2 c.loop-at.invariant.0 found,
      search rules,
    )

pub loop-at-preserved : goal.loop-at-preserved
loop-at-preserved g c =
    let calls = g.S.Services.calls in
    let items = c.loop-at.left.items in
    let i = c.loop-at.at in
    let entry = c.index-entry.result.now in
    let within : i < length items = search rules in
    let is : entry ≡ get_or items i entry = c.index-entry.ensures in
    let found : Finds c.args.goal (as_service entry) Waiting (calls c.loop-at.services) (calls c.look.new.services) =
    rw c.in-Waiting.is at c.look.ensures in (
      looks-waiting c.args.goal (awaited c.args.left.now.items) items i entry (calls c.args.services.now)
          (calls c.loop-at.services) (calls c.look.new.services)
          within is c.loop-at.invariant.0 found,
      search rules,
    )

pub returns-in-Failed-clause-err : goal.returns-in-Failed-clause-err
returns-in-Failed-clause-err g c =
    let calls = g.S.Services.calls in
    let items = c.loop-at.left.items in
    let i = c.loop-at.at in
    let entry = c.index-entry.result.now in
    let within : i < length items = search rules in
    let is : entry ≡ get_or items i entry = c.index-entry.ensures in
    record {
      mark = entry.mark;
      left = awaited (take i items);
      after = awaited (drop (i + 1) items);
      middle = calls c.loop-at.services;
      looked = looks-here c.args.goal (awaited c.args.left.now.items) items i entry (calls c.args.services.now)
          (calls c.loop-at.services) within is c.loop-at.invariant.0;
      fails = rw c.in-Failed.is at c.look.ensures;
    }

pub returns-clause-ok : goal.returns-clause-ok
returns-clause-ok g c =
    let calls = g.S.Services.calls in
    let items = c.loop-at.left.items in
    let all : c.loop-at.at ≡ length items = search rules in
    looks-all c.args.goal (awaited c.args.left.now.items) items c.loop-at.at (calls c.args.services.now)
    (calls c.loop-at.services) all c.loop-at.invariant.0
