use Rattle.std.proofs.Common.{◌≡◌, true, refl, arith, ◌∙◌, sym, [], ◌∷◌}
use Rattle.mlog_files.proofs.Doing.{Stays-then}
use Rattle.mlog_line.proofs.Taking.{Stays-same}
use Rattle.mlog_core.specs.Parts.{play}
use Rattle.mlog_core.proofs.Partly.{ran_part, rotation_stopped}
use Rattle.mlog_core.proofs.turns.run_parts.Goals as goal

pub parts-init : goal.parts-init
parts-init g c = record {
  begun = [];
  turns = refl;
  logs = c.requires.logs;
  files = c.requires.files;
  stays = Stays-same _;
}

pub parts-preserved : goal.parts-preserved
parts-preserved g c =
    let before = c.parts.invariant in
    let here = play (g.I.PartedInput.feed c.parts.input) (g.S.LogStore.state c.parts.store)
    (g.C.TimeSource.readings c.parts.clock) in
    let ended = play (g.I.PartedInput.feed c.run_part.new.input) (g.S.LogStore.state c.run_part.new.store)
    (g.C.TimeSource.readings c.run_part.new.clock) in
    let ran = c.in-Ok-run_part.ensures in
    let turned = c.in-Ok-rotate_all.ensures.done in
    let first = ran.stays in
    let second = turned.stays in
    let visible : c.next_part.result ≡ true = c.if-not-next_part.false in
    record {
      begun = here ∷ before.begun;
      turns = (
        before.turns,
        record {
          ended = ended;
          runs = ran_part _ c.args.script.now here ended ran.runs ran.end ran.works ran.behind;
          heard = sym c.next_part.ensures.asked ∙ visible;
          opens = c.next_part.ensures.next visible;
          rotates = turned;
        },
      );
      logs = let l = before.logs in let a = first.logs in let b = second.logs in omega (arith, l, a, b);
      files = let l = before.files in let a = first.status_files in let b = second.status_files in
          omega (arith, l, a, b);
      stays = Stays-then before.stays (Stays-then first second);
    }

pub returns-in-Err-rotate_all-clause-runs : goal.returns-in-Err-rotate_all-clause-runs
returns-in-Err-rotate_all-clause-runs g c =
    let before = c.parts.invariant in
    let here = play (g.I.PartedInput.feed c.parts.input) (g.S.LogStore.state c.parts.store)
    (g.C.TimeSource.readings c.parts.clock) in
    let ended = play (g.I.PartedInput.feed c.run_part.new.input) (g.S.LogStore.state c.run_part.new.store)
    (g.C.TimeSource.readings c.run_part.new.clock) in
    let now = play (g.I.PartedInput.feed c.next_part.new.self) (g.S.LogStore.state c.rotate_all.new.store)
    (g.C.TimeSource.readings c.rotate_all.new.clock) in
    let ran = c.in-Ok-run_part.ensures in
    let visible : c.next_part.result ≡ true = c.if-not-next_part.false in
    record {
      begun = before.begun;
      last = here;
      turns = before.turns;
      ends = rotation_stopped c.in-Err-rotate_all.why c.fault_of.result c.args.script.now here now
          c.fault_of.ensures.store c.fault_of.ensures.spent (record {
            ended = ended;
            runs = ran_part _ c.args.script.now here ended ran.runs ran.end ran.works ran.behind;
            heard = sym c.next_part.ensures.asked ∙ visible;
            opens = c.next_part.ensures.next visible;
            rotates = c.in-Err-rotate_all.ensures.stopped;
          });
    }
