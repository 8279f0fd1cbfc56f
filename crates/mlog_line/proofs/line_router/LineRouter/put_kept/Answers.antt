use Rattle.std.proofs.Common.{ℕ, List, ap, ◌∙◌, ◌-◌, ◌++◌, length, rules}
use Rattle.std.proofs.lemmas.Result.{on_ok_weaker, err_from_is_err_and}
use Rattle.mlog_files.proofs.Doing.{Stays-then}
use Rattle.mlog_line.specs.LineRouter.{Place}
use Rattle.mlog_line.specs.Outputs.{outputs}
use Rattle.mlog_line.proofs.Taking.{if_err_weaker, Stays-same}
use Rattle.mlog_line.proofs.Handing.{plain_takes, plain_stops, hold_at, hold_grows, full_stopped, full_grows}
use Rattle.mlog_line.proofs.Handing.{full_goes_stopped, full_at, room_is, front_is, parts_are}
use Rattle.mlog_line.proofs.line_router.LineRouter.put_kept.Goals as goal

pub returns-then-bytes-room : goal.returns-then-bytes-room
returns-then-bytes-room g c =
    let p = c.args.self.now in
    let kept_is = c.as_slice.ensures ∙ ap (λ (q : Place). q.front) c.self.view_is in
    let room = room_is p.front c.as_slice.result.now c.args.bytes.now kept_is c.if-bytes-room.true in
    record {
      at = λ line at. hold_at c.args.script.now p _ _ _ c.args.label.now line c.args.bytes.now c.requires.kept
          (ap (λ (q : Place). q.decided) c.self.view_is ∙ c.requires.kept)
          (c.push.ensures ∙ ap (λ (t : List ℕ). t ++ c.args.bytes.now) (ap (λ (q : Place). q.front) c.self.view_is))
          room at;
      grows = λ line at. hold_grows c.args.script.now p c.args.label.now line c.args.bytes.now _ _ c.requires.kept
          (ap (λ (q : Place). outputs q.tails (g.S.LogStore.state c.args.store.now)) c.self.view_is)
          room at;
      stopped = tt;
      serves = search rules;
      stays = Stays-same _;
    }

pub returns-in_err-decide : goal.returns-in_err-decide
returns-in_err-decide g c =
    let p = c.args.self.now in
    let kept_is = c.as_slice.ensures ∙ ap (λ (q : Place). q.front) c.self.view_is in
    let f = front_is p.front c.as_slice.result.now c.args.bytes.now c.push-2.new.self c.self.inside.kept kept_is
    (ap (λ (q : Place). q.front) c.self.view_is) c.self.invariant c.if-bytes-room.false c.push-2.ensures in
    let r = err_from_is_err_and c.from_residual.result c.from_residual.ensures.1 in
    let decides = c.in_err-decide.ensures.decides in
    rw (r.1, r.2) (record {
      at = tt;
      grows = tt;
      stopped = λ line at. full_stopped c.args.script.now p c.args.label.now line _ _ c.args.bytes.now c.push-2.new.self
          _ _ _ _ c.requires.kept
          (ap (λ (q : Place). outputs q.tails (g.S.LogStore.state c.args.store.now)) c.self.view_is)
          f.0 f.1 (parts_are (1000 - length c.as_slice.result.now) c.args.bytes.now)
          (plain_stops c.args.script.now c.args.label.now c.push-2.new.self decides.stopped) at;
      serves = decides.serves;
      stays = decides.stays;
    })

pub returns : goal.returns
returns g c =
    let p = c.args.self.now in
    let script = c.args.script.now in
    let kept_is = c.as_slice.ensures ∙ ap (λ (q : Place). q.front) c.self.view_is in
    let f = front_is p.front c.as_slice.result.now c.args.bytes.now c.push-2.new.self c.self.inside.kept kept_is
    (ap (λ (q : Place). q.front) c.self.view_is) c.self.invariant c.if-bytes-room.false c.push-2.ensures in
    let parts = parts_are (1000 - length c.as_slice.result.now) c.args.bytes.now in
    let same = (ap (λ (q : Place). outputs q.tails (g.S.LogStore.state c.args.store.now)) c.self.view_is) in
    let later = ap (λ (q : Place). outputs q.tails (g.S.LogStore.state c.decide.new.store)) c.self-2.view_is in
    let flags = c.logs.ensures ∙ ap (λ (q : Place). q.chosen.logs) c.self-2.view_is in
    let decides = c.in_ok-decide.ensures.decides in
    let takes = plain_takes script c.args.label.now c.push-2.new.self decides.takes in
    record {
      at = on_ok_weaker c.put_chosen.result
          (λ k line at. full_at script p c.args.label.now line _ _ c.args.bytes.now c.push-2.new.self _ _ _
          c.requires.kept f.0 f.1 parts
          (ap (λ (q : Place). q.decided) c.self-2.view_is ∙ c.in_ok-decide.ensures.decided)
          (ap (λ (q : Place). q.chosen) c.self-2.view_is ∙ c.in_ok-decide.ensures.chosen) at)
          c.put_chosen.ensures.ok;
      grows = on_ok_weaker c.put_chosen.result
          (λ k line at. full_grows script p c.args.label.now line _ _ c.args.bytes.now c.push-2.new.self _ _ _ _ _ _ _
          c.requires.kept same later f.0 f.1 parts takes
          c.in_ok-decide.ensures.chosen flags k at)
          c.put_chosen.ensures.ok;
      stopped = if_err_weaker c.put_chosen.result _ _
          (λ why k line at. full_goes_stopped script p c.args.label.now line _ _ c.args.bytes.now c.push-2.new.self _ _
          _ _ _ _ _ why c.requires.kept same later f.0 f.1 parts takes
          c.in_ok-decide.ensures.chosen flags k at)
          c.put_chosen.ensures.stopped;
      serves = search rules;
      stays = Stays-then decides.stays c.put_chosen.ensures.stays;
    }
