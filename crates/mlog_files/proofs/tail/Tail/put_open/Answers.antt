use Rattle.std.proofs.Common.{ℕ, List, ◌++◌, subst, sym, ◌∙◌, arith}
use Rattle.std.proofs.lemmas.Grind.{common_steps}
use Rattle.std.proofs.lemmas.Result.{err_from_is_err_and}
use Rattle.mlog_files.specs.Files.{append_steps}
use Rattle.mlog_files.specs.Store.{Fails, Goes}
use Rattle.mlog_files.specs.Tails.{standing}
use Rattle.mlog_files.proofs.Goings.{front_open, front_cut}
use Rattle.mlog_files.proofs.Putting.{held_failed, stops_failed, cut_done, cut_stopped, open_done, room_left}
use Rattle.mlog_files.proofs.tail.Tail.put_open.Goals as goal

pub returns-in-Err-clause-stopped : goal.returns-in-Err-clause-stopped
returns-in-Err-clause-stopped g c =
    stops_failed _ _ (held_failed c.args.self.now.size c.args.self.now.keep (standing c.args.self.now)
    c.args.reading.now c.args.bytes.now c.first_cut-cut.result.len c.args.self.now.waiting
    c.first_cut-cut.result.is_full
    c.first_cut-cut.ensures.some c.first_cut-cut.ensures.within c.first_cut-cut.ensures.upto
    c.first_cut-cut.ensures.open_before (sym c.first_cut-cut.ensures.full)
    (subst (λ (t : List ℕ). Fails (g.S.LogStore.state c.args.store.now) (g.S.LogStore.state c.hold.new.store) c.args.log
    (append_steps c.args.self.now.waiting ++ append_steps t)) (grind (arith, common_steps)) c.in-Err.ensures.err))

pub returns-in_err-finish-clause-stopped : goal.returns-in_err-finish-clause-stopped
returns-in_err-finish-clause-stopped g c =
    let p = err_from_is_err_and c.from_residual.result c.from_residual.ensures.1 in
    rw (p.1) (rw (p.2) (cut_stopped c.args.self.now.size c.args.self.now.keep (standing c.args.self.now)
    c.args.reading.now c.args.bytes.now c.first_cut-cut.result.len c.args.self.now.waiting c.hold.new.waiting
    c.first_cut-cut.ensures.some c.first_cut-cut.ensures.within c.first_cut-cut.ensures.upto
    c.first_cut-cut.ensures.open_before (sym c.first_cut-cut.ensures.full ∙ c.if-cut.true)
    (subst (λ (t : List ℕ). Goes (g.S.LogStore.state c.args.store.now) (g.S.LogStore.state c.hold.new.store) c.args.log
    c.args.self.now.waiting c.hold.new.waiting (append_steps t)) (grind (arith, common_steps)) c.in-Ok.ensures.ok)
    c.in_err-finish.ensures.stopped))

pub returns-in_ok-finish-clause-puts : goal.returns-in_ok-finish-clause-puts
returns-in_ok-finish-clause-puts g c = record {
  goes = cut_done c.args.self.now.size c.args.self.now.keep (standing c.args.self.now) c.args.reading.now
      c.args.bytes.now c.first_cut-cut.result.len c.args.self.now.waiting c.hold.new.waiting c.finish.new.self.waiting
      c.first_cut-cut.ensures.some c.first_cut-cut.ensures.within c.first_cut-cut.ensures.upto
      c.first_cut-cut.ensures.open_before (sym c.first_cut-cut.ensures.full ∙ c.if-cut.true)
      (subst (λ (t : List ℕ). Goes (g.S.LogStore.state c.args.store.now) (g.S.LogStore.state c.hold.new.store)
      c.args.log c.args.self.now.waiting c.hold.new.waiting (append_steps t)) (grind (arith, common_steps))
      c.in-Ok.ensures.ok)
      c.in_ok-finish.ensures.ok c.in_ok-finish.ensures.empty;
  stands = (front_cut c.args.self.now.size c.args.self.now.keep (standing c.args.self.now) c.args.reading.now
      c.args.bytes.now c.first_cut-cut.result.len
      c.first_cut-cut.ensures.some c.first_cut-cut.ensures.within c.first_cut-cut.ensures.upto
      c.first_cut-cut.ensures.open_before (sym c.first_cut-cut.ensures.full ∙ c.if-cut.true)).1
      ∙ c.in_ok-finish.ensures.stands;
}

pub returns-else-cut-clause-puts : goal.returns-else-cut-clause-puts
returns-else-cut-clause-puts g c = record {
  goes = open_done c.args.self.now.size c.args.self.now.keep (standing c.args.self.now) c.args.reading.now
      c.args.bytes.now c.first_cut-cut.result.len c.args.self.now.waiting c.hold.new.waiting
      c.first_cut-cut.ensures.some c.first_cut-cut.ensures.within c.first_cut-cut.ensures.open_before
      (sym c.first_cut-cut.ensures.full ∙ c.if-cut.false)
      (subst (λ (t : List ℕ). Goes (g.S.LogStore.state c.args.store.now) (g.S.LogStore.state c.hold.new.store)
      c.args.log c.args.self.now.waiting c.hold.new.waiting (append_steps t)) (grind (arith, common_steps))
      c.in-Ok.ensures.ok);
  stands = (front_open c.args.self.now.size c.args.self.now.keep (standing c.args.self.now) c.args.reading.now
      c.args.bytes.now c.first_cut-cut.result.len
      c.first_cut-cut.ensures.some c.first_cut-cut.ensures.within
      (room_left c.args.self.now.size c.args.self.now.count c.first_cut-cut.result.len _
      (sym c.first_cut-cut.ensures.full ∙ c.if-cut.false)) c.first_cut-cut.ensures.open_before
      (sym c.first_cut-cut.ensures.full ∙ c.if-cut.false)).1;
}
