use Rattle.std.proofs.Common.{length, refl, rules}
use Rattle.std.proofs.lemmas.Option.{slice_get_read}
use Rattle.std.proofs.lemmas.Result.{on_ok_weaker}
use Rattle.mlog_line.proofs.Ones.{flush_takes, flush_stops, written_next}
use Rattle.mlog_line.proofs.Taking.{on_ok_two, if_err_with, either_so}
use Rattle.mlog_line.proofs.logs.flush_one.Goals as goal

pub returns-clause-hands : goal.returns-clause-hands
returns-clause-hands g c =
    let items = c.args.tails.now.items in
    let tail = c.index_mut.result.now in
    let here = slice_get_read items (length items) c.args.log tail refl c.requires.log c.index_mut.ensures.value in
    record {
      ok = on_ok_two c.flush.result
          (λ done empty. flush_takes items _ _ _ c.args.log tail c.flush.new.self c.requires.log here refl done empty
          c.flush.ensures.stands c.flush.ensures.same)
          c.flush.ensures.done c.flush.ensures.empty;
      stopped = if_err_with c.flush.result _ _
          (λ why failed is_store. flush_stops items _ _ _ c.args.log tail why here failed is_store)
          c.flush.ensures.stopped c.flush.ensures.why;
      length = search rules;
      stays = either_so c.flush.result (λ done. done.stays) (λ failed. failed.front.front.stays) c.flush.ensures.done
          c.flush.ensures.stopped;
    }

pub returns-clause-written : goal.returns-clause-written
returns-clause-written g c =
    on_ok_weaker c.flush.result
    (λ empty before. written_next c.args.tails.now.items _ c.args.log c.flush.new.self c.requires.log refl empty
    before)
    c.flush.ensures.empty
