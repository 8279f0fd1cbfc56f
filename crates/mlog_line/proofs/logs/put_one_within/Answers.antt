use Rattle.std.proofs.Common.{length, refl, rules}
use Rattle.std.proofs.lemmas.Option.{slice_get_read}
use Rattle.mlog_line.proofs.Running.{within_takes, within_stops, others_as_before}
use Rattle.mlog_line.proofs.Taking.{on_ok_two, if_err_with, either_so}
use Rattle.mlog_line.proofs.logs.put_one_within.Goals as goal

pub returns-clause-hands : goal.returns-clause-hands
returns-clause-hands g c =
    let items = c.args.tails.now.items in
    let tail = c.index_mut.result.now in
    let here = slice_get_read items (length items) c.args.log tail refl c.requires.log c.index_mut.ensures.value in
    record {
      ok = on_ok_two c.put_within.result
          (λ done stands text is. within_takes items _ _ _ c.args.log tail c.put_within.new.self c.args.bytes.now text
          c.requires.log here refl c.requires.room
          done stands c.put_within.ensures.same is)
          c.put_within.ensures.done c.put_within.ensures.stands;
      stopped = if_err_with c.put_within.result _ _
          (λ why failed is_store text is. within_stops items _ _ _ c.args.log tail c.args.bytes.now text why here
          c.requires.room failed is_store is)
          c.put_within.ensures.stopped c.put_within.ensures.why;
      length = search rules;
      stays = either_so c.put_within.result (λ done. done.does.stays) (λ failed. failed.front.front.stays)
          c.put_within.ensures.done c.put_within.ensures.stopped;
    }

pub returns-clause-others : goal.returns-clause-others
returns-clause-others g c =
    λ n above. others_as_before c.args.tails.now.items _ c.args.log c.put_within.new.self refl n above
