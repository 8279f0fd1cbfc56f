use Rattle.std.proofs.Common.{length, refl, rules}
use Rattle.std.proofs.lemmas.Option.{slice_get_read}
use Rattle.std.proofs.lemmas.Result.{on_ok_weaker}
use Rattle.mlog_line.proofs.Ones.{put_takes, put_stops}
use Rattle.mlog_line.proofs.Taking.{if_err_weaker, either_way}
use Rattle.mlog_line.proofs.logs.put_one.Goals as goal

pub returns-then-is_chosen : goal.returns-then-is_chosen
returns-then-is_chosen g c =
    let items = c.args.tails.now.items in
    let tail = c.index_mut.result.now in
    let here = slice_get_read items (length items) c.args.log tail refl c.requires.log c.index_mut.ensures.value in
    rw c.if-is_chosen.true (record {
      ok = on_ok_weaker c.put.result
          (λ puts. put_takes items _ _ _ c.args.log tail c.put.new.self c.args.label.now c.args.bytes.now c.requires.log
          here refl puts c.put.ensures.same)
          c.put.ensures.puts;
      stopped = if_err_weaker c.put.result _ _
          (λ why stopped. put_stops items _ _ _ c.args.log tail c.args.label.now c.args.bytes.now why here stopped)
          c.put.ensures.stopped;
      length = search rules;
      stays = either_way c.put.result _ (λ puts. puts.goes.does.stays) (λ why stopped. stopped.front.front.stays)
          c.put.ensures.puts c.put.ensures.stopped;
    })
