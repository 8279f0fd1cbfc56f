use Rattle.std.proofs.Common.{◌≡◌}
use Rattle.tai_status.specs.Label.{nanoseconds}
use Rattle.cmd_why.specs.Timeline.{bar_of, left_end, width}
use Rattle.cmd_why.proofs.timeline.bar_of.Goals as goal

pub returns : goal.returns
returns g c =
    let content = c.args.content.now in
    let now = c.args.now.now in
    let from : c.nanoseconds-from.result ≡ nanoseconds (left_end content now) = cc (
      c.nanoseconds-from.ensures.value,
      c.left_end.ensures,
    ) in
    let wide : c.width-width.result ≡ width (nanoseconds (left_end content now)) (nanoseconds now) =
    cc (from, c.nanoseconds.ensures.value, c.width-width.ensures.value) in
    let all : c.bar.result.bytes ≡ bar_of content c.args.leads now =
    cc (c.bar.ensures, from, wide, c.in_ok-drawn.ensures, c.deref.ensures.value) in
    all
