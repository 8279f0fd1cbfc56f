use Rattle.std.proofs.Common.{◌≡◌, ◌+◌, ◌++◌, ◌-◌, ap, ◌∙◌, arith, length-append}
use Rattle.circular_buffer.specs.Buffer.{keep_last}
use Rattle.env_title.specs.Title.{without_nul}
use Rattle.env_title.proofs.KeepLast.{run-shown, rest-shown, length-keep_last, same_title}
use Rattle.env_title.proofs.title.Title.push_all.Goals as goal

pub loop-at-preserved : goal.loop-at-preserved
loop-at-preserved g c =
    let items = c.loop-at.self-inside.items.items in
    let capacity = c.loop-at.self-inside.items.capacity in
    let run = c.split_at.result.0.now in
    let found = c.in-Some.ensures in
    record {
      capacity = ap (λ b. b.capacity) c.extend_from_slice.ensures ∙ c.loop-at.invariant.capacity;
      full = rw c.extend_from_slice.ensures
          (length-keep_last capacity (items ++ run) (omega (arith, length-append items run, c.loop-at.invariant.full)));
      shown = rw (c.extend_from_slice.ensures, c.split_at.ensures.front, c.split_at.ensures.back)
          (run-shown capacity items c.self.inside.items.items c.loop-at.rest.now c.args.bytes.now c.in-Some.at
          found.0.high found.1 found.0.before c.loop-at.invariant.shown);
    }

pub returns : goal.returns
returns g c =
    let items = c.loop-at.self-inside.items.items in
    let start = c.self.inside.items.items in
    let capacity = c.loop-at.self-inside.items.capacity in
    let same = c.loop-at.invariant.capacity in
    let room : capacity ≡ c.self.inside.items.capacity + 3 - 3 = omega (arith, same) in
    rw (← c.self.view_is, c.extend_from_slice-2.ensures)
    (same_title
    (rest-shown capacity items start c.loop-at.rest.now c.args.bytes.now c.in_default.ensures c.loop-at.invariant.shown
    ∙ ap (λ n. keep_last n (start ++ without_nul c.args.bytes.now)) room)
    (ap (λ n. n + 3) same))
