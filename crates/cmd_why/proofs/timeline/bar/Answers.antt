use Rattle.std.proofs.Common.{rules, ◌≡◌, ◌++◌, ◌∙◌, ap, sym, arith, ℕ, List}
use Rattle.std.specs.List.{flat_map, range_with_len}
use Rattle.cmd_why.specs.Timeline.{bar, column_sign}
use Rattle.cmd_why.proofs.Columns.{signs_more}
use Rattle.cmd_why.proofs.timeline.bar.Goals as goal

pub loop-column-preserved : goal.loop-column-preserved
loop-column-preserved c =
    let f = column_sign c.args.from c.args.width c.args.drawn.now in
    let n = c.loop-column.column in
    let sign = f n in
    let one : c.sign.result.now ≡ sign = search rules in
    record {
      signs = c.push_str.ensures.bytes ∙ ap (λ (t : List ℕ). t ++ c.sign.result.now) c.loop-column.invariant.signs
          ∙ ap (λ (t : List ℕ). flat_map f (range_with_len 0 n) ++ t) one ∙ sym (signs_more f n);
      count = omega (arith, c.push_str.ensures.len, c.loop-column.invariant.count, c.sign.ensures.one);
    }

pub returns : goal.returns
unfolding bar
returns c =
    let f = column_sign c.args.from c.args.width c.args.drawn.now in
    let all : c.loop-column.column ≡ 80 = omega arith in
    c.loop-column.invariant.signs ∙ ap (λ (n : ℕ). flat_map f (range_with_len 0 n)) all
