use Rattle.std.proofs.Common.{arith, sym, ◌∙◌, take, drop, ◌-◌, length}
use Rattle.std.proofs.lemmas.Grind.{common_steps}
use Rattle.std.proofs.lemmas.Result.{err_from_is_err_and}
use Rattle.cmd_local.proofs.Parts.{Makes-next, Passes-further, Passes-held, Passes-failed, made}
use Rattle.cmd_local.proofs.line.put_lines.Goals as goal

pub returns-then-waits-clause-ok : goal.returns-then-waits-clause-ok
returns-then-waits-clause-ok g c = Passes-held c.args.bytes.now c.loop-at.at c.loop-at.invariant.0

pub returns-in_err-put_part-clause-err : goal.returns-in_err-put_part-clause-err
returns-in_err-put_part-clause-err g c =
    let xs = c.args.bytes.now in
    let part = c.first_part-part in
    let makes = Makes-next (g.Z.Zone.ahead_at c.args.zone.now) c.loop-at.inside xs c.loop-at.at part.result.len
    part.result.ends
    (grind (arith, c.loop-at-test.true)) part.ensures.within part.ensures.some part.ensures.part part.ensures.rest
    (sym c.waits.ensures ∙ c.if-waits.false) in
    let p = err_from_is_err_and c.from_residual.result c.from_residual.ensures.1 in
    rw (p.1) (Passes-failed xs c.loop-at.at part.result.len
    (made (g.Z.Zone.ahead_at c.args.zone.now) c.loop-at.inside
    (take part.result.len (take (length xs - c.loop-at.at) (drop c.loop-at.at xs))))
    c.loop-at.invariant.0 makes c.in_err-put_part.ensures.err)

pub loop-at-preserved : goal.loop-at-preserved
loop-at-preserved g c =
    let xs = c.args.bytes.now in
    let part = c.first_part-part in
    let makes = Makes-next (g.Z.Zone.ahead_at c.args.zone.now) c.loop-at.inside xs c.loop-at.at part.result.len
    part.result.ends
    (grind (arith, c.loop-at-test.true)) part.ensures.within part.ensures.some part.ensures.part part.ensures.rest
    (sym c.waits.ensures ∙ c.if-waits.false) in (
      Passes-further xs c.loop-at.at part.result.len
          (made (g.Z.Zone.ahead_at c.args.zone.now) c.loop-at.inside
          (take part.result.len (take (length xs - c.loop-at.at) (drop c.loop-at.at xs))))
          c.loop-at.invariant.0 makes c.in_ok-put_part.ensures.ok,
      grind (arith, common_steps),
      grind (arith, common_steps),
      grind (arith, common_steps),
    )
