use Rattle.std.proofs.Common.{◌++◌, List, ℕ, OnOk, OnErr, subst, sym, ◌∙◌}
use Rattle.tai_status.specs.Block.{Puts}
use Rattle.tai_status.specs.Counted.{WroteFront}
use Rattle.cmd_local.proofs.Labels.{timed_line}
use Rattle.cmd_local.proofs.line.put_line.Goals as goal

pub returns-in-Some-time_of-clause-ok : goal.returns-in-Some-time_of-clause-ok
returns-in-Some-time_of-clause-ok g c =
    let same = timed_line (g.Z.Zone.ahead_at c.args.zone.now) c.args.line.now c.in-Some.stamp
    (record { sec = c.stamp.inside.sec; nano = c.stamp.inside.nano }) c.in-Some-time_of.time
    (sym c.label_of.ensures.value ∙ c.in-Some.is) c.stamp.view_is (sym c.time_of.ensures.value
    ∙ c.in-Some-time_of.is) in
    let put = c.put_stamped in
    subst (λ (t : List ℕ). OnOk put.result (Puts c.args.writer.now put.new.writer c.args.block.now put.new.block t))
    same put.ensures.ok

pub returns-in-Some-time_of-clause-err : goal.returns-in-Some-time_of-clause-err
returns-in-Some-time_of-clause-err g c =
    let same = timed_line (g.Z.Zone.ahead_at c.args.zone.now) c.args.line.now c.in-Some.stamp
    (record { sec = c.stamp.inside.sec; nano = c.stamp.inside.nano }) c.in-Some-time_of.time
    (sym c.label_of.ensures.value ∙ c.in-Some.is) c.stamp.view_is (sym c.time_of.ensures.value
    ∙ c.in-Some-time_of.is) in
    let put = c.put_stamped in
    subst (λ (t : List ℕ). OnErr put.result (WroteFront c.args.writer.now put.new.writer (c.args.block.now ++ t))) same
    put.ensures.err
