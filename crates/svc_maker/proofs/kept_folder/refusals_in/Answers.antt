use Rattle.std.proofs.Common.{◌∙◌}
use Rattle.svc_maker.proofs.Admitting.{so-far}
use Rattle.svc_maker.proofs.kept_folder.refusals_in.Goals as goal

pub returns : goal.returns
returns g c =
    so-far c.args.kept.now c.loop-one.one-index c.loop-one.all.items c.loop-one.invariant

pub returns-then-is_err : goal.returns-then-is_err
returns-then-is_err g c =
    so-far c.args.kept.now c.loop-one.one-index c.reserve.new.self.items
    (c.reserve.ensures.items ∙ c.loop-one.invariant)
