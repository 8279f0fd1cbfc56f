use Rattle.svc_house.proofs.Halves.{turned-mended}
use Rattle.svc_house.proofs.house.House.turn.Goals as goal

pub returns-clause-turned : goal.returns-clause-turned
returns-clause-turned g c =
    turned-mended c.args.self.now c.mend.new.self c.turn_mended.new.self c.turn_mended.result c.mend.ensures.rest
    c.turn_mended.ensures.turned
