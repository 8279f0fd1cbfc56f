use Rattle.svc_world.proofs.world.ChildWorld.know_death.Goals as goal

pub returns : goal.returns
returns g c = record {
  waits = c.ask_linger-waits.result;
  asked = c.ask_linger-waits.new.self;
  asks = c.ask_linger-waits.ensures;
  does = c.keep_or_report.ensures;
}
