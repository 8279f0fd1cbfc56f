use Rattle.svc_relay.proofs.Passed.{between, lives, service}
use Rattle.svc_relay.proofs.whole.every_byte_passes.Goals as goal

pub returns-clause-between : goal.returns-clause-between
returns-clause-between c intake relay left joins = between intake relay left joins

pub returns-clause-lives : goal.returns-clause-lives
returns-clause-lives c intake relay left joins = lives intake relay left joins

pub returns-clause-service : goal.returns-clause-service
returns-clause-service c intake relay left joins = service intake relay left joins
