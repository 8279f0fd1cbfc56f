use Rattle.std.proofs.Common.{[], refl, arith}
use Rattle.tai_status.proofs.Stamped.{Consumes-none}
use Rattle.svc_door.specs.Connection.{beginning}
use Rattle.svc_door.proofs.Posting.{posted-along}
use Rattle.svc_door.proofs.law.turns_post_the_first_bytes.Goals as goal

pub returns : goal.returns
returns c = λ opening said watched now turns last along.
    posted-along opening [] turns (beginning opening said watched now) last
    (record { gives = Consumes-none opening; count = refl; most = omega arith }) along
