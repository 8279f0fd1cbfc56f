use Rattle.std.proofs.Common.{◌∙◌, arith}
use Rattle.tai_status.proofs.Recorded.{found_recorded, status_from-record}
use Rattle.tai_status.proofs.decoding.decode.Goals as goal

pub returns-clause-found : goal.returns-clause-found
returns-clause-found c =
    found_recorded c.args.bytes.now c.read_record.result (λ i. omega (arith, c.type_inv.bytes i)) c.read_record.ensures

pub returns-clause-only : goal.returns-clause-only
returns-clause-only c = λ status is r. c.read_record.ensures ∙ status_from-record c.args.bytes.now status is r
