use Rattle.std.proofs.Common.{◌∙◌, arith}
use Rattle.tai_status.proofs.FullRecorded.{found_loaded, loaded_from-record}
use Rattle.tai_status.proofs.loading.decode_any.Goals as goal

pub returns-clause-found : goal.returns-clause-found
returns-clause-found c =
    found_loaded c.args.bytes.now c.load.result (λ i. omega (arith, c.type_inv.bytes i)) c.load.ensures

pub returns-clause-only : goal.returns-clause-only
returns-clause-only c = λ loaded is. c.load.ensures ∙ loaded_from-record c.args.bytes.now loaded is
