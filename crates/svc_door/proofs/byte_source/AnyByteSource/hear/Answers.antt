use Rattle.std.proofs.Common.{◌∙◌, sym, arith}
use Rattle.svc_door.proofs.Answering.{heard-of}
use Rattle.svc_door.proofs.byte_source.AnyByteSource.hear.Goals as goal

pub returns-in-Some-clause-heard : goal.returns-in-Some-clause-heard
returns-in-Some-clause-heard g c =
    heard-of c.read.result (g.S.Read.remaining c.args.self.now) (g.S.Read.remaining c.loop.self)
    (g.S.Read.remaining c.read.new.self) c.in-Some.heard
    c.read.new.buf c.loop.invariant (omega arith) c.read.ensures.bound c.read.ensures.bytes (sym c.heard_of.ensures
    ∙ c.in-Some.is)
