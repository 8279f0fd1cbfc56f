use Rattle.std.specs.Io.KnownBytes.{Keeps}
use Rattle.svc_door.proofs.byte_source.AnyByteSource.hear.Given as goal

abbrev pub invariant-loop : goal.invariant-loop
invariant-loop g l = Keeps (g.S.Read.remaining l.fn.self) (g.S.Read.remaining l.self)
