-- The meaning of a read's result agrees with what the read did.
use Rattle.std.proofs.Common.{◌≡◌, ℕ, zero, suc, ◌<◌, List, [], length, take, Option, None, Some, Ok, Err, Result, IfOk}
use Rattle.std.proofs.Common.{refl, sym, subst, arith}
use Rattle.std.proofs.Math.Dec.{eqb-suc-zero}
use Rattle.std.specs.declared.io.ErrorKind.{ErrorKind}
use Rattle.std.specs.declared.io.ErrorKind.TheVariants.{Interrupted, WouldBlock}
use Rattle.std.specs.declared.io.Error.{Error}
use Rattle.std.specs.Counts.{IsPrefixLen}
use Rattle.std.specs.IoError.{error_kind}
use Rattle.std.specs.Io.KnownBytes.{Consumes, Keeps, ReadConsumes}
use Rattle.tai_status.proofs.Known.{Keeps-then, Keeps-Consumes}
use Rattle.svc_door.specs.declared.byte_source.Heard.{Heard}
use Rattle.svc_door.specs.declared.byte_source.Heard.TheVariants.{Bytes, Nothing, End, Fault}
use Rattle.svc_door.specs.Hearing.{Hears, heard_at, heard_of}

-- no bytes were read
Consumes-nothing : (old new : Option (List ℕ)) → Consumes old new (take 0 []) → Keeps old new
Consumes-nothing None new k = tt
Consumes-nothing (Some xs) None k = absurd k
Consumes-nothing (Some xs) (Some ys) k = sym k

heard-fault : (kind : ErrorKind) (old mid new : Option (List ℕ)) (heard : Heard) (into : List ℕ) → Keeps old mid
    → Keeps mid new
    → heard_at kind ≡ Some heard → Hears old new heard into
heard-fault Interrupted old mid new heard into k l is = absurd cc
heard-fault WouldBlock old mid new heard into k l is =
    let same : Nothing ≡ heard = cc in
    subst (λ h. Hears old new h into) same (Keeps-then old mid new k l)
heard-fault _ old mid new heard into k l is =
    let same : Fault ≡ heard = cc in
    subst (λ h. Hears old new h into) same (Keeps-then old mid new k l)

-- the meaning of a read's result, after reads that gave nothing
pub heard-of : (answer : Result ℕ Error) (old mid new : Option (List ℕ)) (heard : Heard) (into : List ℕ) → Keeps old mid
    → 0 < length into → IfOk answer (λ count. IsPrefixLen count into) → ReadConsumes mid new answer into
    → heard_of answer ≡ Some heard → Hears old new heard into
heard-of (Ok zero) old mid new heard into k room within read is =
    let same : End ≡ heard = cc in
    subst (λ h. Hears old new h into) same
    (Keeps-then old mid new k (Consumes-nothing mid new read.0), read.1 refl room)
heard-of (Ok (suc count)) old mid new heard into k room within read is =
    let same : Bytes (suc count) ≡ heard = cc (eqb-suc-zero count) in
    subst (λ h. Hears old new h into) same (
      omega arith,
      within.0,
      Keeps-Consumes old mid new (take (suc count) into) k read.0,
    )
heard-of (Err fault) old mid new heard into k room within read is =
    heard-fault (error_kind fault) old mid new heard into k read is
