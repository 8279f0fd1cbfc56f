-- A host that is made.
use Rattle.std.proofs.Common.{◌≡◌, true, arith}
use Rattle.std.specs.Prelude.{is_none, Option, Some, None}
use Rattle.cmd_svscan.specs.Beginning.{IsNew, Opens}
use Rattle.cmd_svscan.specs.Serving.{Serving}

-- If there was none, a new one opens.
pub opens_new : (old : Option Serving) (new : Serving) → is_none old ≡ true → IsNew new → Opens old (Some new)
opens_new None new none is = is
opens_new (Some old) new none is = absurd (grind (arith, none))
