-- What a look at services does.
use Rattle.std.specs.Prelude.{List, Option}
use Rattle.tai_status.specs.Label.{Tai64n}
use Rattle.svc_client.specs.Calls.{Call}

-- The calls that were made, and what the clock returned.
pub record Sight : Type 0 where
  pub calls : Option (List Call)
  pub readings : Option (List Tai64n)

abbrev pub sight : (calls : Option (List Call)) (readings : Option (List Tai64n)) → Sight
sight calls readings = record { calls = calls; readings = readings }
