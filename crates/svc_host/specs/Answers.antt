-- What a world has answered.
use Rattle.std.specs.Prelude.{List, [], Option, Some, None}
use Rattle.sup_core.specs.declared.event.Event.{Event}
use Rattle.svc_house.specs.declared.call.Call.{Call}
use Rattle.svc_house.specs.Calls.{answers_in}

-- the starts, failed starts and deaths that a world answered, if it says them
abbrev pub answered : Option (List Call) → List Event
answered None = []
answered (Some calls) = answers_in calls
