-- What the world of a service takes over from an earlier svscan.
use Rattle.std.specs.Prelude.{◌≡◌, Option, Some, None, true, false}
use Rattle.svc_record.specs.Place.{occupied}
use Rattle.svc_record.specs.declared.place.Place.{Place}
use Rattle.svc_record.specs.declared.process.Fate.{Fate}
use Rattle.svc_record.specs.declared.process.Fate.TheVariants.{Lives}
use Rattle.svc_record.specs.declared.process.ProcessId.{ProcessId}
use Rattle.svc_world.specs.declared.takeover.Remains.{Remains}
use Rattle.svc_world.specs.declared.takeover.Takeover.{Takeover}

-- what is taken over, if this became of the recorded process:
--
-- - A process that lives is adopted, and is in the place. No start is open, so nothing is started next to it.
-- - Otherwise the start that the earlier svscan intended is open, in its own place. None is adopted.
-- - Otherwise there is nothing, and the place is vacant.
abbrev pub taken_over : (vacant : Place) → Fate → (intended : Option Place) → Takeover
taken_over vacant (Lives process) intended = record {
  place = occupied vacant process.pid process.tick;
  is_open = false;
  adopted = Some process;
}
taken_over vacant other (Some place) = record { place = place; is_open = true; adopted = None }
taken_over vacant other None = record { place = vacant; is_open = false; adopted = None }

-- the process that lives, if one does
abbrev pub living : Fate → Option ProcessId
living (Lives process) = Some process
living other = None

-- A service begins with the process that its world adopts, if there is one.
abbrev pub AreOne : Remains → Type 0
AreOne remains = remains.taken.adopted ≡ living remains.left.process
