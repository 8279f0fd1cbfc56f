-- The devices of a command: those that it reads, writes, and reports its faults to.
use Rattle.std.specs.Prelude.{◌≡◌}
use Rattle.tai_status.specs.Counted.{Device, Works}

pub record Console : Type 0 where
  pub reader : Device
  pub writer : Device
  pub faults : Device

abbrev pub console : (reader writer faults : Device) → Console
console reader writer faults = record { reader = reader; writer = writer; faults = faults }

-- No device failed, and nothing was reported.
pub record EndsWell (old new : Console) : Type 0 where
  pub reads : Works old.reader new.reader
  pub writes : Works old.writer new.writer
  pub unreported : new.faults ≡ old.faults
