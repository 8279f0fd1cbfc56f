-- Worked scans, by computation.
use Rattle.std.proofs.Common.{◌≡◌, List, [], ◌∷◌, true, false, refl, replicate, codes, Some}
use Rattle.scan_table.specs.declared.part.Role.TheVariants.{Main, Log}
use Rattle.scan_table.specs.Slots.{Row, SlotState}
use Rattle.scan_table.specs.Scan.{starts, restarts, drops, is_exhausted}

abbrev rows : List Row
rows =
    record { name = codes ".hid"; is_dir = true; has_log = false; down = false; log_down = false }
    ∷ record { name = codes "a"; is_dir = true; has_log = true; down = false; log_down = false }
    ∷ record { name = codes "b"; is_dir = true; has_log = false; down = false; log_down = false }
    ∷ record { name = codes "file"; is_dir = false; has_log = false; down = false; log_down = false }
    ∷ record { name = replicate 256 110; is_dir = true; has_log = true; down = false; log_down = false }
    ∷ []

-- a new table starts 0.main.1, 0.log.2, 3.main.4, 5.main.6
pub first_scan : starts [] 0 rows ≡
    record { slot = 0; role = Main; life = 1 } ∷ record { slot = 0; role = Log; life = 2 }
    ∷ record { slot = 3; role = Main; life = 4 } ∷ record { slot = 5; role = Main; life = 6 } ∷ []
first_scan = refl

abbrev one_row : List Row
one_row = record { name = codes "a"; is_dir = true; has_log = false; down = false; log_down = false } ∷ []

-- one directory needs two numbers: from `2 ^ 64 - 2` on too few are left, from `2 ^ 64 - 3` on enough
pub too_few : is_exhausted [] 18446744073709551614 one_row ≡ true
too_few = refl

pub enough : is_exhausted [] 18446744073709551613 one_row ≡ false
enough = refl

-- a pair whose log has ended restarts only its log; if its row is gone it stays, since its main part has not ended
abbrev pair : List SlotState
pair = record {
  number = 0;
  name = codes "a";
  main = record { number = 1; has_ended = false };
  log =
      Some (record { number = 2; has_ended = true });
} ∷ []

pub log_alone : restarts pair 3 one_row ≡ record { slot = 0; role = Log; life = 3 } ∷ []
log_alone = refl

pub still_there : drops pair [] ≡ []
still_there = refl
