-- Names of parts.
use Rattle.std.proofs.Common.{◌≡◌, ℕ, ◌<◌, Bool, true, false, ◌&&◌, ◌==◌, refl, arith}
use Rattle.std.proofs.lemmas.Bool.Decides.{nat_tests}
use Rattle.scan_table.specs.declared.part.PartId.{PartId}
use Rattle.scan_table.specs.declared.part.Role.{Role}
use Rattle.scan_table.specs.declared.part.Role.TheVariants.{Main, Log}
use Rattle.scan_table.specs.Table.{is_at}
use Rattle.suite_core.specs.Parts.{is_role, is_part, is_place}
use Rattle.suite_core.specs.Places.{rank}

pub and-false : (b : Bool) → (b && false) ≡ false
and-false true = refl
and-false false = refl

pub is_part-self : (a : PartId) → is_part a a ≡ true
is_part-self a = grind (arith, nat_tests)

-- Two names that pass the test are the same.
pub is_part-same : (a b : PartId) → is_part a b ≡ true → a ≡ b
is_part-same a b same = grind (arith, nat_tests)

-- Another life means another part.
pub is_part-later : (a b : PartId) → b.life < a.life → is_part a b ≡ false
is_part-later a b later =
    let no : (b.life == a.life) ≡ false = grind (arith, nat_tests) in
    rw no (rw (and-false (is_role a.role b.role)) (and-false (a.slot == b.slot)))

-- A part at a place has the slot and the role of the place.
pub is_at-same : (part : PartId) (number : ℕ) (role : Role) → is_at part number role ≡ true
    → part ≡ record { slot = number; role = role; life = part.life }
is_at-same part number Main at = grind (arith, nat_tests)
is_at-same part number Log at = grind (arith, nat_tests)

pub is_place-rank : (a b : PartId) → is_place a b ≡ (rank a == rank b)
is_place-rank a b = grind (arith, nat_tests)

pub is_place-same : (a b : PartId) → is_place a b ≡ true → rank a ≡ rank b
is_place-same a b same = grind (arith, nat_tests)
