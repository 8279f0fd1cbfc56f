-- By how much the clocks of a zone are ahead of UTC.
use Rattle.std.specs.Prelude.{ℤ, pos, neg_ℤ}
use Rattle.std.specs.Int.{int_max, int_min}
use Rattle.jiff_core.specs.Timestamp.{nanos_of_seconds}
use Rattle.jiff_tz.specs.Tzif.{offset_at as table_offset}
use Rattle.jiff_tz.specs.Zone.{offset_at}
use Rattle.jiff.specs.ZoneView.{plain_zone}
use Rattle.cmd_local.specs.declared.local_zone.LocalZone.{LocalZone}
use Rattle.cmd_local.specs.declared.local_zone.LocalZone.TheVariants as zone

-- a second of Unix time, or the nearest one that is looked up in the table of a zone
abbrev pub nearest_second : ℤ → ℤ
nearest_second second = int_max (neg_ℤ (pos 377_705_023_201)) (int_min second (pos 253_402_207_200))

-- by how many seconds clocks are ahead of UTC at a second of Unix time
unfoldable pub zone_ahead : LocalZone → ℤ → ℤ
zone_ahead zone.Utc second = pos 0
zone_ahead (zone.Table table) second = (table_offset table (nanos_of_seconds (nearest_second second))).seconds
zone_ahead (zone.Rule rule) second = offset_at (plain_zone rule) (nanos_of_seconds (nearest_second second))
