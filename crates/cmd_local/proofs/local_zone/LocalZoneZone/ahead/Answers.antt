use Rattle.std.proofs.Common.{refl, ap, ◌∙◌, rules, FitsSigned, w32, w64}
use Rattle.std.proofs.lemmas.Int.{to_z-of_z}
use Rattle.jiff_core.specs.Timestamp.{nanos_of_seconds}
use Rattle.jiff_tz.specs.Zone.{offset_at}
use Rattle.jiff.specs.ZoneView.{plain_zone}
use Rattle.cmd_local.specs.Zones.{zone_ahead, nearest_second}
use Rattle.cmd_local.proofs.local_zone.LocalZoneZone.ahead.Goals as goal

pub returns-in-Utc : goal.returns-in-Utc
unfolding zone_ahead
returns-in-Utc c = rw (c.in-Utc.is) refl

pub returns-in-Table : goal.returns-in-Table
unfolding zone_ahead offset_at
returns-in-Table c =
    let fits : FitsSigned w64 c.args.second = search rules in
    let small : FitsSigned w32 c.seconds.result = search rules in
    let at = simp to_z-of_z at c.nearest-at.ensures in
    rw (c.in-Table.is) (to_z-of_z w32 c.seconds.result small ∙ c.seconds.ensures ∙ c.to_offset.ensures
    ∙ ap (offset_at (plain_zone c.tzif.result)) at
    ∙ ap (λ zone. offset_at zone (nanos_of_seconds (nearest_second c.args.second))) c.tzif.ensures)

pub returns-in-Rule : goal.returns-in-Rule
unfolding zone_ahead
returns-in-Rule c =
    let fits : FitsSigned w64 c.args.second = search rules in
    let small : FitsSigned w32 c.seconds-in-Rule.result = search rules in
    let at = simp to_z-of_z at c.nearest-at.ensures in
    rw (c.in-Rule.is) (to_z-of_z w32 c.seconds-in-Rule.result small ∙ c.seconds-in-Rule.ensures
    ∙ c.to_offset-in-Rule.ensures
    ∙ ap (offset_at (plain_zone c.in-Rule.rule)) at)
