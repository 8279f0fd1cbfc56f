use Rattle.std.proofs.Common.{List, ap, ◌∙◌, subst, sym, refl, map, get_or, ◌++◌, ◌∷◌, []}
use Rattle.std.specs.List.{All}
use Rattle.std.proofs.lemmas.List.{map-append, take_more}
use Rattle.std.proofs.lemmas.List.Elements.{All-get_or}
use Rattle.scan_table.specs.declared.part.PartId.{PartId}
use Rattle.scan_table.specs.declared.part.Role.TheVariants.{Main}
use Rattle.cmd_svscan.specs.Leftovers.{AreRead, Reading, part_of}
use Rattle.cmd_svscan.proofs.Leftovers.{IsSomewhere, read-more, running-somewhere, still-somewhere}
use Rattle.cmd_svscan.proofs.losses.statuses.Goals as goal

pub loop-part-init : goal.loop-part-init
loop-part-init g c =
    let parts = c.args.host.now.parts in
    record {
      each = ap (map part_of) c.new-read.ensures.items;
      read = subst (λ (read : List Reading). AreRead read parts parts) (sym c.new-read.ensures.items) refl;
      table = refl;
      there = subst (λ (ids : List PartId). All (IsSomewhere parts) ids)
          (sym (c.deref-part-items.ensures.value ∙ c.in_ok-parts.ensures)) (running-somewhere parts);
    }

pub loop-part-preserved : goal.loop-part-preserved
loop-part-preserved g c =
    let old = c.args.host.now.parts in
    let middle = c.loop-part.host.parts in
    let new = c.status.new.self.parts in
    let at = c.loop-part.invariant in
    let ids = c.deref-part-items.result.now in
    let i = c.loop-part.part-index in
    let none : PartId = record { slot = 0; role = Main; life = 0 } in
    let one : Reading = (get_or ids i none, c.in-Some.view) in
    record {
      each = ap (map part_of) c.in_ok-push.ensures.items
          ∙ map-append part_of c.loop-part.read.items (one ∷ [])
          ∙ ap (λ (some : List PartId). some ++ one.0 ∷ []) at.each
          ∙ sym (take_more ids i none c.loop-part-test.true);
      read = subst (λ (read : List Reading). AreRead read old new) (sym c.in_ok-push.ensures.items)
          (read-more c.loop-part.read.items old middle new one at.read c.status.ensures.parts
          c.in-Some.ensures.there);
      table = c.status.ensures.table ∙ at.table;
      there = still-somewhere ids middle new c.status.ensures.parts at.there;
    }

pub loop-part-preserved-in_default : goal.loop-part-preserved-in_default
loop-part-preserved-in_default g c =
    let none : PartId = record { slot = 0; role = Main; life = 0 } in
    absurd (All-get_or (IsSomewhere c.loop-part.host.parts) c.deref-part-items.result.now c.loop-part.part-index none
    c.loop-part-test.true c.loop-part.invariant.there c.in_default.ensures.there)
