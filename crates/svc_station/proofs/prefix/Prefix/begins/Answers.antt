use Rattle.std.proofs.Common.{nat_le, List, ap, subst, refl}
use mathlib.Core.List.{IsPrefix}
use Rattle.sup_core.specs.declared.event.Event.{Event}
use Rattle.svc_station.proofs.Prefixes.{begins_by_length, else_by_length}
use Rattle.svc_station.proofs.prefix.Prefix.begins.Goals as goal

pub returns-clause-begins : goal.returns-clause-begins
returns-clause-begins c =
    let me = c.args.self.now in
    let other = c.args.other.now in
    let own : IsPrefix me.seen.log c.learn.new.self.log =
    subst (λ (l : List Event). IsPrefix l c.learn.new.self.log) (ap (λ s. s.log) c.again-both.ensures)
    c.learn.ensures.2 in
    begins_by_length me.seen.log other.seen.log c.learn.new.self.log me.count other.count (nat_le me.count other.count)
    me.counted other.counted refl own c.learn.ensures.3

pub returns-clause-other : goal.returns-clause-other
returns-clause-other c =
    let me = c.args.self.now in
    let other = c.args.other.now in
    let own : IsPrefix me.seen.log c.learn.new.self.log =
    subst (λ (l : List Event). IsPrefix l c.learn.new.self.log) (ap (λ s. s.log) c.again-both.ensures)
    c.learn.ensures.2 in
    else_by_length me.seen.log other.seen.log c.learn.new.self.log me.count other.count (nat_le me.count other.count)
    me.counted other.counted refl own c.learn.ensures.3
