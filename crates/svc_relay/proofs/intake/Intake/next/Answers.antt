use Rattle.std.proofs.Common.{◌≡◌, None, rules}
use Rattle.svc_mail.specs.Ends.{posted}
use Rattle.svc_relay.proofs.Carried.{reads_piece, reads_none, reads_not}
use Rattle.svc_relay.proofs.intake.Intake.next.Goals as goal

pub invariant_of-self : goal.invariant_of-self
invariant_of-self g c =
    let none : c.in-Ok-eq0.field-0 ≡ 0 = search rules in
    reads_none c.self.inside.opening.value c.self.inside.reader c.read.new.self _ c.read.new.into c.in-Ok-eq0.field-0
    none c.self.invariant c.in-Ok-eq0.ensures.bytes.0

pub invariant_of-self-in-Ok : goal.invariant_of-self-in-Ok
invariant_of-self-in-Ok g c =
    let none : c.self.inside.kept ≡ None = search rules in
    reads_piece c.self.inside.opening.value c.self.inside.reader c.read.new.self (posted c.self.inside.sender)
    c.self.inside.kept c.front.result _ none
    c.self.invariant c.in-Ok.ensures.bytes.0 c.front.ensures

pub invariant_of-self-in-Err : goal.invariant_of-self-in-Err
invariant_of-self-in-Err g c =
    reads_not c.self.inside.opening.value c.self.inside.reader c.read.new.self _ c.self.invariant c.in-Err.ensures.bytes

pub returns-in-Ok-eq0-clause-bytes : goal.returns-in-Ok-eq0-clause-bytes
returns-in-Ok-eq0-clause-bytes g c =
    let none : c.in-Ok-eq0.field-0 ≡ 0 = search rules in
    reads_none c.self.inside.opening.value c.self.inside.reader c.read.new.self _ c.read.new.into c.in-Ok-eq0.field-0
    none c.self.invariant c.in-Ok-eq0.ensures.bytes.0

pub returns-in-Ok-clause-bytes : goal.returns-in-Ok-clause-bytes
returns-in-Ok-clause-bytes g c =
    let none : c.self.inside.kept ≡ None = search rules in
    reads_piece c.self.inside.opening.value c.self.inside.reader c.read.new.self (posted c.self.inside.sender)
    c.self.inside.kept c.front.result _ none
    c.self.invariant c.in-Ok.ensures.bytes.0 c.front.ensures

pub returns-in-Err-clause-bytes : goal.returns-in-Err-clause-bytes
returns-in-Err-clause-bytes g c =
    reads_not c.self.inside.opening.value c.self.inside.reader c.read.new.self _ c.self.invariant c.in-Err.ensures.bytes
