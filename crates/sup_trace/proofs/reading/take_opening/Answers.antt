use Rattle.std.proofs.Common.{ℕ, [], Result, Ok, Err, ◌∙◌}
use Rattle.std.specs.Prelude.{IfOk, IfErr}
use Rattle.sup_core.specs.State.{State}
use Rattle.sup_trace.specs.declared.fault.TraceFault.{TraceFault}
use Rattle.sup_trace.specs.Content.{content_of}
use Rattle.sup_trace.specs.Reading.{Nothing, Header, Entries}
use Rattle.sup_trace.proofs.Steps.{line_read, entry_later}
use Rattle.sup_trace.proofs.reading.take_opening.Goals as goal

ok_so : {A E : Type 0} (P Q : A → Type 0) (r : Result A E) → ((x : A) → P x → Q x) → IfOk r P → IfOk r Q
ok_so P Q (Ok x) so h = so x h
ok_so P Q (Err e) so h = tt

err_so : {A E : Type 0} (P Q : E → Type 0) (r : Result A E) → ((e : E) → P e → Q e) → IfErr r P → IfErr r Q
err_so P Q (Ok x) so h = tt
err_so P Q (Err e) so h = so e h

pub returns-clause-ok : goal.returns-clause-ok
returns-clause-ok c =
    let first = line_read c.args.lines.now.number c.take_header.new.lines.number c.args.lines.now.rest.now
    c.take_header.new.lines.rest.now
    Nothing Header c.in_ok-take_header.ensures.ok in
    ok_so _ _ c.take_base.result (λ (opening : ℕ × State) reads.
    first ∙ line_read c.take_header.new.lines.number c.take_base.new.lines.number c.take_header.new.lines.rest.now
    c.take_base.new.lines.rest.now
    Header (Entries (content_of opening.1 opening.0 [])) reads) c.take_base.ensures.ok

pub returns-clause-entry : goal.returns-clause-entry
returns-clause-entry c =
    ok_so _ _ c.take_base.result (λ (opening : ℕ × State) reads at entry.
    entry_later at c.args.lines.now.number c.take_header.new.lines.number c.args.lines.now.rest.now
    c.take_header.new.lines.rest.now Nothing Header
    c.in_ok-take_header.ensures.ok
    (entry_later at c.take_header.new.lines.number c.take_base.new.lines.number c.take_header.new.lines.rest.now
    c.take_base.new.lines.rest.now
    Header (Entries (content_of opening.1 opening.0 [])) reads entry)) c.take_base.ensures.ok

pub returns-clause-fault : goal.returns-clause-fault
returns-clause-fault c =
    let first = line_read c.args.lines.now.number c.take_header.new.lines.number c.args.lines.now.rest.now
    c.take_header.new.lines.rest.now
    Nothing Header c.in_ok-take_header.ensures.ok in
    err_so _ _ c.take_base.result (λ (fault : TraceFault) is. first ∙ is) c.take_base.ensures.fault
