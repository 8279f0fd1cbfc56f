use Rattle.std.proofs.Common.{◌≡◌, ◌<◌, [], ◌∷◌, ◌∙◌, ap, length, refl, subst, sym, slice_index_or}
use Rattle.scan_table.specs.Table.{after_end}
use Rattle.svc_host.specs.Calls.{HandsOut}
use Rattle.svc_host.specs.Parts.{HostPart, IsGoneIfEnded, IsJoined}
use Rattle.svc_host.specs.Rounds.{HostState, IsReaped}
use Rattle.svc_host.proofs.Calling.{back-one, hands-none}
use Rattle.svc_host.proofs.Going.{here_then, same_default, stays_same}
use Rattle.svc_host.proofs.Looking.{one_step, put_back}
use Rattle.svc_host.proofs.Moving.{came_then, reap_runs}
use Rattle.svc_host.proofs.host.Host.reap.Goals as goal

-- It runs

pub returns-then-not-is_to_be_joined-clause-parts : goal.returns-then-not-is_to_be_joined-clause-parts
returns-then-not-is_to_be_joined-clause-parts g c =
    let parts = c.self.inside.parts.items in
    let part = c.index_mut-part.result.now in
    let within = subst (λ (host : HostState). c.args.place < length host.parts) (sym c.self.view_is) c.requires in
    rw (← c.self.view_is) (one_step parts c.args.place part part within c.index_mut-part.ensures.value (stays_same part))

pub returns-then-not-is_to_be_joined-clause-returned : goal.returns-then-not-is_to_be_joined-clause-returned
returns-then-not-is_to_be_joined-clause-returned g c d =
    rw (← c.self.view_is) (hands-none (g.M.Maker.calls c.self.inside.factory.maker))

-- It has not begun

pub invariant_of-self-then-not-join_part : goal.invariant_of-self-then-not-join_part
invariant_of-self-then-not-join_part g c =
    let parts = c.self.inside.parts.items in
    let part = c.index_mut-part.result.now in
    let within = subst (λ (host : HostState). c.args.place < length host.parts) (sym c.self.view_is) c.requires in
    let same = c.if-not-join_part.ensures in
    rw (same.kept refl) (rw (same.unbegun refl)
    (rw (put_back parts c.args.place part within c.index_mut-part.ensures.value) c.self.invariant))

pub returns-then-not-join_part-clause-parts : goal.returns-then-not-join_part-clause-parts
returns-then-not-join_part-clause-parts g c =
    let parts = c.self.inside.parts.items in
    let part = c.index_mut-part.result.now in
    let within = subst (λ (host : HostState). c.args.place < length host.parts) (sym c.self.view_is) c.requires in
    rw (← c.self.view_is) (one_step parts c.args.place part c.join_part.new.part within c.index_mut-part.ensures.value
    c.join_part.ensures.same)

pub returns-then-not-join_part-clause-same : goal.returns-then-not-join_part-clause-same
returns-then-not-join_part-clause-same g c = λ always.
    let parts = c.self.inside.parts.items in
    let part = c.index_mut-part.result.now in
    let within = subst (λ (host : HostState). c.args.place < length host.parts) (sym c.self.view_is) c.requires in
    rw (← c.self.view_is) (rw (c.if-not-join_part.ensures.unbegun refl)
    (put_back parts c.args.place part within c.index_mut-part.ensures.value))

pub returns-then-not-join_part-clause-returned : goal.returns-then-not-join_part-clause-returned
returns-then-not-join_part-clause-returned g c d =
    rw (← c.self.view_is) (rw (c.if-not-join_part.ensures.kept refl)
    (hands-none (g.M.Maker.calls c.self.inside.factory.maker)))

-- It was joined

pub invariant_of-self-2 : goal.invariant_of-self-2
invariant_of-self-2 g c =
    let parts = c.self.inside.parts.items in
    let part = c.index_mut-part.result.now in
    let new = c.join_part.new.part in
    let ends = c.if-not-join_part.ensures in
    let joined = ends.joined refl in
    let within = subst (λ (host : HostState). c.args.place < length host.parts) (sym c.self.view_is) c.requires in
    let here : part ≡ slice_index_or parts c.args.place new =
    c.index_mut-part.ensures.value ∙ same_default parts c.args.place part new within in
    let reaped : IsReaped part new = record {
      goes_on = ends.same;
      ran = c.is_to_be_joined.ensures c.if-not-is_to_be_joined.false;
      joined = joined;
      gone = ends.gone joined.ended;
    } in
    came_then _ _ c.self.invariant
    (reap_runs _ _ c.args.place new within (subst (λ (old : HostPart). IsReaped old new) here reaped)
    (c.ended.ensures.table
    ∙ ap (after_end c.self.inside.table) (c.id-id.ensures ∙ ends.same.id ∙ ap (λ (p : HostPart). p.id) here)) refl)

pub returns-clause-parts : goal.returns-clause-parts
returns-clause-parts g c =
    let parts = c.self.inside.parts.items in
    let part = c.index_mut-part.result.now in
    let within = subst (λ (host : HostState). c.args.place < length host.parts) (sym c.self.view_is) c.requires in
    rw (← c.self.view_is) (one_step parts c.args.place part c.join_part.new.part within c.index_mut-part.ensures.value
    c.join_part.ensures.same)

pub returns-clause-ran : goal.returns-clause-ran
returns-clause-ran g c = λ always d.
    let parts = c.self.inside.parts.items in
    let part = c.index_mut-part.result.now in
    let within = subst (λ (host : HostState). c.args.place < length host.parts) (sym c.self.view_is) c.requires in
    rw (← c.self.view_is) (ap (λ (p : HostPart). p.has_ended)
    (sym (c.index_mut-part.ensures.value ∙ same_default parts c.args.place part d within))
    ∙ c.is_to_be_joined.ensures c.if-not-is_to_be_joined.false)

pub returns-clause-joined : goal.returns-clause-joined
returns-clause-joined g c = λ always d.
    let parts = c.self.inside.parts.items in
    let within = subst (λ (host : HostState). c.args.place < length host.parts) (sym c.self.view_is) c.requires in
    subst IsJoined (sym (here_then parts c.args.place c.join_part.new.part d within)) (c.if-not-join_part.ensures.joined refl)

pub returns-clause-gone : goal.returns-clause-gone
returns-clause-gone g c = λ always d.
    let parts = c.self.inside.parts.items in
    let within = subst (λ (host : HostState). c.args.place < length host.parts) (sym c.self.view_is) c.requires in
    subst IsGoneIfEnded (sym (here_then parts c.args.place c.join_part.new.part d within)) c.if-not-join_part.ensures.gone

pub returns-clause-returned : goal.returns-clause-returned
returns-clause-returned g c d =
    let parts = c.self.inside.parts.items in
    let part = c.index_mut-part.result.now in
    let within = subst (λ (host : HostState). c.args.place < length host.parts) (sym c.self.view_is) c.requires in
    let old = g.M.Maker.calls c.self.inside.factory.maker in
    let new = g.M.Maker.calls c.join_part.new.factory.maker in
    rw (← c.self.view_is) (subst (λ (here : HostPart). HandsOut old new [] (here.id ∷ []))
    (c.index_mut-part.ensures.value ∙ same_default parts c.args.place part d within)
    (back-one part c.join_part.new.part old new (c.if-not-join_part.ensures.gives_back refl)))
