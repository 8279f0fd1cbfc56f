use Rattle.std.proofs.Common.{◌-◌, ◌∙◌, sym, ap, arith, List, ℕ}
use Rattle.std.specs.Cmp.Lexicographic.{slice_cmp}
use Rattle.std.specs.Ordering.{is_lt, nat_cmp}
use Rattle.cmd_multilog.proofs.Ordered.{place_behind}
use Rattle.cmd_multilog.proofs.names.place_of.Goals as goal

pub returns-then-is_below-clause-place : goal.returns-then-is_below-clause-place
returns-then-is_below-clause-place g c =
    place_behind c.args.name.now c.args.names.now c.loop-place.place (c.loop-place.place - 1) c.index-names-place.result
    c.requires
    c.loop-place.invariant.0 (omega (arith, c.loop-place-test.true)) c.index-names-place.is
    (ap (λ (other : List ℕ). is_lt (slice_cmp nat_cmp other c.args.name.now)) (sym c.as_slice.ensures)
    ∙ sym c.is_below.ensures ∙ c.if-is_below.true)
    c.loop-place.invariant.1
