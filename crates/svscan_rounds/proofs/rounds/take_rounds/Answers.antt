use Rattle.std.proofs.Common.{◌≡◌, ℕ, ◌+◌, Option, Some, subst, ap, ◌∙◌, refl, Bool}
use Rattle.svscan_rounds.specs.declared.orders.Order.{Order}
use Rattle.svscan_rounds.specs.Rounds.{effects, Answers, Rests}
use Rattle.svscan_rounds.proofs.Turning.{
  IsUnderWay,
  IsLeft,
  way_more,
  way_fails,
  way_done,
  way_left,
  way_none,
  way_report,
}
use Rattle.svscan_rounds.proofs.Turning.{less-some, less-none}
use Rattle.svscan_rounds.proofs.rounds.take_rounds.Goals as goal
use Rattle.svscan_rounds.proofs.rounds.take_rounds.Goals.{in-Some-left+else-number-eq1, in_default}

pub returns-then-not-take_round : goal.returns-then-not-take_round
returns-then-not-take_round g c =
    let calls = g.K.ServiceSet.calls in
    let made = c.take_round.ensures.round in
    let off = subst (λ (on : Bool). Answers on made.0) c.if-not-take_round.true made.1 in
    way_fails c.args.folder.now c.args.rounds c.loop.left c.loop.is_listed (effects (calls c.args.services.now) c.args.faults.now)
    (effects (calls c.loop.services) c.loop.faults)
    (effects (calls c.take_round.new.services) c.take_round.new.faults)
    (effects (calls c.end_all.new.services) c.end_all.new.faults) made.0 c.loop.invariant.0 made.2 off
    c.end_all.ensures.ends

pub returns-then-number-eq1 : goal.returns-then-number-eq1
returns-then-number-eq1 g c =
    let calls = g.K.ServiceSet.calls in
    let made = c.take_round.ensures.round in
    let on = subst (λ (on : Bool). Answers on made.0) c.if-not-take_round.false made.1 in
    let one : c.loop.left ≡ Some 1 = c.in-Some-left.is ∙ ap Some c.if-number-eq1.true in
    let old = effects (calls c.args.services.now) c.args.faults.now in
    let mid = effects (calls c.loop.services) c.loop.faults in
    let way = subst (λ (left : Option ℕ). IsUnderWay c.args.folder.now c.args.rounds left c.loop.is_listed old mid) one
    c.loop.invariant.0 in
    way_done c.args.folder.now c.args.rounds c.loop.is_listed old mid
    (effects (calls c.take_round.new.services) c.take_round.new.faults)
    (effects (calls c.end_all-then-number-eq1.new.services) c.end_all-then-number-eq1.new.faults) made.0 way made.2
    on c.end_all-then-number-eq1.ensures.ends

pub loop-init : goal.loop-init
loop-init g c = (
  way_none c.args.folder.now c.args.rounds (effects (g.K.ServiceSet.calls c.args.services.now) c.args.faults.now)
      c.requires.some,
  c.requires.ready,
)

pub loop-preserved : goal.loop-preserved
loop-preserved g c =
    let calls = g.K.ServiceSet.calls in
    let made = c.take_round.ensures.round in
    let on = subst (λ (on : Bool). Answers on made.0) c.if-not-take_round.false made.1 in
    let less : (count : ℕ) → IsLeft c.args.rounds c.loop.left count
    → IsLeft c.args.rounds c.match-left.left (count + 1) =
    elim c.match-left.branch [
      | in-Some-left+else-number-eq1 w ↦ less-some c.args.rounds c.loop.left c.match-left.left w.in-Some-left.number
          w.in-Some-left.is w.left-is w.if-number-eq1.false
      | in_default w ↦ less-none c.args.rounds c.loop.left c.match-left.left w.in_default.is w.left-is
    ] in (
      way_more c.args.folder.now c.args.rounds c.loop.left c.match-left.left c.loop.is_listed
          c.take_round.new.is_listed (effects (calls c.args.services.now) c.args.faults.now) (effects (calls c.loop.services) c.loop.faults)
          (effects (calls c.take_round.new.services) c.take_round.new.faults)
          (effects (calls c.rest.new.services) c.take_round.new.faults) made.0 c.loop.invariant.0 made.2 made.3 on
          c.in-Round.ensures.rests refl less,
      c.rest.ensures.ready,
    )

pub returns-in-End : goal.returns-in-End
returns-in-End g c =
    let calls = g.K.ServiceSet.calls in
    let made = c.take_round.ensures.round in
    let on = subst (λ (on : Bool). Answers on made.0) c.if-not-take_round.false made.1 in
    way_report c.args.folder.now c.args.rounds c.loop.left c.loop.is_listed (effects (calls c.args.services.now) c.args.faults.now)
    (effects (calls c.loop.services) c.loop.faults)
    (effects (calls c.take_round.new.services) c.take_round.new.faults)
    (effects (calls c.rest.new.services) c.take_round.new.faults)
    (effects (calls c.end_all-in-End.new.services) c.end_all-in-End.new.faults) made.0 c.loop.invariant.0 made.2 on
    c.in-End.ensures.rests refl c.end_all-in-End.ensures.ends

pub returns-in-Leave : goal.returns-in-Leave
returns-in-Leave g c =
    let calls = g.K.ServiceSet.calls in
    let made = c.take_round.ensures.round in
    let on = subst (λ (on : Bool). Answers on made.0) c.if-not-take_round.false made.1 in
    way_left c.args.folder.now c.args.rounds c.loop.left c.loop.is_listed (effects (calls c.args.services.now) c.args.faults.now)
    (effects (calls c.loop.services) c.loop.faults)
    (effects (calls c.take_round.new.services) c.take_round.new.faults)
    (effects (calls c.rest.new.services) c.take_round.new.faults)
    (effects (calls c.leave.new.services) c.leave.new.faults) made.0 c.loop.invariant.0 made.2 on
    c.in-Leave.ensures.rests refl c.leave.ensures.leaves
