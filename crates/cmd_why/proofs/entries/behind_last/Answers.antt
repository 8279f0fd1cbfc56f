use Rattle.std.proofs.Common.{arith, get_or, drop, ◌+◌, ◌≡◌, ◌∷◌, add-one}
use Rattle.std.proofs.lemmas.Grind.{common_steps}
use Rattle.std.proofs.Math.Seq.{drop-cons}
use Rattle.cmd_why.specs.Entries.{is_of}
use Rattle.cmd_why.proofs.Lasts.{behind-next}
use Rattle.cmd_why.proofs.entries.behind_last.Goals.{then-is_of, else-is_of}
use Rattle.cmd_why.proofs.entries.behind_last.Goals as goal

pub loop-place-preserved : goal.loop-place-preserved
loop-place-preserved c =
    let es = c.args.entries.now in
    let i = c.loop-place.place in
    let e = c.index-entries-place.result in
    let next = behind-next (is_of c.args.kind) es i e c.loop-place-test.true in
    let rest : drop i es ≡ get_or es i e ∷ drop (i + 1) es = rw add-one (drop-cons es i e c.loop-place-test.true) in
    elim c.if-is_of.branch [
      | then-is_of w ↦ grind (
        arith,
        common_steps,
        next,
        w.if-is_of,
        w.behind-is,
        c.index-entries-place.is,
        c.is_of.ensures,
      )
      | else-is_of w ↦ grind (
        arith,
        common_steps,
        next,
        rest,
        w.if-is_of,
        w.behind-is,
        c.index-entries-place.is,
        c.is_of.ensures,
        c.loop-place.invariant,
      )
    ]
